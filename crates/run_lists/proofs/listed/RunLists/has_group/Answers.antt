use Rattle.std.proofs.Common.{◌≡◌, ◌∙◌, bytes_eq, string_bytes, ap, rules, tests}
use Rattle.std.specs.List.{list_any}
use Rattle.std.proofs.lemmas.Iterator.{YieldsList-from_slice}
use Rattle.std.proofs.lemmas.Iterator.Search.{any_from_yields_List}
use Rattle.plain_tables.specs.Changes.{is_named}
use Rattle.run_lists.specs.Listed.{group_row}
use Rattle.run_lists.specs.declared.listed.ListedGroup.{ListedGroup}
use Rattle.run_lists.proofs.Rows.{any_row}
use Rattle.run_lists.proofs.listed.RunLists.has_group.Goals as goal

pub returns : goal.returns
returns c = record {
  told = λ t was.
      let lines = c.args.self.now.groups.items in
      let name = c.args.name.now in
      let found : c.any.result ≡ list_any (λ (line : ListedGroup). bytes_eq (string_bytes line.name) name) lines =
      any_from_yields_List (λ (line : ListedGroup). bytes_eq (string_bytes line.name) name) _ _ c.any.result c.any.ensures.ran (YieldsList-from_slice lines (cc)) (λ x b q k. search (rules, tests)) in
      found ∙ any_row group_row (is_named name) lines ∙ ap (list_any (is_named name)) was.groups;
}
