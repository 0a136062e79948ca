use Rattle.std.proofs.Common.{◌≡◌, ◌∙◌, ◌==◌, ap, rules, tests}
use Rattle.std.specs.List.{list_any}
use Rattle.std.proofs.lemmas.Iterator.{YieldsList-from_slice}
use Rattle.std.proofs.lemmas.Iterator.Search.{any_from_yields_List}
use Rattle.plain_tables.specs.Tables.{RunRow}
use Rattle.run_lists.specs.Listed.{run_row}
use Rattle.run_lists.specs.declared.listed.ListedRun.{ListedRun}
use Rattle.run_lists.proofs.Rows.{any_row}
use Rattle.run_lists.proofs.listed.RunLists.has_run.Goals as goal

pub returns : goal.returns
returns c = record {
  told = λ t was.
      let lines = c.args.self.now.runs.items in
      let is_it = λ (r : RunRow). r.number == c.args.run in
      let found : c.any.result ≡ list_any (λ (line : ListedRun). line.entry.number == c.args.run) lines =
      any_from_yields_List (λ (line : ListedRun). line.entry.number == c.args.run) _ _ c.any.result c.any.ensures.ran (YieldsList-from_slice lines (cc)) (λ x b q k. search (rules, tests)) in
      found ∙ any_row run_row is_it lines ∙ ap (list_any is_it) was.runs;
}
