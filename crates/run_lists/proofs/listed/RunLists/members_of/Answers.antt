use Rattle.std.proofs.Common.{◌≡◌, ◌==◌, ◌∙◌, ℕ, Bool, map, filter, bytes_eq, string_bytes, IsPermutation, sym, ap, subst}
use Rattle.std.specs.List.{list_any}
use Rattle.std.specs.List.Sorted.{IsNonDecreasing}
use Rattle.std.proofs.lemmas.List.{take_all}
use Rattle.std.proofs.lemmas.List.Sorted.{IsNonDecreasingBy-from_sort}
use Rattle.plain_tables.specs.Changes.{has_member}
use Rattle.plain_tables.specs.Tables.{RunRow}
use Rattle.run_lists.specs.Listed.{run_row}
use Rattle.run_lists.specs.declared.listed.ListedMember.{ListedMember}
use Rattle.run_lists.specs.declared.listed.ListedRun.{ListedRun}
use Rattle.run_lists.proofs.NumberLists.{filter_same, member_found, number_kept, number_left}
use Rattle.run_lists.proofs.Rows.{is_ok_then, map_row}
use Rattle.run_lists.proofs.listed.RunLists.members_of.Goals as goal
use Rattle.run_lists.proofs.listed.RunLists.members_of.Goals.{else-is_among-via-then-is_among+else-is_err, else-is_among-via-else-is_among}

number_of : ListedRun → ℕ
number_of r = r.entry.number

pub loop-line-preserved : goal.loop-line-preserved
unfolding number_of
loop-line-preserved c =
    let sorted = c.sort_unstable.new.self.items in
    let items = c.deref-line-items.result.now in
    let at = c.loop-line.line-index in
    let line = c.line-item.result in
    let is_member : ℕ → Bool = λ n. list_any (λ m. m == n) sorted in
    let rises : IsNonDecreasing sorted = IsNonDecreasingBy-from_sort (λ (n : ℕ). n) sorted c.sort_unstable.ensures.sorted in
    let found : c.is_among.result ≡ is_member line.entry.number =
    c.is_among.ensures.found (subst IsNonDecreasing (sym c.deref-in-loop-line.ensures.value) rises) ∙ ap (list_any (λ m. m == line.entry.number)) c.deref-in-loop-line.ensures.value in
    elim c.else-is_among.branch [
      | else-is_among-via-then-is_among+else-is_err w ↦
          w.numbers-is ∙ is_ok_then w.push.result w.if-is_err.ensures.negation w.push.ensures.ok
          ∙ number_kept is_member number_of items at line c.loop-line-test.true c.line-item.is c.loop-line.numbers (sym found ∙ w.if-is_among.true) c.loop-line.invariant
      | else-is_among-via-else-is_among w ↦
          w.numbers-is ∙ number_left is_member number_of items at line c.loop-line-test.true c.line-item.is c.loop-line.numbers (sym found ∙ w.if-is_among.false) c.loop-line.invariant
    ]

pub returns : goal.returns
returns c = record {
  refused = tt;
  told = λ t was.
      let members = c.args.self.now.members.items in
      let name = c.args.name.now in
      let sorted = c.sort_unstable.new.self.items in
      let items = c.deref-line-items.result.now in
      let is_member : ℕ → Bool = λ n. list_any (λ m. m == n) sorted in
      let theirs : c.in_ok-members.members.items ≡ map (λ (m : ListedMember). m.run) (filter (λ (m : ListedMember). bytes_eq (string_bytes m.group) name) members) =
      c.in_ok-members.ensures.read ∙ ap (λ l. map (λ (m : ListedMember). m.run) (filter (λ (m : ListedMember). bytes_eq (string_bytes m.group) name) l)) c.deref.ensures.value in
      let moved = subst (λ l. IsPermutation l sorted) theirs c.sort_unstable.ensures.permutation in
      c.loop-line.invariant ∙ ap (λ l. filter is_member (map (λ (r : ListedRun). r.entry.number) l)) (take_all c.loop-line.line-index items c.loop-line-test.false ∙ c.deref-line-items.ensures.value)
      ∙ filter_same is_member (has_member t name) (map (λ (r : ListedRun). r.entry.number) c.args.self.now.runs.items) (λ n. member_found name n members t.members sorted was.members moved)
      ∙ ap (filter (has_member t name)) (map_row run_row (λ (r : RunRow). r.number) c.args.self.now.runs.items ∙ ap (map (λ (r : RunRow). r.number)) was.runs);
}
