use Rattle.std.proofs.Common.{◌≤◌, subst, arith, IsPermutation}
use Rattle.std.proofs.lemmas.List.Sorted.{IsPermutation-trans}
use Rattle.selected_runs.specs.Ranked.{sums_of}
use Rattle.selected_runs.specs.Sums.{SumsByNumber, numbers_total}
use Rattle.selected_runs.proofs.EnoughLemmas.{total_moved}
use Rattle.selected_runs.proofs.sums.NumberSums.ranked.Goals as goal

pub invariant_of-result : goal.invariant_of-result
invariant_of-result c =
    let moved = total_moved (sums_of c.rank.new.rows.items) (sums_of c.into_slots-rows.result.items) c.rank.ensures.same in
    let slots = total_moved (sums_of c.into_slots-rows.result.items) c.self.inside.sums c.into_slots-rows.ensures in
    let total = c.self.inside.is_total in
    let within : numbers_total (sums_of c.rank.new.rows.items) ≤ c.self.inside.total = omega (arith, moved, slots, total) in
    (c.rank.ensures.order, (within, (c.self.inside.small, tt)))

pub returns-clause-sums : goal.returns-clause-sums
returns-clause-sums c =
    let P : SumsByNumber → Type 0 = λ s. IsPermutation (sums_of c.rank.new.rows.items) s.sums in
    subst P c.self.view_is (IsPermutation-trans (sums_of c.rank.new.rows.items) (sums_of c.into_slots-rows.result.items) c.self.inside.sums c.rank.ensures.same c.into_slots-rows.ensures)
