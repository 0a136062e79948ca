use Rattle.std.proofs.Common.{◌≤◌, ◌↔◌, IsTrue, length, subst}
use Rattle.std.specs.List.{AllAdjacentBelow}
use Rattle.std.proofs.lemmas.List.Sorted.{IsNonDecreasingBy-from_all_adjacent, all_adjacent_from_non_decreasing}
use Rattle.run_lists.proofs.run_lines.RunLines.new.Goals as goal

pub invariant_of-result : goal.invariant_of-result
invariant_of-result g c =
    let of = g.L.OfRun.run_of in
    let lines = c.args.lines.items in
    let told = subst (λ all. IsTrue c.do_rise-rising.result ↔ AllAdjacentBelow (λ a b. of a ≤ of b) all (length all)) c.deref.ensures.value c.do_rise-rising.ensures in
    ((λ rising. IsNonDecreasingBy-from_all_adjacent of lines (told.0 rising)), (λ sorted. told.1 (all_adjacent_from_non_decreasing of lines sorted)))
