use Rattle.std.proofs.Common.{rules, ◌≡◌, ◌==◌, ◌-◌, ◌+◌, ◌<◌, ℕ, ltb, leb, length, get_or, take, drop, filter, ap, subst, ◌∙◌, arith, length-drop}
use Rattle.std.proofs.lemmas.List.{get_or-drop, take_all}
use Rattle.std.proofs.lemmas.List.Sorted.{IsNonDecreasingBy-drop, IsNonDecreasingBy-take, IsPartitionPoint-from_clause, IsPartitionedBy-leb, IsPartitionedBy-ltb}
use Rattle.run_lists.proofs.LinesOfRuns.{above, at_least, at_most, below, front_alone, left_out_before}
use Rattle.run_lists.proofs.run_lines.lines_of.Goals as goal

pub returns : goal.returns
returns g c =
    let of = g.L.OfRun.run_of in
    let run : ℕ = c.args.run in
    let lines = c.args.lines.now in
    let start : ℕ = c.partition_point-start.result in
    let end : ℕ = c.partition_point-end.result in
    let more : ℕ = length lines - start in
    let rest = take more (drop start lines) in
    let whole : rest ≡ drop start lines = take_all more (drop start lines) (simp length-drop (omega arith)) in
    let up = IsNonDecreasingBy-take of more (drop start lines) (IsNonDecreasingBy-drop of start lines c.requires) in
    let first = IsPartitionPoint-from_clause (λ x. ltb (of x) run) _ _ c.partition_point-start.ensures.partitioned (IsPartitionedBy-ltb of lines run c.requires) (λ a r q k. search rules) in
    let last = IsPartitionPoint-from_clause (λ x. leb (of x) run) _ _ c.partition_point-end.ensures.partitioned (IsPartitionedBy-leb of rest run up) (λ a r q k. search rules) in
    let inside : (k : ℕ) → k < length rest → start + k < length lines = λ k within. omega (arith, subst (λ l. k < length l) whole within, length-drop start lines) in
    let same : (k : ℕ) (d : g.row.L.Denot) → k < end → k < length rest → of (get_or rest k d) ≡ run = λ k d low within.
    let there : get_or rest k d ≡ get_or lines (start + k) d = ap (λ l. get_or l k d) whole ∙ get_or-drop start lines k d in
    let high = at_least _ run (first.1 (start + k) d (omega arith) (inside k within)) in
    omega (arith, ap of there, high, at_most _ run (last.0 k d (omega arith) low)) in
    front_alone of run rest end same (λ k d high within. above _ run (last.1 k d high within))
    ∙ ap (filter (λ l. of l == run)) whole
    ∙ left_out_before of run lines start (λ k d low within. below _ run (first.0 k d (omega arith) low))
