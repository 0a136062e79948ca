use Rattle.std.proofs.Common.{◌≡◌, ℕ, ◌*◌, ◌≤◌, List, length, take, ap, sym, ◌∙◌, subst, arith}
use Rattle.std.proofs.lemmas.List.{length-map, take-map}
use Rattle.cost_reports.specs.Enough.{AreEnough}
use Rattle.selected_runs.specs.Ranked.{SumsByCost, sum_of, sums_of, CostsFall, Reached, IsApart}
use Rattle.selected_runs.specs.Sums.{numbers_total}
use Rattle.selected_runs.specs.declared.parts.NumberPart.{NumberPart}
use Rattle.selected_runs.specs.declared.parts.PartSum.{PartSum}
use Rattle.selected_runs.proofs.EnoughLemmas.{enough_front, falls_front, total_within}
use Rattle.selected_runs.proofs.ranked.RankedSums.keep_shown.Goals as goal
use Rattle.selected_runs.proofs.ranked.RankedSums.keep_shown.Goals.{After-truncate}

-- what is left is a front
front : (c : After-truncate) → sums_of c.truncate.new.self.items ≡ take c.count_tied-count.result (sums_of c.self.inside.rows.items)
front c = ap sums_of c.truncate.ensures.items ∙ sym (take-map sum_of c.count_tied-count.result c.self.inside.rows.items)

pub invariant_of-self-inside : goal.invariant_of-self-inside
invariant_of-self-inside c =
    let old : List (NumberPart × ℕ) = sums_of c.self.inside.rows.items in
    let n : ℕ = c.count_tied-count.result in
    let falls : CostsFall (sums_of c.truncate.new.self.items) =
    subst (λ (sums : List (NumberPart × ℕ)). CostsFall sums) (sym (front c)) (falls_front n old c.self.inside.falling) in
    let left = ap numbers_total (front c) in
    let most = total_within n old in
    let all : numbers_total old ≤ c.self.inside.total = c.self.inside.within in
    let within : numbers_total (sums_of c.truncate.new.self.items) ≤ c.self.inside.total = omega (arith, left, most, all) in
    (falls, (within, (c.self.inside.small, tt)))

-- the counts are those of the rows that the sums were
pub returns-clause-enough : goal.returns-clause-enough
returns-clause-enough c = λ whole.
    let at = (goal.at.returns-clause-enough c).After-truncate in
    let old : List PartSum = c.self.inside.rows.items in
    let count : ℕ = c.count_reaching-count.result in
    let end : ℕ = c.count_tied-count.result in
    let total : c.self.inside.total ≡ numbers_total (sums_of old) =
    ap (λ (a : SumsByCost). a.total) c.self.view_is ∙ sym whole ∙ ap (λ (a : SumsByCost). numbers_total a.sums) (sym c.self.view_is) in
    let reached : Reached (c.from.result * c.self.inside.total) c.args.cut.limit (sums_of old) count =
    subst (λ (rows : List PartSum). Reached (c.from.result * c.self.inside.total) c.args.cut.limit (sums_of rows) count) c.deref.ensures.value c.count_reaching-count.ensures in
    let needed : Reached (c.args.cut.threshold * numbers_total (sums_of old)) c.args.cut.limit (sums_of old) count =
    subst (λ (m : ℕ). Reached (m * numbers_total (sums_of old)) c.args.cut.limit (sums_of old) count) c.from.ensures
    (subst (λ (n : ℕ). Reached (c.from.result * n) c.args.cut.limit (sums_of old) count) total reached) in
    let apart : IsApart (sums_of old) end =
    subst (λ (rows : List PartSum). IsApart (sums_of rows) end) c.deref-2.ensures.value c.count_tied-count.ensures.apart in
    let lent = ap (λ (rows : List PartSum). length rows) c.deref-2.ensures.value in
    let within : end ≤ length (sums_of old) = omega (arith, length-map old sum_of, lent, c.count_tied-count.ensures.within) in
    subst (λ (a : SumsByCost). AreEnough (λ (e : NumberPart × ℕ). e.1) c.args.cut a.sums (sums_of c.truncate.new.self.items)) c.self.view_is
    (subst (λ (left : List (NumberPart × ℕ)). AreEnough (λ (e : NumberPart × ℕ). e.1) c.args.cut (sums_of old) left) (sym (front at))
    (enough_front (sums_of old) c.self.inside.falling end within apart c.args.cut count c.count_tied-count.ensures.least needed))
