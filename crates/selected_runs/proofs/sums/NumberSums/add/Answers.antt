use Rattle.std.proofs.Common.{ap, ◌∙◌, arith}
use Rattle.selected_runs.specs.Sums.{SumsByNumber, numbers_total}
use Rattle.selected_runs.proofs.NumberLemmas.{total_with}
use Rattle.selected_runs.proofs.sums.NumberSums.add.Goals as goal

pub invariant_of-self-inside-2 : goal.invariant_of-self-inside-2
invariant_of-self-inside-2 c =
    let grown = ap numbers_total c.in_ok-add.ensures.ok ∙ total_with c.part_of_row.result c.args.row.now.cost c.self.inside.sums in
    let all = ap (λ (s : SumsByNumber). numbers_total s.sums) c.self.view_is in
    let total = c.self.inside.is_total in
    (omega (arith, grown, total), (omega (arith, all, total, c.requires.small), tt))
