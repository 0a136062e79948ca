use Rattle.std.proofs.Common.{ap, sym, ◌∙◌}
use Rattle.std.proofs.lemmas.Result.{IfOk-weaker}
use Rattle.run_lists.specs.RowSums.{stacks_of_run}
use Rattle.run_lists.proofs.listed.RunLists.stack_sums_of.Goals as goal

pub returns-in-Folded : goal.returns-in-Folded
returns-in-Folded c = record {
  told = λ t was.
      let run = c.args.run in
      let kind = c.in_ok-kind_of.field-0 in
      IfOk-weaker c.cell_sums_of.result _ _
      (λ sums is. (kind, c.in_ok-kind_of.ensures.told t was, λ k. is k ∙ sym (ap (λ a. stacks_of_run a run t k) c.in-Folded.is)))
      (c.cell_sums_of.ensures.told t was);
}
