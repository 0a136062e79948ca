use Rattle.std.proofs.Common.{ap, ◌∙◌}
use Rattle.run_lists.specs.RowSums.{sum_of_part}
use Rattle.run_lists.specs.declared.listed.ListedEvent.{ListedEvent}
use Rattle.run_lists.proofs.RunSums.{cells_told}
use Rattle.run_lists.proofs.listed.RunLists.cell_sums_of.Goals as goal

pub returns : goal.returns
returns c = record {
  told = λ t was k.
      c.in_ok-sums.ensures.cells k ∙ ap (sum_of_part (λ (e : ListedEvent). e.place) (λ (e : ListedEvent). e.self_cost) k) c.of_run.ensures.all
      ∙ cells_told t c.args.self.now was c.args.run k;
}
