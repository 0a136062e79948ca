use Rattle.std.proofs.Common.{ℕ, ◌∷◌, if◌then◌else◌, slice_index, ap, ◌∙◌}
use Rattle.run_lists.specs.RowSums.{counts_of_calls, sum_of_part}
use Rattle.run_lists.specs.declared.listed.ListedEvent.{ListedEvent}
use Rattle.run_lists.proofs.RunSums.{calls_told}
use Rattle.run_lists.proofs.listed.RunLists.call_sums_of.Goals as goal

pub returns : goal.returns
returns c = record {
  told = λ t was k.
      let run = c.args.run in
      let count = c.in_ok-count.ensures ∙ ap (counts_of_calls run) c.deref.ensures.value in
      let costs = λ (j : ℕ). c.in_ok-sums.ensures.calls j ∙ ap (sum_of_part (λ (e : ListedEvent). e.place) (λ (e : ListedEvent). e.call_cost) j) c.of_run.ensures.all in
      ap (λ l. slice_index l k) (c.insert.ensures.items ∙ ap (λ b. if b then c.in_ok-count.count ∷ c.in_ok-sums.sums.call_costs.items else c.in_ok-sums.sums.call_costs.items) c.if-is_err.ensures.negation)
      ∙ calls_told t c.args.self.now was run c.in_ok-count.count c.in_ok-sums.sums.call_costs.items count costs k;
}
