use Rattle.std.proofs.Common.{◌≡◌, ◌∙◌, map, ap, subst, sym, inl, inr, IsPermutation}
use Rattle.std.proofs.lemmas.Result.{IfErr-weaker, IfOk-weaker}
use Rattle.run_stores.specs.SelfSums.{AreSelfSums, events_of_run, sums_from}
use Rattle.run_lists.specs.Sums.{placed_sum}
use Rattle.run_lists.specs.declared.listed.ListedEvent.{ListedEvent}
use Rattle.plain_tables.specs.declared.errors.StoreError.TheVariants.{Memory}
use Rattle.run_lists.proofs.PlacedSums.{sorted_sums}
use Rattle.run_lists.proofs.SumLists.{rows_placed, sums_told}
use Rattle.run_lists.proofs.listed.RunLists.sums_of.Goals as goal

pub returns : goal.returns
returns c = record {
  told = λ t was.
      let run = c.args.run in
      let sorted = c.sort_unstable.new.self.items in
      let read = c.in_ok-placed.ensures.read ∙ ap (map (λ (e : ListedEvent). (e.place, e.self_cost))) c.of_run.ensures.all in
      IfOk-weaker c.sums_in_order.result (λ sums. sums_from 0 sums ≡ map placed_sum c.deref.result.now) (AreSelfSums (events_of_run run t))
      (λ sums are. sums_told t c.args.self.now was run c.in_ok-placed.placed.items sorted sums read c.sort_unstable.ensures.permutation (are ∙ ap (map placed_sum) c.deref.ensures.value))
      c.sums_in_order.ensures.read;
  serves = λ t was have.
      let read = c.in_ok-placed.ensures.read ∙ ap (map (λ (e : ListedEvent). (e.place, e.self_cost))) c.of_run.ensures.all in
      let placed = c.in_ok-placed.placed.items in
      let rows = rows_placed t c.args.self.now was c.args.run placed read in
      let moved = subst (λ l. IsPermutation l (sums_from 0 have.0)) rows have.1 in
      let sorted = sorted_sums placed c.sort_unstable.new.self.items have.0 moved c.sort_unstable.ensures.permutation c.sort_unstable.ensures.sorted in
      IfErr-weaker c.sums_in_order.result _ (λ e. e ≡ Memory) (λ e why. elim why [ inl memory ↦ memory | inr none ↦ absurd (none have.0 (sorted ∙ ap (map placed_sum) (sym c.deref.ensures.value))) ])
      c.sums_in_order.ensures.refused;
}
