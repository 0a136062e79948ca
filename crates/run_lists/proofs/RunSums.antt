-- The sums of a run, in the lists and in the tables.
use Rattle.std.proofs.Common.{◌≡◌, ◌==◌, ℕ, zero, suc, List, ◌∷◌, slice_index, filter, map, sum_by, sym, ap, ◌∙◌}
use Rattle.plain_tables.specs.Tables.{Tables, EventRow, RunRow}
use Rattle.run_stores.specs.SelfSums.{events_of_run}
use Rattle.run_lists.specs.Listed.{AreListed, event_row, run_row}
use Rattle.run_lists.specs.RowSums.{calls_of_run, cells_of_run, costs_of_calls, counts_of_calls, listed_of_run, self_costs, sum_of_part}
use Rattle.run_lists.specs.declared.listed.ListedEvent.{ListedEvent}
use Rattle.run_lists.specs.declared.listed.ListedRun.{ListedRun}
use Rattle.run_lists.specs.declared.listed.RunLists.{RunLists}
use Rattle.run_lists.proofs.Rows.{filter_row}
use Rattle.run_lists.proofs.SumLists.{sum_row}

module _ (t : Tables) (lists : RunLists) (was : AreListed t lists) (run : ℕ) where
  events_same : map event_row (listed_of_run run lists.events) ≡ events_of_run run t
  events_same =
      let is_it = λ (e : EventRow). e.run == run in
      sym (filter_row event_row is_it lists.events) ∙ ap (filter is_it) was.events

  event_sum : (f : EventRow → ℕ) (k : ℕ) → sum_of_part (λ (e : ListedEvent). e.place) (λ e. f (event_row e)) k (listed_of_run run lists.events) ≡ sum_of_part (λ (e : EventRow). e.place) f k (events_of_run run t)
  event_sum f k =
      let at_place = λ (e : EventRow). e.place == k in
      sum_row event_row f (filter (λ (e : ListedEvent). e.place == k) (listed_of_run run lists.events)) (filter at_place (events_of_run run t))
      (sym (filter_row event_row at_place (listed_of_run run lists.events)) ∙ ap (filter at_place) events_same)

  pub cells_told : (k : ℕ) → self_costs run lists.events k ≡ cells_of_run run t k
  cells_told k = event_sum (λ e. e.self_cost) k

  counts_told : counts_of_calls run lists.runs.items ≡ sum_by (λ (r : RunRow). r.call_count) (filter (λ (r : RunRow). r.number == run) t.runs)
  counts_told =
      let is_it = λ (r : RunRow). r.number == run in
      sum_row run_row (λ (r : RunRow). r.call_count) (filter (λ (r : ListedRun). r.entry.number == run) lists.runs.items) (filter is_it t.runs)
      (sym (filter_row run_row is_it lists.runs.items) ∙ ap (filter is_it) was.runs)

  -- the count, and behind it the costs
  pub calls_told : (count : ℕ) (costs : List ℕ) → count ≡ counts_of_calls run lists.runs.items → ((k : ℕ) → slice_index costs k ≡ costs_of_calls run lists.events k)
      → (k : ℕ) → slice_index (count ∷ costs) k ≡ calls_of_run run t k
  calls_told count costs first rest zero = first ∙ counts_told
  calls_told count costs first rest (suc k) = rest k ∙ event_sum (λ e. e.call_cost) k
