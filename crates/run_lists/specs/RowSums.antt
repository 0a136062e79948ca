-- What the rows of a run sum to, part by part, as the small tables say.
use Rattle.std.specs.Prelude.{ℕ, zero, suc, ◌==◌, List, filter, sum_by}
use Rattle.plain_tables.specs.Tables.{Tables, RunRow, EventRow}
use Rattle.profile_records.specs.declared.kinds.Kind.{Kind}
use Rattle.profile_records.specs.declared.kinds.Kind.TheVariants.{Callgrind, Folded}
use Rattle.run_stores.specs.SelfSums.{events_of_run}
use Rattle.run_lists.specs.declared.listed.ListedEvent.{ListedEvent}
use Rattle.run_lists.specs.declared.listed.ListedRun.{ListedRun}

-- what the lines of part k sum to
abbrev pub sum_of_part : {L : Type 0} → (L → ℕ) → (L → ℕ) → ℕ → List L → ℕ
sum_of_part part amount k lines = sum_by amount (filter (λ l. part l == k) lines)

-- ---- in the tables

-- the cells of event k: its self cost
abbrev pub cells_of_run : ℕ → Tables → ℕ → ℕ
cells_of_run run t k = sum_of_part (λ (e : EventRow). e.place) (λ (e : EventRow). e.self_cost) k (events_of_run run t)

-- the calls: part 0 is how many there are, and part k + 1 what they cost in event k
abbrev pub calls_of_run : ℕ → Tables → ℕ → ℕ
calls_of_run run t zero = sum_by (λ (r : RunRow). r.call_count) (filter (λ (r : RunRow). r.number == run) t.runs)
calls_of_run run t (suc k) = sum_of_part (λ (e : EventRow). e.place) (λ (e : EventRow). e.call_cost) k (events_of_run run t)

-- the stacks: the samples of a folded file, its only event
abbrev pub stacks_of_run : Kind → ℕ → Tables → ℕ → ℕ
stacks_of_run Callgrind run t k = 0
stacks_of_run Folded run t k = cells_of_run run t k

-- ---- in the lists

abbrev pub listed_of_run : ℕ → List ListedEvent → List ListedEvent
listed_of_run run events = filter (λ (e : ListedEvent). e.run == run) events

abbrev pub self_costs : ℕ → List ListedEvent → ℕ → ℕ
self_costs run events k = sum_of_part (λ (e : ListedEvent). e.place) (λ (e : ListedEvent). e.self_cost) k (listed_of_run run events)

abbrev pub costs_of_calls : ℕ → List ListedEvent → ℕ → ℕ
costs_of_calls run events k = sum_of_part (λ (e : ListedEvent). e.place) (λ (e : ListedEvent). e.call_cost) k (listed_of_run run events)

abbrev pub counts_of_calls : ℕ → List ListedRun → ℕ
counts_of_calls number runs = sum_by (λ (r : ListedRun). r.call_count) (filter (λ (r : ListedRun). r.entry.number == number) runs)
