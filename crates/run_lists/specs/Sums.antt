-- Sums of the events in lists.
use Rattle.std.specs.Prelude.{ℕ, List, filter, sum_by, bytes_eq}
use Rattle.run_lists.specs.declared.listed.ListedEvent.{ListedEvent}
use Rattle.run_stores.specs.SelfSums.{PlacedSum}

-- a place and the sum there
abbrev pub placed_sum : ℕ × ℕ → PlacedSum
placed_sum p = record { place = p.0; sum = p.1 }

abbrev pub events_named : List ℕ → List ListedEvent → List ListedEvent
events_named name events = filter (λ (e : ListedEvent). bytes_eq e.name.items name) events

-- the self costs of an event, in all runs that have it
abbrev pub self_sum : List ListedEvent → List ℕ → ℕ
self_sum events name = sum_by (λ (e : ListedEvent). e.self_cost) (events_named name events)

-- and the costs of its calls
abbrev pub calls_sum : List ListedEvent → List ℕ → ℕ
calls_sum events name = sum_by (λ (e : ListedEvent). e.call_cost) (events_named name events)
