-- Sums over all runs that are held, in the tables.
use Rattle.std.specs.Prelude.{◌≡◌, ◌<◌, ℕ, List, map, filter, sum_by, bytes_eq}
use Rattle.std.specs.List.{AllByRecursion}
use Rattle.cost_rows.specs.KeySums.{sum_end}
use Rattle.cost_rows.specs.declared.rows.FileTotals.{FileTotals}
use Rattle.plain_tables.specs.Tables.{Tables, EventRow, RunRow}

abbrev pub lines_named : List ℕ → Tables → List EventRow
lines_named name t = filter (λ (e : EventRow). bytes_eq e.name name) t.events

-- the self costs of an event, in all runs that have it
abbrev pub held_self : Tables → List ℕ → ℕ
held_self t name = sum_by (λ (e : EventRow). e.self_cost) (lines_named name t)

-- and the costs of its calls
abbrev pub held_calls : Tables → List ℕ → ℕ
held_calls t name = sum_by (λ (e : EventRow). e.call_cost) (lines_named name t)

-- the calls of all runs
abbrev pub held_count : Tables → ℕ
held_count t = sum_by (λ (r : RunRow). r.call_count) t.runs

pub record IsHeldIn (t : Tables) (events : List (List ℕ)) (totals : FileTotals) : Type 0 where
  pub self_cost : totals.self_cost ≡ map (held_self t) events
  pub call_cost : totals.call_cost ≡ map (held_calls t) events
  pub call_count : totals.call_count ≡ held_count t

-- each of these sums is below 2^112
pub record TotalsFit (t : Tables) (events : List (List ℕ)) : Type 0 where
  pub self_cost : AllByRecursion (λ name. held_self t name < sum_end) events
  pub call_cost : AllByRecursion (λ name. held_calls t name < sum_end) events
  pub call_count : held_count t < sum_end
