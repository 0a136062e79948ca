-- What the rows that are walked sum to.
use Rattle.std.specs.Prelude.{◌≡◌, ℕ, ◌+◌, Bool, false, ◌&&◌, ◌||◌, ◌==◌, List, [], ◌∷◌, slice_index, if◌then◌else◌}
use Rattle.cost_rows.specs.Keys.{place_of_row}
use Rattle.cost_rows.specs.Content.{Content}
use Rattle.cost_rows.specs.Sums.{Spot, cells_where, calls_where, counts_where, has_edge, stacks_where}
use Rattle.cost_rows.specs.Walks.{named_cells, named_calls, counted_stacks}
use Rattle.cost_rows.specs.declared.rows.CellRow.{CellRow}
use Rattle.cost_rows.specs.declared.rows.ArcRow.{ArcRow}
use Rattle.cost_rows.specs.declared.rows.StackRow.{StackRow}

-- what the rows of event k at places that pass cost
abbrev pub rows_cost : (Spot → Bool) → ℕ → List (CellRow (List ℕ)) → ℕ
rows_cost passes k [] = 0
rows_cost passes k (r ∷ rows) = (if passes (place_of_row r) && (r.event == k) then r.cost else 0) + rows_cost passes k rows

-- the place of a row of calls, and whom they called
abbrev pub caller_of_row : ArcRow (List ℕ) (List ℕ) → Spot
caller_of_row r = record { object = r.object; file = r.file; function = r.function; line = r.line; thread = 0 }

abbrev pub callee_of_row : ArcRow (List ℕ) (List ℕ) → Spot
callee_of_row r = record { object = r.called_object; file = r.called_file; function = r.called_function; line = 0; thread = 0 }

-- what the calls that pass cost in column k
abbrev pub calls_cost : (Spot → Spot → Bool) → ℕ → List (ArcRow (List ℕ) (List ℕ)) → ℕ
calls_cost passes k [] = 0
calls_cost passes k (r ∷ rows) = (if passes (caller_of_row r) (callee_of_row r) then slice_index r.costs k else 0) + calls_cost passes k rows

-- how many calls those are that pass
abbrev pub calls_count : (Spot → Spot → Bool) → List (ArcRow (List ℕ) (List ℕ)) → ℕ
calls_count passes [] = 0
calls_count passes (r ∷ rows) = (if passes (caller_of_row r) (callee_of_row r) then r.count else 0) + calls_count passes rows

-- whether there is a row of calls that pass
abbrev pub has_calls : (Spot → Spot → Bool) → List (ArcRow (List ℕ) (List ℕ)) → Bool
has_calls passes [] = false
has_calls passes (r ∷ rows) = passes (caller_of_row r) (callee_of_row r) || has_calls passes rows

-- what the stacks that pass count
abbrev pub stacks_count : (List ℕ → Bool) → List (StackRow (List ℕ)) → ℕ
stacks_count passes [] = 0
stacks_count passes (r ∷ rows) = (if passes r.stack then r.count else 0) + stacks_count passes rows

-- what is walked sums to what is held
pub record WalksSum (c : Content) : Type 0 where
  pub cells : (passes : Spot → Bool) (k : ℕ) → rows_cost passes k (named_cells c.names c.cells) ≡ cells_where passes k c
  pub calls : (passes : Spot → Spot → Bool) (k : ℕ) → calls_cost passes k (named_calls c.names c.calls) ≡ calls_where passes k c
  pub counts : (passes : Spot → Spot → Bool) → calls_count passes (named_calls c.names c.calls) ≡ counts_where passes c
  pub called : (passes : Spot → Spot → Bool) → has_calls passes (named_calls c.names c.calls) ≡ has_edge passes c
  pub stacks : (passes : List ℕ → Bool) → stacks_count passes (counted_stacks c.stacks) ≡ stacks_where passes c
