-- A run that is held and has no lines in a table holds those that were filled in.
use Rattle.std.proofs.Common.{◌≡◌, ℕ, List, map, true}
use Rattle.sqlite_trees.specs.Tree.{Trees}
use Rattle.plain_tables.specs.Changes.{has_run, with_calls, with_cells, with_coefs, with_derived, with_events, with_stacks}
use Rattle.plain_tables.specs.Tables.{Tables, EventRow, DerivedRow, CoefRow, StoredCell, StoredCall, StoredStack}
use Rattle.prof_store.specs.Schema.{schema_two, run_event_at, derived_at, coef_at, thread_cell_at, arc_at, stack_at}
use Rattle.prof_store.specs.Tables.{Holds, event_columns, derived_columns, coef_columns, cell_columns, arc_columns, stack_columns}
use Rattle.page_places.specs.Keys.{AreOfNewRun}
use Rattle.page_places.proofs.Fills as fills
use Rattle.line_fills.specs.Filled.{IsTableFilled}
use Rattle.line_fills.specs.Rows.{rows_behind}
use Rattle.line_fills.proofs.Numbers.{columns_behind}

module _ (t : Tables) (now next : Trees) (was : Holds t now) (n : ℕ) (held : has_run t n ≡ true) where
  pub events_filled : (xs : List EventRow) → AreOfNewRun (λ (x : EventRow). x.run) n t.events xs
      → IsTableFilled schema_two now next run_event_at (map event_columns xs) → Holds (with_events xs t) next
  events_filled xs new_run f =
      fills.events_filled t now next was n held (rows_behind (now run_event_at.tree) (map event_columns xs)) xs f.spared f.shaped f.behind (columns_behind (now run_event_at.tree) (map event_columns xs)) new_run f.filled.0 f.filled.1.0

  pub derived_filled : (xs : List DerivedRow) → AreOfNewRun (λ (x : DerivedRow). x.run) n t.derived xs
      → IsTableFilled schema_two now next derived_at (map derived_columns xs) → Holds (with_derived xs t) next
  derived_filled xs new_run f =
      fills.derived_filled t now next was n held (rows_behind (now derived_at.tree) (map derived_columns xs)) xs f.spared f.shaped f.behind (columns_behind (now derived_at.tree) (map derived_columns xs)) new_run f.filled.0 f.filled.1.0

  pub coefs_filled : (xs : List CoefRow) → AreOfNewRun (λ (x : CoefRow). x.run) n t.coefs xs
      → IsTableFilled schema_two now next coef_at (map coef_columns xs) → Holds (with_coefs xs t) next
  coefs_filled xs new_run f =
      fills.coefs_filled t now next was n held (rows_behind (now coef_at.tree) (map coef_columns xs)) xs f.spared f.shaped f.behind (columns_behind (now coef_at.tree) (map coef_columns xs)) new_run f.filled.0

  pub cells_filled : (xs : List StoredCell) → AreOfNewRun (λ (x : StoredCell). x.run) n t.cells xs
      → IsTableFilled schema_two now next thread_cell_at (map cell_columns xs) → Holds (with_cells xs t) next
  cells_filled xs new_run f =
      fills.cells_filled t now next was n held (rows_behind (now thread_cell_at.tree) (map cell_columns xs)) xs f.spared f.shaped f.behind (columns_behind (now thread_cell_at.tree) (map cell_columns xs)) new_run f.filled.0

  pub calls_filled : (xs : List StoredCall) → AreOfNewRun (λ (x : StoredCall). x.run) n t.calls xs
      → IsTableFilled schema_two now next arc_at (map arc_columns xs) → Holds (with_calls xs t) next
  calls_filled xs new_run f =
      fills.calls_filled t now next was n held (rows_behind (now arc_at.tree) (map arc_columns xs)) xs f.spared f.shaped f.behind (columns_behind (now arc_at.tree) (map arc_columns xs)) new_run f.filled.0

  pub stacks_filled : (xs : List StoredStack) → AreOfNewRun (λ (x : StoredStack). x.run) n t.stacks xs
      → IsTableFilled schema_two now next stack_at (map stack_columns xs) → Holds (with_stacks xs t) next
  stacks_filled xs new_run f =
      fills.stacks_filled t now next was n held (rows_behind (now stack_at.tree) (map stack_columns xs)) xs f.spared f.shaped f.behind (columns_behind (now stack_at.tree) (map stack_columns xs)) new_run f.filled.0
