-- The lines that the rows of a run are read as are those of the tables.
use Rattle.std.proofs.Common.{◌≡◌, ◌<◌, ◌^◌, ℕ, List, refl, ap}
use Rattle.sqlite_disk.specs.declared.Disk.{Ghosts}
use Rattle.sqlite_value.specs.Order.{Row, column}
use Rattle.plain_tables.specs.RunRows.{calls_in, cells_in, stacks_in}
use Rattle.plain_tables.specs.Tables.{Tables, StoredCall, StoredCell, StoredStack}
use Rattle.prof_store.specs.Schema.{arc_at, stack_at, thread_cell_at}
use Rattle.prof_store.specs.Tables.{arc_columns, cell_columns, stack_columns}
use Rattle.prof_store.proofs.RunRows.{one_call, one_cell, one_stack}
use Rattle.page_files.specs.declared.files.PageFile.{PageFile}
use Rattle.page_lists.specs.Shown.{ShowsLines}
use Rattle.page_lists.specs.Walks.{AreOfRun}
use Rattle.page_lists.proofs.Said.{lines_are}

module _ {D : Type 0} {g : Ghosts D} (t : Tables) (file : PageFile D g) (root run : ℕ) (low : run < 2 ^ 64) where
  pub cells_are : (is : ShowsLines file root thread_cell_at cell_columns t.cells) (lines : List StoredCell) → AreOfRun cell_columns run is.rows lines → cells_in run t ≡ lines
  cells_are is lines are =
      lines_are is.far is.is_far thread_cell_at cell_columns (λ (c : StoredCell). c.run) (λ l. refl) (λ x none. absurd cc) one_cell (λ x. refl) (λ r x says. ap (λ (l : Row). column l 1) says.1) run low is.rows t.cells lines is.said are

  pub calls_are : (is : ShowsLines file root arc_at arc_columns t.calls) (lines : List StoredCall) → AreOfRun arc_columns run is.rows lines → calls_in run t ≡ lines
  calls_are is lines are =
      lines_are is.far is.is_far arc_at arc_columns (λ (a : StoredCall). a.run) (λ l. refl) (λ x none. absurd cc) one_call (λ x. refl) (λ r x says. ap (λ (l : Row). column l 1) says.1) run low is.rows t.calls lines is.said are

  pub stacks_are : (is : ShowsLines file root stack_at stack_columns t.stacks) (lines : List StoredStack) → AreOfRun stack_columns run is.rows lines → stacks_in run t ≡ lines
  stacks_are is lines are =
      lines_are is.far is.is_far stack_at stack_columns (λ (s : StoredStack). s.run) (λ l. refl) (λ x none. absurd cc) one_stack (λ x. refl) (λ r x says. ap (λ (l : Row). column l 1) says.1) run low is.rows t.stacks lines is.said are
