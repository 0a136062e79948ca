-- The stacks of a run, handed on.
use Rattle.std.specs.Prelude.{◌≡◌, ℕ, List, map, fold}
use Rattle.cost_rows.specs.declared.rows.StackRow.{StackRow}
use Rattle.plain_tables.specs.Tables.{StoredStack}
use Rattle.run_stores.specs.Book.{stack_held}
use Rattle.run_lists.specs.declared.handed_stacks.StackLines.{StackLines}

-- these lines were taken, one after another
abbrev pub HasTakenStackLines : {T M : Type 0} → (T → M) → (M → StackRow (List ℕ) → M) → M → List StoredStack → StackLines T → Type 0
HasTakenStackLines meaning step start lines taker = meaning taker.sink ≡ fold step start (map stack_held lines)
