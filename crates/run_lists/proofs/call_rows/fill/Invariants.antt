use Rattle.std.proofs.Common.{◌≡◌, ℕ, length}
use Rattle.plain_tables.specs.Tables.{StoredCall}
use Rattle.run_lists.specs.HeldCalls.{lines_from}
use Rattle.run_lists.proofs.call_rows.fill.Given as goal

abbrev pub invariant-columns : goal.invariant-columns
invariant-columns l = ((first : StoredCall) (part : ℕ) → lines_from first part l.costs ≡ lines_from first part l.fn.costs) × (length l.costs ≡ l.counter)
