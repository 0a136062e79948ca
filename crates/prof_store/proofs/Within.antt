-- Calls within a transaction, one after another.
use Rattle.std.proofs.Common.{ℕ, List, Bool, IsTrue, Result, Ok, Err, sym, ◌∙◌}
use Rattle.std.specs.Result.{is_ok}
use Rattle.sqlite_value.specs.Order.{Row}
use Rattle.sqlite_trees.specs.declared.store.Store.{Ghosts}
use Rattle.sqlite.specs.declared.error.Error.{Error}
use Rattle.sqlite.specs.declared.transaction.Transaction.{Transaction}
use Rattle.sqlite.specs.State.{State, ExecutesInside}
use Rattle.prof_store.specs.Within.{inside, IsFaithful, IsRunning, Ran}

-- ---- statements

inside_open : (text : List ℕ) (params : Row) (old new : State) (result : Result ℕ Error) → IsTrue (is_ok result) → ExecutesInside 0 text params old new result → IsTrue old.is_open
inside_open text params old new (Ok count) is h = h.1.was_open
inside_open text params old new (Err e) is h = absurd (cc is)

-- a statement that was run found the connection open
pub text_open : {S : Type 0} (g : Ghosts S) (text : List ℕ) (params : Row) (ok : Bool) (old new : Transaction S) → Ran g text params ok old new → IsTrue ok → IsFaithful g new → IsRunning g old → IsTrue (inside g old).is_open
text_open g text params ok old new h is clean running = let it = h.ran clean running in inside_open text params (inside g old) (inside g new) it.0 (sym it.1 ∙ is) it.2
