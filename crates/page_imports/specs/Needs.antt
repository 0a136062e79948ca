-- What the steps of an import need of the tables.
use Rattle.std.specs.Prelude.{◌≡◌, ◌≢◌, ℕ, ◌<◌, ◌==◌, false, true, List, map}
use Rattle.std.specs.List.{AllByRecursion, list_any}
use Rattle.plain_tables.specs.Changes.{has_run}
use Rattle.plain_tables.specs.Lists.{Has}
use Rattle.plain_tables.specs.Tables.{Tables, RunRow as Run, StoredCell, StoredCall, StoredStack}
use Rattle.run_stores.specs.Book.{AreOf}
use Rattle.prof_store.specs.Lines.{coef_row, derived_row, event_row}
use Rattle.prof_store.specs.declared.table_rows.HeadRows.{HeadRows}
use Rattle.prof_store.specs.declared.table_rows.RunRow.{RunRow}
use Rattle.page_places.specs.Keys.{AreOfNewRun}
use Rattle.page_imports.specs.Imports.{IsNew}

-- each run has a lower number, and none the digest; the next number is higher
pub record CanAdd (number : ℕ) (digest : List ℕ) (t : Tables) : Type 0 where
  pub low : number < t.next
  pub above : AllByRecursion (λ (r : Run). r.number < number) t.runs
  pub none : (r : Run) → Has t.runs r → r.digest ≢ digest

-- these lines are of a run that is held, of which there is no other line
pub record CanFill {X : Type 0} (lines : Tables → List X) (run : X → ℕ) (n : ℕ) (news : List X) (t : Tables) : Type 0 where
  pub held : has_run t n ≡ true
  pub of_run : AreOfNewRun run n (lines t) news

-- the run is new, and these are its own row and the lines of its head
pub record CanBegin (run : RunRow) (head : HeadRows) (t : Tables) : Type 0 where
  pub is_new : IsNew run.number run.digest.now t
  pub lines : AreOf run.number (map event_row head.events.items) (map derived_row head.derived.items) (map coef_row head.coefs.items)

-- the run is held, and has no cell yet
pub record HasNoCell (n : ℕ) (t : Tables) : Type 0 where
  pub held : has_run t n ≡ true
  pub none : list_any (λ (c : StoredCell). c.run == n) t.cells ≡ false

-- no call
pub record HasNoCall (n : ℕ) (t : Tables) : Type 0 where
  pub held : has_run t n ≡ true
  pub none : list_any (λ (a : StoredCall). a.run == n) t.calls ≡ false

-- no stack
pub record HasNoStack (n : ℕ) (t : Tables) : Type 0 where
  pub held : has_run t n ≡ true
  pub none : list_any (λ (s : StoredStack). s.run == n) t.stacks ≡ false

-- none of them
pub record HasNoRow (n : ℕ) (t : Tables) : Type 0 where
  pub cells : HasNoCell n t
  pub calls : HasNoCall n t
  pub stacks : HasNoStack n t
