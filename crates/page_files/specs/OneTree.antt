-- What a call on one tree does to the rows that the pages read as.
use Rattle.std.specs.Prelude.{◌≡◌, ℕ, List, Result, MatchResult}
use Rattle.sqlite_pages.specs.declared.error.Error.{Error}
use Rattle.sqlite_pages.specs.declared.pages.Pages.{Ghosts}
use Rattle.sqlite_pages.specs.Calls.{IsClean, FailsFor}
use Rattle.sqlite_value.specs.Order.{Row}
use Rattle.sqlite_trees.specs.declared.store.Shape.{Shape}
use Rattle.sqlite_store.specs.declared.catalog.Wanted.{Wanted}
use Rattle.sqlite_store.specs.Catalog.{reals_at}
use Rattle.sqlite_store.specs.Limit.{HasDeepTree}
use Rattle.sqlite_store.specs.Db.{shown, IsDb, Names, Edits}

module _ {P : Type 0} (g : Ghosts P) (old new : P) where
  -- the disk failed, memory ran out, the file is full, or the tree has the 20 levels that SQLite reads
  abbrev pub FailsToEdit : ℕ → Error → Type 0
  FailsToEdit root = FailsFor g old new (HasDeepTree (g.size old) (g.pages old) root)

  -- if the pages hold a database in which this root is that of tree `t` of this shape: what the fact says of the schema and `t`
  abbrev pub AtTree : Shape → ℕ → (List Wanted → ℕ → Type 0) → Type 0
  AtTree shape root Fact =
      IsClean g new → (schema : List Wanted) (t : ℕ) → IsDb (g.size old) schema (g.pages old)
      → Names (g.size old) schema (g.pages old) t shape root → Fact schema t

  -- the tree's rows are edited, and nothing else; or there is a cause
  abbrev pub EditsOrFails : {A : Type 0} → ℕ → (List Row → List Row) → Result A Error → List Wanted → ℕ → Type 0
  EditsOrFails root edit result schema t =
      MatchResult result (λ _. Edits (g.size old) schema (g.pages old) (g.pages new) t edit) (FailsToEdit root)

  -- the tree with this root, if there is one, is edited
  abbrev pub EditsTree : {A : Type 0} → Shape → ℕ → (List Row → List Row) → Result A Error → Type 0
  EditsTree shape root edit result = AtTree shape root (EditsOrFails root edit result)

  -- the same where this row is shown as it is given: no integer stands in a REAL column
  abbrev pub PlacesRow : {A : Type 0} → Shape → ℕ → Row → (Row → List Row → List Row) → Result A Error → Type 0
  PlacesRow shape root row place result =
      AtTree shape root (λ schema t. shown shape (reals_at schema t) row ≡ row → EditsOrFails root (place row) result schema t)
