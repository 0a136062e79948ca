-- Rows that are placed in a tree one after another.
use Rattle.std.specs.Prelude.{◌≡◌, ℕ, ℤ, List, [], ◌∷◌, ◌++◌, map, take, All, Result, MatchResult}
use Rattle.std.specs.Borrow.{Bor}
use Rattle.sqlite_pages.specs.declared.error.Error.{Error}
use Rattle.sqlite_pages.specs.declared.pages.Pages.{Ghosts}
use Rattle.sqlite_pages.specs.Calls.{Continues, FailsFor}
use Rattle.sqlite_value.specs.Order.{Row}
use Rattle.sqlite_record.specs.Record.{decode}
use Rattle.sqlite_trees.specs.declared.store.Shape.{Shape}
use Rattle.sqlite_store.specs.declared.catalog.Wanted.{Wanted}
use Rattle.sqlite_store.specs.Catalog.{reals_at}
use Rattle.sqlite_store.specs.Limit.{HasDeepTree}
use Rattle.sqlite_store.specs.Db.{shown, table_row, Edits}
use Rattle.page_files.specs.OneTree.{AtTree}

-- how a row comes to stand among others
abbrev pub Place : Type 0
Place = Row → List Row → List Row

abbrev pub place_all : Place → List Row → List Row → List Row
place_all place [] rows = rows
place_all place (new ∷ news) rows = place_all place news (place new rows)

-- the rows of a table, each a rowid and the record of its columns
abbrev pub rows_given : List (ℤ × Bor (List ℕ)) → List Row
rows_given = map (λ row. table_row (row.0, row.1.now))

-- the entries of an index, each its record
abbrev pub entries_given : List (Bor (List ℕ)) → List Row
entries_given = map (λ entry. decode entry.now)

-- from there on the first of these rows were placed, and then the tree had the 20 levels that SQLite reads
pub record Deepens {P : Type 0} (g : Ghosts P) (old : P) (schema : List Wanted) (t root : ℕ) (place : Place) (news : List Row) : Type 0 where
  pub front : List Row
  pub back : List Row
  pub parts : news ≡ front ++ back
  pub now : P
  pub comes : Continues g old now
  pub edits : Edits (g.size old) schema (g.pages old) (g.pages now) t (place_all place front)
  pub deep : HasDeepTree (g.size now) (g.pages now) root

module _ {P : Type 0} (g : Ghosts P) (old new : P) where
  -- the disk failed, memory ran out, the file is full, or the tree has become too deep
  abbrev pub FailsToPlace : List Wanted → ℕ → ℕ → Place → List Row → Error → Type 0
  FailsToPlace schema t root place news = FailsFor g old new (Deepens g old schema t root place news)

  -- the first of these rows, as many as the answer says, are placed in the tree with this root
  abbrev pub PlacesFirst : Shape → ℕ → Place → List Row → Result ℕ Error → Type 0
  PlacesFirst shape root place news result =
      AtTree g old new shape root (λ schema t. All (λ row. shown shape (reals_at schema t) row ≡ row) news
      → MatchResult result
      (λ n. Edits (g.size old) schema (g.pages old) (g.pages new) t (place_all place (take n news)))
      (FailsToPlace schema t root place news))

  -- all of them are, where each is shown as it is given
  abbrev pub PlacesRows : {A : Type 0} → Shape → ℕ → Place → List Row → Result A Error → Type 0
  PlacesRows shape root place news result =
      AtTree g old new shape root (λ schema t. All (λ row. shown shape (reals_at schema t) row ≡ row) news
      → MatchResult result (λ _. Edits (g.size old) schema (g.pages old) (g.pages new) t (place_all place news)) (FailsToPlace schema t root place news))
