-- Many rows taken out of one tree.
use Rattle.std.specs.Prelude.{◌≡◌, ℕ, ℤ, Bool, false, not, List, filter, fold, Result, MatchResult}
use Rattle.std.specs.Ordering.{is_eq}
use Rattle.sqlite_pages.specs.PageMap.{PageMap}
use Rattle.sqlite_pages.specs.declared.error.Error.{Error}
use Rattle.sqlite_pages.specs.declared.pages.Pages.{Ghosts}
use Rattle.sqlite_pages.specs.Calls.{Continues, FailsFor}
use Rattle.sqlite_value.specs.declared.keys.Order.{Order}
use Rattle.sqlite_value.specs.Keys.{prefix_cmp}
use Rattle.sqlite_value.specs.Order.{Row}
use Rattle.sqlite_trees.specs.Tree.{without_rowid}
use Rattle.sqlite_trees.specs.declared.store.Shape.{Shape}
use Rattle.sqlite_store.specs.declared.catalog.Wanted.{Wanted}
use Rattle.sqlite_store.specs.Limit.{HasDeepTree}
use Rattle.sqlite_store.specs.Db.{trees_in, Edits}
use Rattle.page_files.specs.OneTree.{AtTree}

-- the rows but those of these rowids
abbrev pub without_rowids : List ℤ → List Row → List Row
without_rowids ids rows = fold (λ left id. without_rowid id left) rows ids

-- whether the first columns of an entry are these, as its index compares them
abbrev pub has_prefix : Order → Row → Row → Bool
has_prefix order prefix entry = is_eq (prefix_cmp order entry prefix)

-- the rows but those that a test picks
abbrev pub without : (Row → Bool) → List Row → List Row
without picks = filter (λ row. not (picks row))

-- a tree has lost rows that a test picks, and nothing else has changed
pub record Loses (picks : Row → Bool) (size : ℕ) (schema : List Wanted) (before after : PageMap) (t : ℕ) : Type 0 where
  pub edit : List Row → List Row
  pub edits : Edits size schema before after t edit
  pub keeps : without picks (edit (trees_in size schema before t)) ≡ without picks (trees_in size schema before t)

abbrev pub LosesSome : {A : Type 0} → (Row → Bool) → ℕ → List Wanted → PageMap → PageMap → ℕ → A → Type 0
LosesSome picks size schema before after t answer = Loses picks size schema before after t

-- the same, and where the answer is no, none of its rows is left
pub record LosesUntil (picks : Row → Bool) (size : ℕ) (schema : List Wanted) (before after : PageMap) (t : ℕ) (more : Bool) : Type 0 where
  pub loses : Loses picks size schema before after t
  pub none : more ≡ false → without picks (trees_in size schema after t) ≡ trees_in size schema after t

module _ {P : Type 0} (g : Ghosts P) (old : P) where
  -- on the way, the tree with this root had the 20 levels that SQLite reads
  pub record WasDeep (root : ℕ) : Type 0 where
    pub mid : P
    pub kept : Continues g old mid
    pub deep : HasDeepTree (g.size mid) (g.pages mid) root

  module _ (new : P) where
    -- the disk failed, memory ran out, the file is full, or the tree is or became too deep
    abbrev pub FailsToThin : ℕ → Error → Type 0
    FailsToThin root = FailsFor g old new (WasDeep root)

    -- what the fact says of the tree with this root before and after; or there is a cause
    abbrev pub ThinsBy : {A : Type 0} → Shape → ℕ → ((size : ℕ) → List Wanted → PageMap → PageMap → ℕ → A → Type 0) → Result A Error → Type 0
    ThinsBy shape root Fact result =
        AtTree g old new shape root (λ schema t. MatchResult result (Fact (g.size old) schema (g.pages old) (g.pages new) t) (FailsToThin root))

    -- the tree with this root, if there is one, is edited
    abbrev pub Thins : {A : Type 0} → Shape → ℕ → (A → List Row → List Row) → Result A Error → Type 0
    Thins shape root edit = ThinsBy shape root (λ size schema before after t a. Edits size schema before after t (edit a))
