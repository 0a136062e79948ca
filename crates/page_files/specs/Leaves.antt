-- A leaf that takes rows behind its own.
use Rattle.std.specs.Prelude.{◌≡◌, ℕ, ◌+◌, ◌<◌, true, List, ◌++◌, map, length, Result, MatchResult}
use Rattle.sqlite_pages.specs.declared.error.Error.{Error}
use Rattle.sqlite_pages.specs.declared.pages.Pages.{Ghosts}
use Rattle.sqlite_pages.specs.Calls.{IsClean, FailsFor}
use Rattle.sqlite_format.specs.declared.kind.Kind.{Kind}
use Rattle.sqlite_format.specs.declared.kind.Tree.{Tree}
use Rattle.sqlite_format.specs.Page.{IsPage, page_cells}
use Rattle.sqlite_btree.specs.Cut.{Each}
use Rattle.sqlite_btree.specs.Part.{Part, IsPartOf}
use Rattle.sqlite_btree.specs.Items.{Form, item_in, body_of}
use Rattle.sqlite_btree.specs.Chain.{Entry, Layout, HasChain, entry_of}
use Rattle.sqlite_btree.specs.Tree.{IsTop}
use Rattle.page_files.specs.Filled.{last_leaf}

-- the page of this number is the last leaf below the root of the part
abbrev pub FindsLeaf : {P : Type 0} (g : Ghosts P) (early late : P) (page depth : ℕ) → Result ℕ Error → Type 0
FindsLeaf g early late page depth result =
    IsClean g late → (form : Form) (part : Part) (height : ℕ) → IsPartOf part (g.pages early) → IsTop form part height page → depth + height < 20
    → MatchResult result (λ leaf. leaf ≡ last_leaf part height page) (FailsFor g early late ⊥)

abbrev pub leaf_of : Tree → Kind
leaf_of tree = record { tree = tree; leaf = true }

-- these cells of a leaf hold these rows, with no overflow pages
pub record HoldRows (tree : Tree) (usable : ℕ) (cells : List (List ℕ)) (rows : List Entry) : Type 0 where
  pub says : (spill : Part) → map (λ cell. entry_of tree usable spill (item_in (leaf_of tree) usable cell)) cells ≡ rows
  pub chained : (layout : Layout) → Each (λ cell. HasChain tree usable layout (body_of (item_in (leaf_of tree) usable cell))) cells

-- the leaf is sound, and has cells of these rows behind its own
pub record TakesRows (tree : Tree) (old new : List ℕ) (header : ℕ) (rows : List Entry) : Type 0 where
  pub sound : IsPage (leaf_of tree) new header
  pub more : List (List ℕ)
  pub cells : page_cells (leaf_of tree) new header ≡ page_cells (leaf_of tree) old header ++ more
  pub hold : HoldRows tree (length old) more rows
