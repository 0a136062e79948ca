-- Rows that are taken out of one leaf of a tree, one after another, in one write.
use Rattle.std.specs.Prelude.{◌≡◌, ℕ, zero, suc, ◌+◌, ◌<◌, ◌≤◌, ⊤, Bool, true, false, List, [], ◌∷◌, ◌++◌, length, slice_index_or, Result, IsOkAnd, MatchResult}
use Rattle.std.specs.Bool.{OnTrue}
use Rattle.sqlite_pages.specs.PageMap.{PageMap}
use Rattle.sqlite_pages.specs.declared.error.Error.{Error}
use Rattle.sqlite_pages.specs.declared.pages.Pages.{Ghosts}
use Rattle.sqlite_pages.specs.Calls.{IsClean, FailsFor}
use Rattle.sqlite_format.specs.declared.kind.Tree.{Tree}
use Rattle.sqlite_format.specs.declared.kind.Tree.TheVariants.{Index}
use Rattle.sqlite_format.specs.declared.node.Node.{Node}
use Rattle.sqlite_format.specs.Cell.{spilled_len}
use Rattle.sqlite_btree.specs.Chain.{Entry, Layout, entry_of}
use Rattle.sqlite_btree.specs.Items.{Form, body_of, item_in}
use Rattle.sqlite_btree.specs.Loaded.{IsNodeOf}
use Rattle.sqlite_btree.specs.Part.{IsPartOf, Part}
use Rattle.sqlite_btree.specs.Stored.{Order, IsLaidIn, IsStrict, IsWhole, IsWritten}
use Rattle.sqlite_btree.specs.Tree.{IsTop, cells_of, child_of}
use Rattle.page_files.specs.Leaves.{leaf_of}

-- from the page a way leads down to the leaf, by some child of each page
abbrev pub IsBelow : Form → Part → ℕ → ℕ → ℕ → Type 0
IsBelow form part zero page leaf = leaf ≡ page
IsBelow form part (suc height) page leaf =
    (at : ℕ) × (at ≤ length (cells_of form false part page)) × IsBelow form part height (child_of form part page at) leaf

abbrev pub FindsBelow : {P : Type 0} (g : Ghosts P) (early late : P) (page depth : ℕ) → Result ℕ Error → Type 0
FindsBelow g early late page depth result =
    IsClean g late → (form : Form) (part : Part) (height : ℕ) → IsPartOf part (g.pages early) → IsTop form part height page → depth + height < 20
    → MatchResult result (IsBelow form part height page) (FailsFor g early late ⊥)

-- a cell of a leaf holds an entry of which this is a fact, and has no overflow pages
pub record HoldsAlone (tree : Tree) (usable : ℕ) (Fact : Entry → Type 0) (cell : List ℕ) : Type 0 where
  pub says : (spill : Part) → Fact (entry_of tree usable spill (item_in (leaf_of tree) usable cell))
  pub alone : spilled_len tree usable (body_of (item_in (leaf_of tree) usable cell)) ≡ 0

-- a yes says so of the cell at this place
abbrev pub GoesAt : Tree → (Entry → Type 0) → Node → ℕ → Result Bool Error → Type 0
GoesAt tree Fact node at result =
    (form : Form) (part : Part) (page : ℕ) → form.tree ≡ tree → IsNodeOf form true part page node
    → IsOkAnd result (λ yes. OnTrue yes (HoldsAlone form.tree form.usable Fact (slice_index_or (cells_of form true part page) at [])))

-- each of so many cells from this place on has its own fact
abbrev pub GoFrom : Tree → (ℕ → Entry → Type 0) → Node → ℕ → Result ℕ Error → Type 0
GoFrom tree Fact node at result =
    (form : Form) (part : Part) (page : ℕ) → form.tree ≡ tree → IsNodeOf form true part page node
    → IsOkAnd result (λ n. (k : ℕ) → k < n → HoldsAlone form.tree form.usable (Fact k) (slice_index_or (cells_of form true part page) (at + k) []))

-- each element has the fact of its number, from this number on
abbrev pub EachAs : {X : Type 0} → (ℕ → X → Type 0) → ℕ → List X → Type 0
EachAs Fact i [] = ⊤
EachAs Fact i (x ∷ xs) = Fact i x × EachAs Fact (suc i) xs

-- the tree has lost so many entries, which stood one after another, and each of them had its fact
pub record HasTrimmed (tree : Tree) (order : Order) (size : ℕ) (layout : Layout) (before after : PageMap) (root : ℕ) (entries : List Entry)
    (Fact : ℕ → Entry → Type 0) (n : ℕ) : Type 0 where
  pub first : List Entry
  pub gone : List Entry
  pub rest : List Entry
  pub parts : entries ≡ first ++ (gone ++ rest)
  pub count : length gone ≡ n
  pub facts : EachAs Fact 0 gone
  pub written : IsWritten layout before after (λ new. IsWhole tree order size new root (first ++ rest))

abbrev pub TrimsLeaf : {P : Type 0} (g : Ghosts P) (early late : P) (tree : Tree) (Fact : ℕ → Entry → Type 0) (root : ℕ) → Result ℕ Error → Type 0
TrimsLeaf g early late tree Fact root result =
    IsClean g late → (order : Order) → (tree ≡ Index → IsStrict order) → (layout : Layout) (entries : List Entry) → IsLaidIn layout (g.pages early)
    → IsWhole tree order (g.size early) layout root entries
    → MatchResult result (HasTrimmed tree order (g.size early) layout (g.pages early) (g.pages late) root entries Fact) (FailsFor g early late ⊥)
