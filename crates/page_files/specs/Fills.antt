-- New rows behind those of a tree.
use Rattle.std.specs.Prelude.{◌≡◌, ℕ, ◌≤◌, Bool, true, List, ◌++◌, length, take, Result, MatchResult, IsOkAnd}
use Rattle.std.specs.Bool.{OnTrue}
use Rattle.sqlite_pages.specs.declared.error.Error.{Error}
use Rattle.sqlite_pages.specs.declared.pages.Pages.{Ghosts}
use Rattle.sqlite_pages.specs.Calls.{IsClean, FailsFor}
use Rattle.sqlite_format.specs.declared.kind.Tree.{Tree}
use Rattle.sqlite_format.specs.declared.kind.Tree.TheVariants.{Index}
use Rattle.sqlite_btree.specs.Chain.{Entry, Layout}
use Rattle.sqlite_btree.specs.Items.{Form}
use Rattle.sqlite_btree.specs.Part.{Part}
use Rattle.sqlite_btree.specs.Tree.{IsNode, cells_of}
use Rattle.sqlite_btree.specs.Stored.{Order, IsLaidIn, IsStrict, IsWhole, IsWritten}
use Rattle.page_files.specs.Rows.{NewRow, entries_of, ComesAfter}

-- where the bytes are a leaf of a tree of this kind, a yes says that the row comes after the leaf's last
abbrev pub ComesBehind : Tree → Order → List ℕ → ℕ → NewRow → Result Bool Error → Type 0
ComesBehind tree order bytes page row result =
    (form : Form) (part : Part) → form.tree ≡ tree → bytes ≡ part page → IsNode form true part page
    → IsOkAnd result (λ after. OnTrue after (ComesAfter form.tree order form.usable (cells_of form true part page) row))

-- the first rows, as many as the answer says, stand behind those of the tree
abbrev pub FillsLeaf : {P : Type 0} (g : Ghosts P) (early late : P) (tree : Tree) (order : Order) (rows : List NewRow) (root : ℕ)
    → Result ℕ Error → Type 0
FillsLeaf g early late tree order rows root result =
    IsClean g late → (tree ≡ Index → IsStrict order) → (layout : Layout) (entries : List Entry) → IsLaidIn layout (g.pages early)
    → IsWhole tree order (g.size early) layout root entries
    → MatchResult result
    (λ taken. (taken ≤ length rows) × IsWritten layout (g.pages early) (g.pages late) (λ new.
    IsWhole tree order (g.size early) new root (entries ++ entries_of tree (take taken rows))))
    (FailsFor g early late ⊥)
