-- Ways down from a page to a leaf.
use Rattle.std.proofs.Common.{ℕ, zero, suc, false, true, List, [], ◌∷◌, sym, subst, inl, inr}
use Rattle.sqlite_btree.specs.Items.{Form}
use Rattle.sqlite_btree.specs.Part.{Part}
use Rattle.sqlite_btree.specs.Tree.{EachChild, IsNode, IsTop, IsTree, Reaches, SomeChild, cells_of, child_at, child_of, right_of}
use Rattle.page_files.specs.Trims.{IsBelow}

-- what each child has, the one at a place has
pub child_there : (P : ℕ → Type 0) (cells : List (List ℕ)) (last at : ℕ) → EachChild P cells last → P (child_at cells last at)
child_there P [] last at all = all
child_there P (cell ∷ cells) last zero all = all.0
child_there P (cell ∷ cells) last (suc at) all = child_there P cells last at all.1

pub some_there : (P : ℕ → Type 0) (cells : List (List ℕ)) (last at : ℕ) → P (child_at cells last at) → SomeChild P cells last
some_there P [] last at here = here
some_there P (cell ∷ cells) last zero here = inl here
some_there P (cell ∷ cells) last (suc at) here = inr (some_there P cells last at here)

module _ (form : Form) (part : Part) where
  pub below_leaf : (h page leaf : ℕ) → IsTree form part h page → IsBelow form part h page leaf → IsNode form true part leaf
  below_leaf zero page leaf t is = subst (IsNode form true part) (sym is) t.0
  below_leaf (suc h) page leaf t (at, within, below) = below_leaf h (child_of form part page at) leaf (child_there (IsTree form part h) (cells_of form false part page) (right_of part page) at t.1) below

  pub top_below : (h page leaf : ℕ) → IsTop form part h page → IsBelow form part h page leaf → IsNode form true part leaf
  top_below zero page leaf t is = subst (IsNode form true part) (sym is) t.0
  top_below (suc h) page leaf t (at, within, below) = below_leaf h (child_of form part page at) leaf (child_there (IsTree form part h) (cells_of form false part page) (right_of part page) at t.1) below

  pub below_reached : (h page leaf : ℕ) → IsBelow form part h page leaf → Reaches form part h page leaf
  below_reached zero page leaf is = is
  below_reached (suc h) page leaf (at, within, below) =
      inr (some_there (λ child. Reaches form part h child leaf) (cells_of form false part page) (right_of part page) at (below_reached h (child_of form part page at) leaf below))
