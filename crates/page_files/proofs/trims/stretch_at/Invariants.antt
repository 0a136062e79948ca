use Rattle.std.proofs.Common.{◌≡◌, ℕ, ◌+◌, ◌<◌, ◌≤◌, true, [], get_or}
use Rattle.sqlite_btree.specs.Items.{Form}
use Rattle.sqlite_btree.specs.Loaded.{IsNodeOf}
use Rattle.sqlite_btree.specs.Part.{Part}
use Rattle.sqlite_btree.specs.Tree.{cells_of}
use Rattle.page_files.specs.Trims.{HoldsAlone}
use Rattle.page_files.proofs.trims.stretch_at.Given as goal

pub record HasCome (F G : Type 0) : Type 0 where
  pub few : F
  pub going : G

abbrev pub invariant-loop-i : goal.invariant-loop-i
invariant-loop-i g l = HasCome (l.i ≤ g.S.Stretch.most l.fn.stretch)
    ((form : Form) (part : Part) (page : ℕ) → form.tree ≡ g.S.Stretch.kind l.fn.stretch → IsNodeOf form true part page l.fn.node
    → (k : ℕ) → k < l.i → HoldsAlone form.tree form.usable (g.S.Stretch.goes l.fn.stretch k) (get_or (cells_of form true part page) (l.fn.at + k) []))
