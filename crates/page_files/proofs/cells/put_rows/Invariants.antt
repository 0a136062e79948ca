use Rattle.std.proofs.Common.{ℕ, ◌<◌, take}
use Rattle.sqlite_format.specs.Page.{IsPage}
use Rattle.page_files.specs.Leaves.{leaf_of, TakesRows}
use Rattle.page_files.specs.Rows.{entries_of, Rise}
use Rattle.page_files.proofs.cells.put_rows.Given as goal

pub record HasPut (P R K : Type 0) : Type 0 where
  pub keyed : K
  pub rise : R
  pub done : P

abbrev pub invariant-loop-i : goal.invariant-loop-i
invariant-loop-i g l = HasPut
    (IsPage (leaf_of (g.R.NewRows.kind l.fn.rows)) l.fn.bytes l.fn.header
    → TakesRows (g.R.NewRows.kind l.fn.rows) l.fn.bytes l.bytes l.fn.header (entries_of (g.R.NewRows.kind l.fn.rows) (take l.i (g.R.NewRows.rows l.fn.rows))))
    (Rise (g.R.NewRows.kind l.fn.rows) (g.R.NewRows.order l.fn.rows) (g.R.NewRows.rows l.fn.rows) l.i)
    ((i : ℕ) → i < l.i → g.R.NewRows.is_keyed l.fn.rows i)
