-- Where the rows of a run begin: behind a row of an earlier run.
use Rattle.std.proofs.Common.{◌≡◌, ◌<◌, ℕ, ℤ, pos, ◌+ℤ◌, List, Option, Some, sym, subst}
use Rattle.sqlite_disk.specs.declared.Disk.{Ghosts}
use Rattle.sqlite_value.specs.Order.{Row}
use Rattle.page_files.specs.declared.files.PageFile.{PageFile}
use Rattle.page_rows.specs.Rows.{from_rowid}
use Rattle.page_lists.specs.Shown.{ShowsRows}
use Rattle.page_lists.specs.Walks.{AllEarlier, InOrder, IsFirstOf}
use Rattle.page_lists.proofs.RunRows.{earlier_behind}
use Rattle.page_lists.proofs.Shows.{rows_behind}

module _ {D : Type 0} {g : Ghosts D} (file : PageFile D g) (root : ℕ) (rows : List Row) (is : ShowsRows file root rows) where
  -- behind the first row from a rowid on, where it is of an earlier run
  pub earlier_found : (run : ℕ) (at next : ℤ) (found : Option (ℤ × ℕ)) → InOrder rows → IsFirstOf (from_rowid at rows) found
      → (id : ℤ) × (of : ℕ) × (found ≡ Some (id, of)) × (of < run) × (next ≡ id +ℤ pos 1) → AllEarlier run next rows
  earlier_found run at next found order first (id, of, is_found, low, behind) =
      let (row, rest, begins, numbered, run_is) = subst (IsFirstOf (from_rowid at rows)) is_found first in
      subst (λ n. AllEarlier run n rows) (sym behind)
      (earlier_behind run rows at id row rest order begins (subst (λ n. n < run) (sym run_is) low) (rows_behind file root rows is at id row rest numbered begins))
