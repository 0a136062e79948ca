use Rattle.std.proofs.Common.{◌-◌, ◌≤◌, ℕ, List, length, take}
use Rattle.sqlite_pages.specs.Calls.{IsClean, Continues}
use Rattle.sqlite_trees.specs.declared.store.Shape.TheVariants.{Table}
use Rattle.sqlite_store.specs.declared.catalog.Wanted.{Wanted}
use Rattle.sqlite_store.specs.Db.{IsDb, Names, Edits}
use Rattle.page_files.specs.Removals.{without_rowids}
use Rattle.page_files.proofs.tree_removals.delete_all.Given as goal

pub record HasCome (W K E : Type 0) : Type 0 where
  pub within : W
  pub kept : K
  pub thinned : E

abbrev pub invariant-loop-done : goal.invariant-loop-done
invariant-loop-done g l = HasCome (l.done ≤ length l.fn.rowids) (Continues g.P.Pages l.fn.store l.store)
    (IsClean g.P.Pages l.store → (schema : List Wanted) (t : ℕ) → IsDb (g.P.Pages.size l.fn.store) schema (g.P.Pages.pages l.fn.store)
    → Names (g.P.Pages.size l.fn.store) schema (g.P.Pages.pages l.fn.store) t Table l.fn.root
    → Edits (g.P.Pages.size l.fn.store) schema (g.P.Pages.pages l.fn.store) (g.P.Pages.pages l.store) t (without_rowids (take l.done l.fn.rowids)))

abbrev pub decreases-loop-done : goal.decreases-loop-done
decreases-loop-done g l = length l.fn.rowids - l.done
