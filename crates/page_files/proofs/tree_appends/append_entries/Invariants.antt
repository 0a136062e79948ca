use Rattle.std.proofs.Common.{◌≡◌, ◌-◌, ◌≤◌, ℕ, List, length, take, All}
use Rattle.sqlite_pages.specs.Calls.{IsClean, Continues}
use Rattle.sqlite_trees.specs.Tree.{insert_entry}
use Rattle.sqlite_trees.specs.declared.store.Shape.TheVariants.{Index}
use Rattle.sqlite_store.specs.declared.catalog.Wanted.{Wanted}
use Rattle.sqlite_store.specs.Catalog.{reals_at}
use Rattle.sqlite_store.specs.Db.{shown, IsDb, Names, Edits}
use Rattle.page_files.specs.Places.{place_all, entries_given}
use Rattle.page_files.proofs.tree_appends.append_entries.Given as goal

pub record HasCome (W K E : Type 0) : Type 0 where
  pub within : W
  pub kept : K
  pub placed : E

abbrev pub invariant-loop-done : goal.invariant-loop-done
invariant-loop-done g l = HasCome (l.done ≤ length l.fn.entries) (Continues g.P.Pages l.fn.store l.store)
    (IsClean g.P.Pages l.store → (schema : List Wanted) (t : ℕ) → IsDb (g.P.Pages.size l.fn.store) schema (g.P.Pages.pages l.fn.store)
    → Names (g.P.Pages.size l.fn.store) schema (g.P.Pages.pages l.fn.store) t (Index l.fn.order) l.fn.root
    → All (λ row. shown (Index l.fn.order) (reals_at schema t) row ≡ row) (entries_given l.fn.entries)
    → Edits (g.P.Pages.size l.fn.store) schema (g.P.Pages.pages l.fn.store) (g.P.Pages.pages l.store) t (place_all (insert_entry l.fn.order) (take l.done (entries_given l.fn.entries))))

abbrev pub decreases-loop-done : goal.decreases-loop-done
decreases-loop-done g l = length l.fn.entries - l.done
