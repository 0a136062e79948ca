use Rattle.std.proofs.Common.{ℕ, List}
use Rattle.sqlite_pages.specs.Calls.{IsClean, Continues}
use Rattle.sqlite_trees.specs.declared.store.Shape.TheVariants.{Index}
use Rattle.sqlite_store.specs.declared.catalog.Wanted.{Wanted}
use Rattle.sqlite_store.specs.Db.{IsDb, Names}
use Rattle.page_files.specs.Removals.{has_prefix, Loses}
use Rattle.page_files.proofs.tree_removals.remove_under.Given as goal

pub record HasCome (K L : Type 0) : Type 0 where
  pub kept : K
  pub loses : L

abbrev pub invariant-entries : goal.invariant-entries
invariant-entries g l = HasCome (Continues g.P.Pages l.fn.store l.store)
    (IsClean g.P.Pages l.store → (schema : List Wanted) (t : ℕ) → IsDb (g.P.Pages.size l.fn.store) schema (g.P.Pages.pages l.fn.store)
    → Names (g.P.Pages.size l.fn.store) schema (g.P.Pages.pages l.fn.store) t (Index l.fn.order) l.fn.root
    → Loses (has_prefix l.fn.order l.fn.prefix) (g.P.Pages.size l.fn.store) schema (g.P.Pages.pages l.fn.store) (g.P.Pages.pages l.store) t)
