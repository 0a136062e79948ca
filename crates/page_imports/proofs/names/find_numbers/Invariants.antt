use Rattle.std.proofs.Common.{◌≡◌, ℕ, List, [], IsTrue, take}
use Rattle.sqlite_store.specs.declared.catalog.Wanted.{Wanted}
use Rattle.sqlite_trees.specs.Tree.{Trees}
use Rattle.page_files.specs.Files.{IsFaithful, IsUsable, OnlyReads}
use Rattle.page_places.specs.Roots.{AreRoots}
use Rattle.plain_tables.specs.Tables.{Tables}
use Rattle.page_imports.specs.Names.{AreNumbered}
use Rattle.page_imports.specs.Steps.{ShowsTables}
use Rattle.page_imports.proofs.names.find_numbers.Given as goal

-- the names so far are numbered
abbrev pub invariant-names : goal.invariant-names
invariant-names g l = record {
  usable : IsUsable l.file;
  reads : OnlyReads l.fn.file l.file;
  numbered : IsFaithful l.file → (wanted : List Wanted) (known : List ℕ) (was : Trees) (t : Tables) → ShowsTables wanted known was t l.fn.file → AreRoots known l.roots
      → AreNumbered t (take l.at l.names) l.found × (IsTrue l.is_new → t.names ≡ []);
}
