use Rattle.std.proofs.Common.{◌≡◌, ◌<◌, ℕ, List, length}
use Rattle.sqlite_trees.specs.Tree.{Trees}
use Rattle.page_files.specs.Files.{IsFaithful, IsUsable, OnlyReads}
use Rattle.prof_store.specs.Schema.{schema_two}
use Rattle.page_places.specs.Roots.{AreFound, AreNames, IsStoreOf, table_name, table_tree}
use Rattle.page_places.proofs.roots.table_roots.Given as goal

abbrev pub invariant-tables : goal.invariant-tables
invariant-tables g l = record {
  sized : length l.roots ≡ 11;
  reads : OnlyReads l.fn.file l.file;
  usable : 0 < l.at → IsUsable l.file;
  found : AreNames schema_two.tables table_name l.names → IsFaithful l.file → (db : Trees) (known : List ℕ) → IsStoreOf l.fn.file db known → AreFound schema_two.tables table_tree known l.roots l.at;
}
