-- The table of groups in a transaction over a store.
use Rattle.std.proofs.Common.{◌≡◌, ℕ, List, refl}
use Rattle.sqlite_disk.specs.declared.Disk.{Ghosts}
use Rattle.sqlite_store.specs.declared.catalog.Wanted.{Wanted}
use Rattle.sqlite_trees.specs.Tree.{Trees}
use Rattle.page_files.specs.declared.files.PageFile.{PageFile}
use Rattle.page_files.specs.Held.{Writes}
use Rattle.page_files.specs.Trees.{ShowsTable, trees_of}
use Rattle.page_files.proofs.Standing.{catalog_shown, stands_writing, table_stands, tree_shown}
use Rattle.page_places.specs.declared.roots.StoreRoots.{StoreRoots}
use Rattle.page_places.specs.Roots.{AreRoots}
use Rattle.page_places.proofs.Placing.{placed_at}
use Rattle.plain_tables.specs.Tables.{Tables}
use Rattle.prof_store.specs.Schema.{grp_at}
use Rattle.prof_store.specs.Tables.{Holds}

module _ {D : Type 0} {g : Ghosts D} (file : PageFile D g) {wanted : List Wanted} {known : List ℕ} {was now : Trees} {t : Tables} (writes : Writes wanted known was now file) (holds : Holds t now) where
  -- the table of groups is shown under its root
  pub groups_shown : (roots : StoreRoots) → AreRoots known roots → ShowsTable wanted 19 roots.groups file × (trees_of wanted file 19 ≡ now 19)
  groups_shown roots are =
      let stands = stands_writing file writes in
      let placed = placed_at wanted now (catalog_shown file stands) holds.contain.sound 8 grp_at refl in
      (table_stands file stands 19 placed.low _ placed.named.shape placed.plain are.groups, tree_shown file stands 19 placed.low)
