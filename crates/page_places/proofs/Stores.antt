-- The names that the pages of a file hold, between transactions and within one.
use Rattle.std.proofs.Common.{ℕ, List, refl, sym, subst}
use Rattle.sqlite_disk.specs.declared.Disk.{Ghosts}
use Rattle.sqlite_store.specs.declared.catalog.Wanted.{Wanted}
use Rattle.sqlite_trees.specs.Tree.{Trees}
use Rattle.sql_tables.proofs.Contents.{content_there}
use Rattle.page_files.specs.declared.files.PageFile.{PageFile}
use Rattle.page_files.specs.Held.{Writes}
use Rattle.page_files.proofs.Standing.{stands_writing}
use Rattle.plain_tables.specs.Tables.{Tables}
use Rattle.prof_store.specs.Schema.{schema_two, name_at}
use Rattle.prof_store.specs.Names.{SayNames}
use Rattle.prof_store.specs.Tables.{Holds, contents_of}
use Rattle.prof_store.proofs.Names.{names_say}
use Rattle.page_places.specs.Stores.{HoldsNames, ShowsNames}

-- where tables hold rows, those of names say them
pub names_held : (t : Tables) (db : Trees) → Holds t db → HoldsNames t db
names_held t db holds = record {
  sound = holds.contain.sound;
  names_are = subst (λ rows. SayNames rows t.names) (sym (content_there schema_two.tables (contents_of t) db 5 name_at refl holds.contain.contents_are).rows_are) (names_say t.names);
}

module _ {D : Type 0} {g : Ghosts D} where
  -- within a transaction
  pub names_writing : (file : PageFile D g) {wanted : List Wanted} {known : List ℕ} {was now : Trees} {t : Tables} → Writes wanted known was now file → Holds t now → ShowsNames t known file
  names_writing file {wanted} {known} {was} {now} {t} writes holds = record { wanted = wanted; db = now; stands = stands_writing file writes; holds = names_held t now holds }
