-- What a file shows, from step to step of a transaction.
use Rattle.std.proofs.Common.{ℕ, List}
use Rattle.sqlite_disk.specs.declared.Disk.{Ghosts}
use Rattle.sqlite_store.specs.declared.catalog.Wanted.{Wanted}
use Rattle.sqlite_trees.specs.Tree.{Trees}
use Rattle.page_files.specs.declared.files.PageFile.{PageFile}
use Rattle.page_files.specs.Files.{IsFaithful, IsUsable, OnlyReads}
use Rattle.page_files.proofs.Steps.{writes_after}
use Rattle.plain_tables.specs.Tables.{Tables}
use Rattle.page_imports.specs.Steps.{ShowsTables}

-- a call that reads stands in the middle of it
abbrev pub shows_after : {D : Type 0} {g : Ghosts D} (old new : PageFile D g) {wanted : List Wanted} {known : List ℕ} {was : Trees} {t : Tables} → OnlyReads old new → IsFaithful new → IsUsable new → ShowsTables wanted known was t old → ShowsTables wanted known was t new
shows_after old new reads faithful usable shows = record { next = shows.next; writes = writes_after old new reads faithful usable shows.writes; holds = shows.holds }
