-- Lines that are put behind those of a table are a step of an import.
use Rattle.std.proofs.Common.{◌≡◌, ℕ, true, List, [], ◌∷◌, Result, MatchResult, subst, sym}
use Rattle.std.specs.List.{list_all}
use Rattle.sqlite_disk.specs.declared.Disk.{Ghosts}
use Rattle.sqlite_schema.specs.declared.schema.Table.{Table}
use Rattle.sqlite_store.specs.declared.catalog.Wanted.{Wanted}
use Rattle.sqlite_trees.specs.Tree.{Trees}
use Rattle.sqlite_value.specs.Order.{Row}
use Rattle.page_files.specs.declared.files.PageFile.{PageFile}
use Rattle.plain_tables.specs.Tables.{Tables}
use Rattle.plain_tables.specs.declared.errors.StoreError.{StoreError}
use Rattle.prof_store.specs.Schema.{schema_two}
use Rattle.prof_store.specs.Tables.{Holds}
use Rattle.page_places.specs.Failures.{FailsToStore}
use Rattle.page_places.proofs.Outcomes.{match_result}
use Rattle.line_fills.specs.Filled.{HasFilled, IsTableFilled, trees_over}
use Rattle.page_imports.specs.Causes.{CanBePut}
use Rattle.page_imports.specs.Steps.{HasMade, ShowsTables}
use Rattle.page_imports.proofs.Failing.{fails_for}
use Rattle.page_imports.proofs.Kept.{filled_keeps, is_apart}

module _ {D : Type 0} {g : Ghosts D} (old new : PageFile D g) {wanted : List Wanted} {known : List ℕ} {was : Trees} {t : Tables} (shows : ShowsTables wanted known was t old) where
  pub lines_put : (table : Table) → list_all (is_apart table (trees_over schema_two table)) schema_two.tables ≡ true → {A : Type 0} (result : Result A StoreError) {written lines : List Row} → written ≡ lines
      → {u : Tables} → ((next : Trees) → IsTableFilled schema_two shows.next next table lines → Holds u next) → {Can : Type 0} → (Can → CanBePut table lines shows.next)
      → MatchResult result (λ _. HasFilled schema_two wanted known was shows.next table written new) (FailsToStore old new (CanBePut table written shows.next))
      → MatchResult result (λ _. HasMade (table ∷ []) wanted known was shows.next u new) (FailsToStore old new Can)
  lines_put table apart result same holds can done =
      match_result result (λ made. record {
        shows = record { next = made.next; writes = made.writes; holds = holds made.next (subst (IsTableFilled schema_two shows.next made.next table) same made.filled) };
        kept = filled_keeps table shows.next made.next apart made.filled.spared;
      })
      (λ e. fails_for old new e (λ all. subst (λ l. CanBePut table l shows.next) (sym same) (can all))) done
