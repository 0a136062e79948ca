-- Rows are erased one after another.
use Rattle.std.proofs.Common.{◌≡◌, ℕ, ℤ, ◌+◌, ◌<◌, Bool, List, [], ◌∷◌, ◌++◌, filter, length, take, get_or, refl, sym, ap, subst, ◌∙◌}
use Rattle.std.proofs.lemmas.List.{take_more}
use Rattle.sqlite_disk.specs.declared.Disk.{Ghosts}
use Rattle.sqlite_pool.specs.Pool.{state}
use Rattle.sqlite_pool.specs.Stored.{Keeps}
use Rattle.sqlite_rules.specs.Edit.{id_in, without_all}
use Rattle.sqlite_rules.specs.Lists.{Has}
use Rattle.sqlite_rules.proofs.ListLemmas.{all_has, has_filtered, has_kept}
use Rattle.sqlite_rules.proofs.ProbeLemmas.{has_mapped, mapped_has}
use Rattle.sqlite_schema.specs.declared.schema.Schema.{Schema}
use Rattle.sqlite_schema.specs.declared.schema.Table.{Table}
use Rattle.sqlite_store.specs.declared.catalog.Wanted.{Wanted}
use Rattle.sqlite_trees.specs.declared.store.Shape.TheVariants as shape
use Rattle.sqlite_trees.specs.Tree.{Trees, rowid, without_rowid}
use Rattle.sqlite_trees.specs.View.{IsShaped}
use Rattle.sqlite_value.specs.declared.value.Value.TheVariants.{Int}
use Rattle.sqlite_value.specs.Order.{Row}
use Rattle.sql_tables.proofs.Rows.{Numbered, id_is, left_by_picks}
use Rattle.page_files.specs.declared.files.PageFile.{PageFile}
use Rattle.page_files.specs.Files.{IsFaithful, IsUsable}
use Rattle.page_places.specs.TableChanges.{OnlyChanges}
use Rattle.page_places.specs.declared.places.Place.{Place}
use Rattle.page_places.specs.Changes.{HasRows, Shows}
use Rattle.row_writes.specs.Tests.{rowids_of, rows_left}

one_more_out : (rows : List Row) (ids : List ℤ) (id : ℤ) → without_all rows (ids ++ id ∷ []) ≡ without_rowid id (without_all rows ids)
one_more_out rows [] id = refl
one_more_out rows (i ∷ ids) id = one_more_out (without_rowid i rows) ids id

-- the rows whose rowids were picked are those that the test takes
pub picked_left : (takes : Row → Bool) (rows : List Row) (ids : List ℤ) → IsShaped shape.Table rows → ids ≡ rowids_of (filter takes rows) → without_all rows ids ≡ rows_left takes rows
picked_left takes rows ids shaped is = ap (without_all rows) is ∙ left_by_picks takes rows (rowids_of (filter takes rows)) shaped (record {
  sound = λ id there.
      let r = has_mapped (λ (row : Row). id_in (rowid row)) (filter takes rows) id there in
      let f = has_filtered takes rows r.0 r.1 in
      (r.0, f.0, f.1, id_is r.0 (all_has Numbered rows r.0 shaped.1 f.0) ∙ ap Int (sym r.2));
  complete = λ r id there taken at.
      subst (Has (rowids_of (filter takes rows))) (ap id_in at) (mapped_has (λ (row : Row). id_in (rowid row)) (filter takes rows) r (has_kept takes rows r there taken));
})

pub OnlyChanges-trans : (schema : Schema) (a b c : Trees) (table : Table) → OnlyChanges schema a b table → OnlyChanges schema b c table → OnlyChanges schema a c table
OnlyChanges-trans schema a b c table first next = record {
  list_stays = next.list_stays ∙ first.list_stays;
  others = λ t there other. next.others t there other ∙ first.others t there other;
  indexed = next.indexed;
}

module _ {D : Type 0} {g : Ghosts D} where
  -- one change after another
  pub then_rows : {schema : Schema} {wanted : List Wanted} {roots : List ℕ} {was now : Trees} {table : Table} {rows more : List Row} (mid new : PageFile D g) (first : HasRows schema wanted roots was now table rows mid)
      → HasRows schema wanted roots was first.next table more new → HasRows schema wanted roots was now table more new
  then_rows {schema} {now = now} {table = table} mid new first next = record {
    next = next.next;
    writes = next.writes;
    only = OnlyChanges-trans schema now first.next next.next table first.only next.only;
    rows_are = next.rows_are;
    shaped = next.shaped;
  }

  -- the table stays in its place
  pub shows_next : {place : Place} {schema : Schema} {wanted : List Wanted} {roots : List ℕ} {was now : Trees} {table : Table} {rows : List Row} (old mid : PageFile D g) → Shows place schema wanted roots was now table old
      → (h : HasRows schema wanted roots was now table rows mid) → Shows place schema wanted roots was h.next table mid
  shows_next old mid shows h = record { writes = h.writes; placed = shows.placed; indexed = h.only.indexed }

  -- the rows with the first k rowids are erased
  pub record HasErased (old file : PageFile D g) (place : Place) (ids : List ℤ) (k : ℕ) : Type 0 where
    pub keeps : Keeps (state old.pool) (state file.pool)
    pub usable : IsUsable old → IsUsable file
    pub rows : IsFaithful file → (schema : Schema) (wanted : List Wanted) (roots : List ℕ) (was now : Trees) (table : Table) → Shows place schema wanted roots was now table old
        → HasRows schema wanted roots was now table (without_all (now table.tree) (take k ids)) file

  pub one_erased : {schema : Schema} {wanted : List Wanted} {roots : List ℕ} {was now : Trees} {table : Table} (ids : List ℤ) (k : ℕ) (d : ℤ) (mid new : PageFile D g) → k < length ids
      → (h : HasRows schema wanted roots was now table (without_all (now table.tree) (take k ids)) mid)
      → HasRows schema wanted roots was h.next table (without_rowid (get_or ids k d) (h.next table.tree)) new
      → HasRows schema wanted roots was now table (without_all (now table.tree) (take (k + 1) ids)) new
  one_erased {schema} {wanted} {roots} {was} {now} {table} ids k d mid new low h one =
      let rows = now table.tree in
      let same : without_rowid (get_or ids k d) (h.next table.tree) ≡ without_all rows (take (k + 1) ids) =
      ap (without_rowid (get_or ids k d)) h.rows_are ∙ sym (one_more_out rows (take k ids) (get_or ids k d)) ∙ ap (without_all rows) (sym (take_more ids k d low)) in
      subst (λ l. HasRows schema wanted roots was now table l new) same (then_rows mid new h one)
