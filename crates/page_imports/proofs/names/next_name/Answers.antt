use Rattle.std.proofs.lemmas.Int.{ints}
use Rattle.std.proofs.Common.{◌≡◌, ◌≤◌, ◌-◌, ◌^◌, ◌+ℤ◌, pos, List, IsTrue, rules, to_z-of_z, to_z, of_z, w64, nat_abs, inr, refl, ap, ◌∙◌, arith}
use Rattle.sqlite_disk.specs.declared.Disk.{Ghosts}
use Rattle.sqlite_pool.specs.Pool.{state}
use Rattle.sqlite_pool.specs.Stored.{Keeps}
use Rattle.sqlite_rules.specs.Edit.{next_rowid}
use Rattle.sqlite_value.specs.Order.{Row}
use Rattle.page_files.specs.declared.files.PageFile.{PageFile}
use Rattle.page_files.specs.Files.{IsFaithful}
use Rattle.page_places.specs.Failures.{FailsToStore, failure_of_row}
use Rattle.page_places.proofs.Failing.{reading_fails}
use Rattle.plain_tables.specs.Changes.{next_name}
use Rattle.plain_tables.specs.Tables.{Tables}
use Rattle.plain_tables.specs.declared.errors.StoreError.{StoreError}
use Rattle.page_places.specs.Causes.{FailsToNumber}
use Rattle.page_places.specs.declared.errors.RowError.{RowError}
use Rattle.page_places.specs.declared.errors.RowError.TheVariants.{Pages, Unstorable, NoRowid}
use Rattle.page_places.proofs.Outcomes.{numbered_next}
use Rattle.prof_store.specs.Schema.{schema_two, name_at}
use Rattle.page_imports.proofs.Numbers.{next_rowid_is}
use Rattle.page_imports.specs.Causes.{AreNarrow}
use Rattle.page_places.proofs.Showing.{table_at}
use Rattle.page_imports.proofs.Small.{next_is_small}
use Rattle.page_imports.proofs.names.next_name.Goals as goal

pub returns-in-Ok-try_from-clause-told : goal.returns-in-Ok-try_from-clause-told
returns-in-Ok-try_from-clause-told g c =
    let same : to_z w64 (of_z w64 c.in-Ok.rowid) ≡ c.in-Ok.rowid = search (rules, to_z-of_z) in
    λ clean wanted known was t shows are.
    let file = c.args.file.now in
    let at = table_at file shows.writes shows.holds 5 name_at refl _ (c.place.ensures known name_at (c.name_table.ensures known are)) in
    let told = c.in-Ok.ensures.done clean schema_two wanted known was shows.next name_at at in
    c.in-Ok-try_from.ensures.1 ∙ ap nat_abs (same ∙ told.0 ∙ next_rowid_is t shows.next shows.holds)

-- the next rowid is that of the next name, which is far from the greatest one
not_numbered : {D : Type 0} {g : Ghosts D} (old new : PageFile D g) (t : Tables) (rows : List Row) (error : RowError) (e : StoreError) → next_rowid rows ≡ pos (next_name t.names) → e ≡ failure_of_row error → Keeps (state old.pool) (state new.pool)
    → IsTrue (state old.pool).is_open → IsFaithful new → FailsToNumber old new rows error → FailsToStore old new (AreNarrow t) e
not_numbered old new t rows (Pages error) e next is keeps is_open faithful fails = reading_fails old new error e is keeps is_open faithful fails
not_numbered old new t rows Unstorable e next is keeps is_open faithful fails = absurd fails
not_numbered old new t rows NoRowid e next is keeps is_open faithful last =
    inr (is, λ narrow. far (numbered_next rows (pos (2 ^ 63 - 1)) last ∙ next) (next_is_small t narrow))
  where
    far : pos (2 ^ 63 - 1) +ℤ pos 1 ≡ pos (next_name t.names) → next_name t.names ≤ 2 ^ 32 → ⊥
    far same small = grind (arith, ints, same, small)

pub returns-in-Err-clause-told : goal.returns-in-Err-clause-told
returns-in-Err-clause-told g c clean = λ wanted known was t shows are.
    let file = c.args.file.now in
    let new = c.free_rowid.new.file in
    let at = table_at file shows.writes shows.holds 5 name_at refl _ (c.place.ensures known name_at (c.name_table.ensures known are)) in
    not_numbered file new t (shows.next 11) c.in-Err.error _ (next_rowid_is t shows.next shows.holds) c.error_of_row.ensures c.free_rowid.ensures.reads.keeps shows.writes.is_open clean
    (c.in-Err.ensures.done clean schema_two wanted known was shows.next name_at at)

pub returns-in-Err-try_from-clause-told : goal.returns-in-Err-try_from-clause-told
returns-in-Err-try_from-clause-told g c =
    let same : to_z w64 (of_z w64 c.in-Ok.rowid) ≡ c.in-Ok.rowid = search (rules, to_z-of_z) in
    λ clean wanted known was t shows are.
    let file = c.args.file.now in
    let at = table_at file shows.writes shows.holds 5 name_at refl _ (c.place.ensures known name_at (c.name_table.ensures known are)) in
    let told = c.in-Ok.ensures.done clean schema_two wanted known was shows.next name_at at in
    let is = same ∙ told.0 ∙ next_rowid_is t shows.next shows.holds in
    let no : ⊥ = grind (arith, ints, is, c.in-Err-try_from.ensures) in
    absurd no
