use Rattle.std.proofs.Common.{Result, Ok, Err, OnOk, IfErr, MatchResult, inr, refl, ◌∙◌}
use Rattle.sqlite_disk.specs.declared.Disk.{Ghosts}
use Rattle.sqlite_pool.specs.Pool.{state}
use Rattle.sqlite_pool.specs.StoredLaws.{Keeps-refl, Keeps-trans}
use Rattle.page_files.specs.declared.files.PageFile.{PageFile}
use Rattle.plain_tables.specs.declared.errors.StoreError.{StoreError}
use Rattle.plain_tables.specs.declared.errors.StoreError.TheVariants.{Memory, Store}
use Rattle.page_places.specs.Failures.{FailsToStore}
use Rattle.page_places.proofs.Failing.{memory_fails, row_fails, store_fails_later}
use Rattle.page_files.proofs.Steps.{writes_after}
use Rattle.prof_store.specs.Schema.{schema_two, grp_at}
use Rattle.page_changes.proofs.Clearing.{none_sought, sought_picked}
use Rattle.page_places.proofs.Showing.{table_at}
use Rattle.page_changes.proofs.baselines.clear_baselines.Goals as goal

-- memory may run out at any time, and the store may fail only where this is missing
either : {D : Type 0} {g : Ghosts D} (old new : PageFile D g) {Can : Type 0} (e : StoreError) → ¬ Can → FailsToStore old new Can e
either old new Memory none = memory_fails old new Memory refl
either old new Store none = inr (refl, none)

match_either : {T E : Type 0} (r : Result T E) (P : Type 0) (F G : E → Type 0) → OnOk r P → ((e : E) → G e → F e) → IfErr r G → MatchResult r (λ _. P) F
match_either (Ok x) P F G p so g = p
match_either (Err e) P F G p so g = so e g

pub returns-clause-leaves : goal.returns-clause-leaves
returns-clause-leaves g c = record { usable = c.clear_all.ensures.usable c.in-Ok.ensures.usable; keeps = Keeps-trans _ _ _ c.rowids_where.ensures.reads.keeps c.clear_all.ensures.keeps }

pub returns-clause-done : goal.returns-clause-done
returns-clause-done g c faithful = λ wanted known was now t writes holds roots any.
    let old = c.args.file.now in
    let mid = c.rowids_where.new.file in
    let before = c.clear_all.ensures.keeps.stays.clean faithful in
    let shows = table_at old writes holds 8 grp_at refl _ (c.place-place.ensures known grp_at (c.group_table-table.ensures known roots)) in
    let w = writes_after old mid c.rowids_where.ensures.reads before c.in-Ok.ensures.usable writes in
    let ids = c.as_slice.ensures.value ∙ c.in-Ok.ensures.done before schema_two wanted known was now grp_at shows in
    match_either c.clear_all.result _ _ _ (c.clear_all.ensures.done faithful wanted known was now t holds (record { writes = w; placed = shows.placed; indexed = shows.indexed }) (sought_picked c.args.run now _ ids))
    (λ e some. either old c.clear_all.new.file e (λ none. none_sought c.args.run t now _ holds ids none some)) c.clear_all.ensures.some

pub returns-in-Err-clause-done : goal.returns-in-Err-clause-done
returns-in-Err-clause-done g c faithful = λ wanted known was now t writes holds roots any.
    let old = c.args.file.now in
    let new = c.rowids_where.new.file in
    let shows = table_at old writes holds 8 grp_at refl _ (c.place-place.ensures known grp_at (c.group_table-table.ensures known roots)) in
    store_fails_later old old new _ (Keeps-refl (state old.pool)) (λ _. tt) (row_fails old new c.in-Err.error _ c.error_of_row.ensures (c.in-Err.ensures.done faithful schema_two wanted known was now grp_at shows))
