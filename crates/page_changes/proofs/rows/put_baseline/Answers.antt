use Rattle.std.proofs.Common.{◌≡◌, ℤ, ◌∷◌, [], None, refl, sym, subst, subst₂, to_z-of_z, to_z, of_z, w64, inr}
use Rattle.std.proofs.lemmas.Result.{IfOk-from_err, err_from_is_err_and}
use Rattle.sqlite_pool.specs.StoredLaws.{Keeps-trans, Keeps-refl}
use Rattle.sqlite_trees.specs.declared.store.Shape.TheVariants as shape
use Rattle.sqlite_trees.specs.Tree.{put_row}
use Rattle.sqlite_trees.specs.View.{IsShaped, IsStorableRow}
use Rattle.sqlite_value.specs.declared.value.Value.TheVariants.{Int, Text}
use Rattle.sqlite_value.specs.Order.{Row}
use Rattle.page_files.proofs.Steps.{writes_after}
use Rattle.page_places.specs.Changes.{HasRows, KeepsEntries}
use Rattle.page_places.specs.Places.{indexes_of}
use Rattle.prof_store.specs.Schema.{schema_two, grp_at}
use Rattle.prof_store.specs.Tables.{number, number_or_null}
use Rattle.page_places.proofs.OneLine.{baseline_put}
use Rattle.page_places.proofs.Failing.{memory_fails, row_fails, store_fails_later}
use Rattle.page_changes.specs.Causes.{CanPutBaseline}
use Rattle.page_changes.specs.Named.{IsFound, IsRowFound}
use Rattle.page_changes.proofs.Failing.{not_sought}
use Rattle.page_changes.proofs.Places.{groups_shown}
use Rattle.page_places.proofs.Showing.{table_at}
use Rattle.page_changes.proofs.rows.put_baseline.Goals as goal

pub returns-in-Ok-clause-done : goal.returns-in-Ok-clause-done
returns-in-Ok-clause-done g c faithful = λ wanted known was now t writes holds are held.
    let old = c.args.file.now in
    let mid = c.find_named.new.file in
    let name = c.args.name.now in
    let run = c.args.run in
    let before = c.replace.ensures.leaves.keeps.stays.clean faithful in
    let shows = table_at old writes holds 8 grp_at refl _ (c.place.ensures known grp_at (c.group_table.ensures known are)) in
    let at = groups_shown old writes holds c.args.roots.now are in
    let found = c.in_ok-row.ensures.found before (now 19) (record { wanted = wanted; t = 19; shows = at.0; rows_are = at.1 }) in
    let row = c.in-Some.row in
    let here = subst (IsFound c.as_bytes.result.now None (now 19)) c.in-Some.is found in
    let there = subst (λ n. IsRowFound n None (now 19) row) c.as_bytes.ensures.value here in
    let same : to_z w64 (of_z w64 row.rowid) ≡ row.rowid = to_z-of_z there.fits in
    let keeps : KeepsEntries row.rowid (Text name ∷ number run ∷ []) (now 19) (indexes_of schema_two grp_at) = (Text name ∷ number_or_null row.number ∷ [], there.there, ((refl, tt), tt)) in
    let w = writes_after old mid c.find_named.ensures.reads before c.in_ok-row.ensures.usable writes in
    let put = c.in-Ok.ensures.done faithful schema_two wanted known was now grp_at (record { writes = w; placed = shows.placed; indexed = shows.indexed })
    (subst₂ (λ (n : ℤ) (r : Row). KeepsEntries n r (now 19) (indexes_of schema_two grp_at)) (sym same) (sym c.in_ok-columns.ensures.made) keeps) in
    let h = subst₂ (λ (n : ℤ) (r : Row). HasRows schema_two wanted known was now grp_at (put_row (Int n ∷ r) (now 19)) c.replace.new.file) same c.in_ok-columns.ensures.made put in (
      h.next,
      h.writes,
      baseline_put t now holds h.next run row.rowid (record { name = name; baseline = row.number }) there.there h.only (subst (IsShaped shape.Table) (sym h.rows_are) h.shaped) h.rows_are held,
    )

pub returns-in-Ok-clause-leaves : goal.returns-in-Ok-clause-leaves
returns-in-Ok-clause-leaves g c = record { usable = c.in-Ok.ensures.leaves.usable; keeps = Keeps-trans _ _ _ c.find_named.ensures.reads.keeps c.replace.ensures.leaves.keeps }

pub returns-clause-leaves : goal.returns-clause-leaves
returns-clause-leaves g c = record { usable = tt; keeps = Keeps-trans _ _ _ c.find_named.ensures.reads.keeps c.replace.ensures.leaves.keeps }

pub returns-in_err-columns-clause-done : goal.returns-in_err-columns-clause-done
returns-in_err-columns-clause-done g c clean = λ wanted known was now t writes holds are held.
    let p = err_from_is_err_and c.from_residual.result c.from_residual.ensures.1 in
    rw (p.1, p.2) (memory_fails c.args.file.now c.args.file.now _ c.in_err-columns.ensures.failed)

pub returns-in_err-row-clause-done : goal.returns-in_err-row-clause-done
returns-in_err-row-clause-done g c faithful = λ wanted known was now t writes holds are held.
    let old = c.args.file.now in
    let new = c.find_named.new.file in
    let at = groups_shown old writes holds c.args.roots.now are in
    let p = err_from_is_err_and c.from_residual-in_err-row.result c.from_residual-in_err-row.ensures.1 in
    rw (p.1, p.2) (not_sought old new (now 19) {Can = CanPutBaseline c.args.name.now c.args.run now} _ c.find_named.ensures.reads.keeps writes.is_open faithful (λ can. can.found.in_form)
    (c.in_err-row.ensures.failed faithful (now 19) (record { wanted = wanted; t = 19; shows = at.0; rows_are = at.1 })))

pub returns-in_default-clause-done : goal.returns-in_default-clause-done
returns-in_default-clause-done g c faithful = λ wanted known was now t writes holds are held.
    let old = c.args.file.now in
    let at = groups_shown old writes holds c.args.roots.now are in
    let found = c.in_ok-row.ensures.found faithful (now 19) (record { wanted = wanted; t = 19; shows = at.0; rows_are = at.1 }) in
    let none = subst (IsFound c.as_bytes.result.now None (now 19)) c.in_default.is found in
    inr (refl, λ can. can.found.there (subst (λ n. IsFound n None (now 19) None) c.as_bytes.ensures.value none))

pub returns-clause-done : goal.returns-clause-done
returns-clause-done g c faithful = λ wanted known was now t writes holds are held.
    let old = c.args.file.now in
    let mid = c.find_named.new.file in
    let new = c.replace.new.file in
    let name = c.args.name.now in
    let run = c.args.run in
    let before = c.replace.ensures.leaves.keeps.stays.clean faithful in
    let shows = table_at old writes holds 8 grp_at refl _ (c.place.ensures known grp_at (c.group_table.ensures known are)) in
    let at = groups_shown old writes holds c.args.roots.now are in
    let found = c.in_ok-row.ensures.found before (now 19) (record { wanted = wanted; t = 19; shows = at.0; rows_are = at.1 }) in
    let row = c.in-Some.row in
    let here = subst (IsFound c.as_bytes.result.now None (now 19)) c.in-Some.is found in
    let there = subst (λ n. IsRowFound n None (now 19) row) c.as_bytes.ensures.value here in
    let same : to_z w64 (of_z w64 row.rowid) ≡ row.rowid = to_z-of_z there.fits in
    let keeps : KeepsEntries row.rowid (Text name ∷ number run ∷ []) (now 19) (indexes_of schema_two grp_at) = (Text name ∷ number_or_null row.number ∷ [], there.there, ((refl, tt), tt)) in
    let w = writes_after old mid c.find_named.ensures.reads before c.in_ok-row.ensures.usable writes in
    let fails = c.in-Err.ensures.done faithful schema_two wanted known was now grp_at (record { writes = w; placed = shows.placed; indexed = shows.indexed })
    (subst₂ (λ (n : ℤ) (r : Row). KeepsEntries n r (now 19) (indexes_of schema_two grp_at)) (sym same) (sym c.in_ok-columns.ensures.made) keeps) in
    store_fails_later old mid new _ c.find_named.ensures.reads.keeps
    (λ (can : CanPutBaseline name run now). subst₂ (λ (n : ℤ) (r : Row). IsStorableRow 0 (Int n ∷ r)) (sym same) (sym c.in_ok-columns.ensures.made) (can.room row.rowid row.number there.there))
    (row_fails mid new c.in-Err.error _ c.error_of_row.ensures fails)

pub returns-in_err-columns-clause-leaves : goal.returns-in_err-columns-clause-leaves
returns-in_err-columns-clause-leaves g c = record { usable = IfOk-from_err c.from_residual.result _ c.from_residual.ensures.0; keeps = Keeps-refl _ }

pub returns-in_err-row-clause-leaves : goal.returns-in_err-row-clause-leaves
returns-in_err-row-clause-leaves g c = record { usable = IfOk-from_err c.from_residual-in_err-row.result _ c.from_residual-in_err-row.ensures.0; keeps = c.find_named.ensures.reads.keeps }

pub returns-in_default-clause-leaves : goal.returns-in_default-clause-leaves
returns-in_default-clause-leaves g c = record { usable = tt; keeps = c.find_named.ensures.reads.keeps }
