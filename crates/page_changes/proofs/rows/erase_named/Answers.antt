use Rattle.std.proofs.Common.{None, refl, subst, to_z-of_z, inr}
use Rattle.std.proofs.lemmas.Result.{IfOk-from_err, err_from_is_err_and}
use Rattle.sqlite_pool.specs.StoredLaws.{Keeps-trans}
use Rattle.sqlite_trees.specs.Tree.{without_rowid}
use Rattle.page_files.proofs.Steps.{writes_after}
use Rattle.page_places.specs.Changes.{HasRows}
use Rattle.page_places.proofs.Outcomes.{table_shows}
use Rattle.page_places.proofs.Failing.{row_fails, store_fails_later}
use Rattle.page_changes.specs.Named.{CanBeFound, IsFound, IsRowFound}
use Rattle.page_changes.proofs.Failing.{not_sought}
use Rattle.page_changes.proofs.rows.erase_named.Goals as goal

pub returns-in-Ok-clause-done : goal.returns-in-Ok-clause-done
returns-in-Ok-clause-done g c faithful = λ schema wanted roots was now table shows.
    let old = c.args.file.now in
    let mid = c.find_named.new.file in
    let before = c.erase.ensures.leaves.keeps.stays.clean faithful in
    let at = table_shows old shows in
    let found = c.in_ok-row.ensures.found before (now table.tree) (record { wanted = wanted; t = table.tree; shows = at.0; rows_are = at.1 }) in
    let row = c.in-Some.row in
    let here = subst (IsFound c.as_bytes.result.now c.args.number (now table.tree)) c.in-Some.is found in
    let there = subst (λ n. IsRowFound n c.args.number (now table.tree) row) c.as_bytes.ensures.value here in
    let w = writes_after old mid c.find_named.ensures.reads before c.in_ok-row.ensures.usable shows.writes in
    let h = c.in-Ok.ensures.done faithful schema wanted roots was now table (record { writes = w; placed = shows.placed; indexed = shows.indexed }) tt in
    record { row = row; found = there; rows = subst (λ z. HasRows schema wanted roots was now table (without_rowid z (now table.tree)) c.erase.new.file) (to_z-of_z there.fits) h }

pub returns-in-Ok-clause-leaves : goal.returns-in-Ok-clause-leaves
returns-in-Ok-clause-leaves g c = record { usable = c.in-Ok.ensures.leaves.usable; keeps = Keeps-trans _ _ _ c.find_named.ensures.reads.keeps c.erase.ensures.leaves.keeps }

pub returns-in-Err-clause-leaves : goal.returns-in-Err-clause-leaves
returns-in-Err-clause-leaves g c = record { usable = tt; keeps = Keeps-trans _ _ _ c.find_named.ensures.reads.keeps c.erase.ensures.leaves.keeps }

pub returns-in_err-row-clause-done : goal.returns-in_err-row-clause-done
returns-in_err-row-clause-done g c faithful = λ schema wanted roots was now table shows.
    let old = c.args.file.now in
    let new = c.find_named.new.file in
    let at = table_shows old shows in
    let rows = now table.tree in
    let p = err_from_is_err_and c.from_residual.result c.from_residual.ensures.1 in
    rw (p.1, p.2) (not_sought old new rows {Can = CanBeFound c.args.name.now c.args.number rows} _ c.find_named.ensures.reads.keeps shows.writes.is_open faithful (λ can. can.in_form)
    (c.in_err-row.ensures.failed faithful rows (record { wanted = wanted; t = table.tree; shows = at.0; rows_are = at.1 })))

pub returns-in_default-clause-done : goal.returns-in_default-clause-done
returns-in_default-clause-done g c faithful = λ schema wanted roots was now table shows.
    let old = c.args.file.now in
    let at = table_shows old shows in
    let rows = now table.tree in
    let found = c.in_ok-row.ensures.found faithful rows (record { wanted = wanted; t = table.tree; shows = at.0; rows_are = at.1 }) in
    let none = subst (IsFound c.as_bytes.result.now c.args.number rows) c.in_default.is found in
    inr (refl, λ can. can.there (subst (λ n. IsFound n c.args.number rows None) c.as_bytes.ensures.value none))

pub returns-in-Err-clause-done : goal.returns-in-Err-clause-done
returns-in-Err-clause-done g c faithful = λ schema wanted roots was now table shows.
    let old = c.args.file.now in
    let mid = c.find_named.new.file in
    let new = c.erase.new.file in
    let before = c.erase.ensures.leaves.keeps.stays.clean faithful in
    let w = writes_after old mid c.find_named.ensures.reads before c.in_ok-row.ensures.usable shows.writes in
    let fails = c.in-Err.ensures.done faithful schema wanted roots was now table (record { writes = w; placed = shows.placed; indexed = shows.indexed }) tt in
    store_fails_later old mid new _ c.find_named.ensures.reads.keeps (λ _. tt) (row_fails mid new c.in-Err.error _ c.error_of_row.ensures fails)

pub returns-in_err-row-clause-leaves : goal.returns-in_err-row-clause-leaves
returns-in_err-row-clause-leaves g c = record { usable = IfOk-from_err c.from_residual.result _ c.from_residual.ensures.0; keeps = c.find_named.ensures.reads.keeps }

pub returns-in_default-clause-leaves : goal.returns-in_default-clause-leaves
returns-in_default-clause-leaves g c = record { usable = tt; keeps = c.find_named.ensures.reads.keeps }
