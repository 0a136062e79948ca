use Rattle.std.proofs.Common.{◌≡◌, rules, to_z, of_z, w64, ◌++◌, ◌∷◌, [], sym, subst, ◌∙◌, to_z-of_z}
use Rattle.sqlite_pool.specs.StoredLaws.{Keeps-trans}
use Rattle.sqlite_value.specs.declared.value.Value.TheVariants.{Int}
use Rattle.page_files.proofs.Steps.{writes_after}
use Rattle.sqlite_trees.specs.View.{IsStorableRow}
use Rattle.page_places.proofs.Failing.{row_fails, store_fails_later}
use Rattle.page_places.specs.Changes.{AreBelow, AreStorable, HasRows}
use Rattle.page_places.specs.Places.{indexes_of}
use Rattle.page_changes.proofs.Failing.{not_numbered}
use Rattle.page_changes.proofs.rows.put_behind.Goals as goal

pub returns-in-Ok-insert-clause-done : goal.returns-in-Ok-insert-clause-done
returns-in-Ok-insert-clause-done g c faithful = λ schema wanted roots was now table shows.
    let old = c.args.file.now in
    let mid = c.free_rowid.new.file in
    let before = c.insert.ensures.leaves.keeps.stays.clean faithful in
    let told = c.in-Ok.ensures.done before schema wanted roots was now table shows in
    let w = writes_after old mid c.free_rowid.ensures.reads before c.in-Ok.ensures.usable shows.writes in
    let same : to_z w64 (of_z w64 c.in-Ok.rowid) ≡ c.in-Ok.rowid = search (rules, to_z-of_z) in
    let h = c.in-Ok-insert.ensures.done faithful schema wanted roots was now table (record { writes = w; placed = shows.placed; indexed = shows.indexed }) (subst (λ z. AreBelow (Int z) (now table.tree)) (sym same) told.1) in
    subst (λ z. HasRows schema wanted roots was now table (now table.tree ++ (Int z ∷ c.args.columns.now) ∷ []) c.insert.new.file) (same ∙ told.0) h

pub returns-in-Ok-insert-clause-leaves : goal.returns-in-Ok-insert-clause-leaves
returns-in-Ok-insert-clause-leaves g c = record { usable = c.in-Ok-insert.ensures.leaves.usable; keeps = Keeps-trans _ _ _ c.free_rowid.ensures.reads.keeps c.insert.ensures.leaves.keeps }

pub returns-in-Err-insert-clause-leaves : goal.returns-in-Err-insert-clause-leaves
returns-in-Err-insert-clause-leaves g c = record { usable = tt; keeps = Keeps-trans _ _ _ c.free_rowid.ensures.reads.keeps c.insert.ensures.leaves.keeps }

pub returns-in-Err-clause-done : goal.returns-in-Err-clause-done
returns-in-Err-clause-done g c faithful = λ schema wanted roots was now table shows.
    not_numbered c.args.file.now c.free_rowid.new.file c.args.columns.now (now table.tree) (indexes_of schema table) c.in-Err.error _ c.error_of_row.ensures c.free_rowid.ensures.reads.keeps shows.writes.is_open faithful
    (c.in-Err.ensures.done faithful schema wanted roots was now table shows)

pub returns-in-Err-insert-clause-done : goal.returns-in-Err-insert-clause-done
returns-in-Err-insert-clause-done g c faithful = λ schema wanted roots was now table shows.
    let old = c.args.file.now in
    let mid = c.free_rowid.new.file in
    let new = c.insert.new.file in
    let before = c.insert.ensures.leaves.keeps.stays.clean faithful in
    let told = c.in-Ok.ensures.done before schema wanted roots was now table shows in
    let w = writes_after old mid c.free_rowid.ensures.reads before c.in-Ok.ensures.usable shows.writes in
    let same : to_z w64 (of_z w64 c.in-Ok.rowid) ≡ c.in-Ok.rowid = search (rules, to_z-of_z) in
    let fails = c.in-Err-insert.ensures.done faithful schema wanted roots was now table (record { writes = w; placed = shows.placed; indexed = shows.indexed }) (subst (λ z. AreBelow (Int z) (now table.tree)) (sym same) told.1) in
    store_fails_later old mid new _ c.free_rowid.ensures.reads.keeps
    (λ can. subst (λ z. IsStorableRow 0 (Int z ∷ c.args.columns.now) × AreStorable (Int z ∷ c.args.columns.now) (indexes_of schema table)) (sym (same ∙ told.0)) (can.row, can.entries))
    (row_fails mid new c.in-Err-insert.error _ c.error_of_row-in-Err-insert.ensures fails)

pub returns-in-Err-clause-leaves : goal.returns-in-Err-clause-leaves
returns-in-Err-clause-leaves g c = record { usable = tt; keeps = c.free_rowid.ensures.reads.keeps }
