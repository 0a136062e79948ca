use Rattle.std.proofs.Common.{rules, ◌≡◌, pos, refl, sym, subst, to_z-of_z, to_z, of_z, w64, ◌∙◌}
use Rattle.sqlite_trees.specs.declared.store.Shape.TheVariants as shape
use Rattle.sqlite_trees.specs.Tree.{without_rowid}
use Rattle.sqlite_trees.specs.View.{IsShaped}
use Rattle.page_places.specs.Changes.{HasRows}
use Rattle.prof_store.specs.Schema.{schema_two, run_at}
use Rattle.page_places.proofs.Runs.{without_run_from}
use Rattle.page_places.proofs.Showing.{table_at}
use Rattle.page_places.proofs.Failing.{row_fails}
use Rattle.page_changes.proofs.runs.drop_its_row.Goals as goal

pub returns-in-Ok-clause-done : goal.returns-in-Ok-clause-done
returns-in-Ok-clause-done g c faithful = λ wanted known was now t writes holds roots.
    let file = c.args.file.now in
    let new = c.erase.new.file in
    let back : to_z w64 (of_z w64 c.from.result) ≡ c.from.result = search (rules, to_z-of_z) in
    let same : to_z w64 (of_z w64 c.from.result) ≡ pos c.args.run = back ∙ c.from.ensures in
    let shows = table_at file writes holds 1 run_at refl _ (c.place.ensures known run_at (c.run_table.ensures known roots)) in
    let h = subst (λ z. HasRows schema_two wanted known was now run_at (without_rowid z (now 1)) new) same (c.in-Ok.ensures.done faithful schema_two wanted known was now run_at shows tt) in
    (h.next, h.writes, without_run_from c.args.run t now h.next holds h.only (subst (IsShaped shape.Table) (sym h.rows_are) h.shaped) h.rows_are)

pub returns-in-Err-clause-done : goal.returns-in-Err-clause-done
returns-in-Err-clause-done g c faithful = λ wanted known was now t writes holds roots.
    let file = c.args.file.now in
    let shows = table_at file writes holds 1 run_at refl _ (c.place.ensures known run_at (c.run_table.ensures known roots)) in
    row_fails file c.erase.new.file c.in-Err.error _ c.error_of_row.ensures (c.in-Err.ensures.done faithful schema_two wanted known was now run_at shows tt)

pub returns-in-Ok-clause-leaves : goal.returns-in-Ok-clause-leaves
returns-in-Ok-clause-leaves g c = record { usable = c.in-Ok.ensures.leaves.usable; keeps = c.erase.ensures.leaves.keeps }

pub returns-in-Err-clause-leaves : goal.returns-in-Err-clause-leaves
returns-in-Err-clause-leaves g c = record { usable = tt; keeps = c.erase.ensures.leaves.keeps }
