use Rattle.std.proofs.Common.{◌++◌, ◌∷◌, [], ap, refl, sym, subst, ◌∙◌}
use Rattle.std.proofs.lemmas.Result.{IfOk-from_err, err_from_is_err_and}
use Rattle.sqlite_rules.specs.Edit.{next_rowid}
use Rattle.sqlite_trees.specs.declared.store.Shape.TheVariants as shape
use Rattle.sqlite_trees.specs.View.{IsShaped}
use Rattle.sqlite_value.specs.declared.value.Value.TheVariants.{Int}
use Rattle.prof_store.specs.Schema.{schema_two, grp_at}
use Rattle.page_places.proofs.Groups.{group_behind}
use Rattle.page_places.proofs.Showing.{table_at}
use Rattle.page_places.specs.Failures.{FailsToStore}
use Rattle.page_places.proofs.Failing.{memory_fails}
use Rattle.page_places.specs.Places.{indexes_of}
use Rattle.page_places.proofs.Outcomes.{match_result}
use Rattle.page_changes.specs.Causes.{CanFollow}
use Rattle.sqlite_pool.specs.StoredLaws.{Keeps-refl}
use Rattle.page_changes.proofs.rows.add_group.Goals as goal

pub returns-clause-done : goal.returns-clause-done
returns-clause-done g c clean = λ wanted known was now t writes holds are none.
    let name = c.args.name.now in
    let id = next_rowid (now 19) in
    let shows = table_at c.args.file.now writes holds 8 grp_at refl _ (c.place.ensures known grp_at (c.group_table.ensures known are)) in
    match_result c.put_behind.result (λ h. (
      h.next,
      h.writes,
      group_behind t now h.next holds name id h.only (h.rows_are ∙ ap (λ l. now 19 ++ (Int id ∷ l) ∷ []) c.in_ok-columns.ensures.made) (subst (IsShaped shape.Table) (sym h.rows_are) h.shaped) none,
    ))
    (λ e fails. subst (λ l. FailsToStore c.args.file.now c.put_behind.new.file (CanFollow l (now 19) (indexes_of schema_two grp_at)) e) c.in_ok-columns.ensures.made fails)
    (c.put_behind.ensures.done clean schema_two wanted known was now grp_at shows)

pub returns-in_err-columns-clause-done : goal.returns-in_err-columns-clause-done
returns-in_err-columns-clause-done g c clean = λ wanted known was now t writes holds are fact.
    let p = err_from_is_err_and c.from_residual.result c.from_residual.ensures.1 in
    rw (p.1, p.2) (memory_fails c.args.file.now c.args.file.now _ c.in_err-columns.ensures.failed)

pub returns-in_err-columns-clause-leaves : goal.returns-in_err-columns-clause-leaves
returns-in_err-columns-clause-leaves g c = record { usable = IfOk-from_err c.from_residual.result _ c.from_residual.ensures.0; keeps = Keeps-refl _ }

pub returns-clause-leaves : goal.returns-clause-leaves
returns-clause-leaves g c = c.put_behind.ensures.leaves
