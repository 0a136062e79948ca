use Rattle.std.proofs.Common.{rules, to_z, of_z, w64, pos, ◌≡◌, ◌++◌, [], ◌∷◌, Less, ap, refl, subst, sym, ◌∙◌}
use Rattle.std.specs.List.{AllByRecursion}
use Rattle.std.proofs.lemmas.Result.{IfOk-from_err, err_from_is_err_and}
use Rattle.sqlite_trees.specs.Tree.{rowid}
use Rattle.sqlite_trees.specs.View.{IsShaped}
use Rattle.sqlite_trees.specs.declared.store.Shape.TheVariants as shape
use Rattle.sqlite_value.specs.declared.value.Value.TheVariants.{Int}
use Rattle.sqlite_value.specs.Order.{value_cmp}
use Rattle.page_places.specs.Changes.{AreBelow, AreStorable}
use Rattle.page_places.specs.Places.{indexes_of}
use Rattle.prof_store.specs.Lines.{run_row}
use Rattle.prof_store.specs.Schema.{schema_two, run_at}
use Rattle.prof_store.specs.Tables.{number, run_columns}
use Rattle.prof_store.proofs.Rows.{runs_below}
use Rattle.page_places.proofs.Numbered.{run_behind}
use Rattle.page_places.proofs.Store.{runs_there}
use Rattle.sqlite_trees.specs.View.{IsStorableRow}
use Rattle.page_places.proofs.Failing.{memory_fails, row_fails}
use Rattle.page_imports.specs.Causes.{CanBeWritten}
use Rattle.page_imports.proofs.Failing.{fails_for}
use Rattle.page_imports.proofs.Kept.{changed_keeps}
use Rattle.page_imports.proofs.Runs.{none_equal}
use Rattle.page_places.proofs.Showing.{table_at}
use Rattle.sqlite_pool.specs.StoredLaws.{Keeps-refl}
use Rattle.page_imports.proofs.heads.put_run_row.Goals as goal

pub returns-in-Ok-clause-done : goal.returns-in-Ok-clause-done
returns-in-Ok-clause-done g c clean = λ wanted known was t shows are can.
    let file = c.args.file.now in
    let run = run_row c.args.run.now in
    let now = shows.next in
    let id : to_z w64 (of_z w64 c.from.result) ≡ pos run.number = search rules in
    let below = subst (AllByRecursion (λ r. value_cmp (rowid r) (number run.number) ≡ Less)) (sym (runs_there t now shows.holds)) (runs_below t.runs run.number can.above) in
    let above = subst (λ z. AreBelow (Int z) (now 1)) (sym id) below in
    let at = table_at file shows.writes shows.holds 1 run_at refl _ (c.place.ensures known run_at (c.run_table.ensures known are)) in
    let made = c.in-Ok.ensures.done clean schema_two wanted known was now run_at at above in
    let behind : made.next 1 ≡ now 1 ++ run_columns run ∷ [] = made.rows_are ∙ ap (λ z. now 1 ++ (Int z ∷ c.in_ok-columns.columns) ∷ []) id ∙ ap (λ l. now 1 ++ (number run.number ∷ l) ∷ []) c.in_ok-columns.ensures in
    record {
      shows = record { next = made.next; writes = made.writes; holds = run_behind t now made.next shows.holds made.only (subst (IsShaped shape.Table) (sym made.rows_are) made.shaped) run behind (none_equal t.runs run.digest can.none) can.low };
      kept = changed_keeps run_at now made.next made.only;
    }

pub returns-clause-done : goal.returns-clause-done
returns-clause-done g c clean = λ wanted known was t shows are can.
    let file = c.args.file.now in
    let new = c.insert.new.file in
    let run = run_row c.args.run.now in
    let now = shows.next in
    let id : to_z w64 (of_z w64 c.from.result) ≡ pos run.number = search rules in
    let below = subst (AllByRecursion (λ r. value_cmp (rowid r) (number run.number) ≡ Less)) (sym (runs_there t now shows.holds)) (runs_below t.runs run.number can.above) in
    let above = subst (λ z. AreBelow (Int z) (now 1)) (sym id) below in
    let at = table_at file shows.writes shows.holds 1 run_at refl _ (c.place.ensures known run_at (c.run_table.ensures known are)) in
    let failed = c.in-Err.ensures.done clean schema_two wanted known was now run_at at above in
    let is = ap (λ z. Int z ∷ c.in_ok-columns.columns) id ∙ ap (λ l. number run.number ∷ l) c.in_ok-columns.ensures in
    fails_for file new _ (λ (can : CanBeWritten run_at (run_columns run)). (subst (IsStorableRow 0) (sym is) can.row, subst (λ l. AreStorable l (indexes_of schema_two run_at)) (sym is) can.entries))
    (row_fails file new c.in-Err.error _ c.error_of_row.ensures failed)

pub returns-in_err-columns-clause-done : goal.returns-in_err-columns-clause-done
returns-in_err-columns-clause-done g c clean = λ wanted known was t shows are can.
    let p = err_from_is_err_and c.from_residual.result c.from_residual.ensures.1 in
    rw p.1 (memory_fails c.args.file.now c.args.file.now p.0 p.2)

pub returns-in_err-columns-clause-leaves : goal.returns-in_err-columns-clause-leaves
returns-in_err-columns-clause-leaves g c = record { usable = IfOk-from_err c.from_residual.result _ c.from_residual.ensures.0; keeps = Keeps-refl _ }

pub returns-in-Ok-clause-leaves : goal.returns-in-Ok-clause-leaves
returns-in-Ok-clause-leaves g c = record { usable = c.in-Ok.ensures.leaves.usable; keeps = c.insert.ensures.leaves.keeps }

pub returns-clause-leaves : goal.returns-clause-leaves
returns-clause-leaves g c = record { usable = tt; keeps = c.insert.ensures.leaves.keeps }
