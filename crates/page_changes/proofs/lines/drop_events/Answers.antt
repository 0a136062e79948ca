use Rattle.std.proofs.Common.{[], ◌∷◌, refl}
use Rattle.sqlite_pool.specs.StoredLaws.{Keeps-trans}
use Rattle.prof_store.specs.Schema.{schema_two, run_event_at, derived_at, coef_at}
use Rattle.page_changes.proofs.RemovalPlaces.{after, coefs_out, derived_out, events_out}
use Rattle.page_places.proofs.Showing.{table_at}
use Rattle.page_places.proofs.Outcomes.{match_result}
use Rattle.std.proofs.lemmas.Result.{IfOk-from_err, err_from_is_err_and}
use Rattle.page_places.proofs.Failing.{store_fails_later}
use Rattle.page_changes.proofs.lines.drop_events.Goals as goal

pub returns-in_err-erase_run-2-clause-leaves : goal.returns-in_err-erase_run-2-clause-leaves
returns-in_err-erase_run-2-clause-leaves g c = record { usable = IfOk-from_err c.from_residual-in_err-erase_run-2.result _ c.from_residual-in_err-erase_run-2.ensures.0; keeps = Keeps-trans _ _ _ c.erase_run.ensures.leaves.keeps c.erase_run-2.ensures.leaves.keeps }

pub returns-clause-leaves : goal.returns-clause-leaves
returns-clause-leaves g c = record { usable = c.erase_run-3.ensures.leaves.usable; keeps = Keeps-trans _ _ _ (Keeps-trans _ _ _ c.erase_run.ensures.leaves.keeps c.erase_run-2.ensures.leaves.keeps) c.erase_run-3.ensures.leaves.keeps }

pub returns-clause-done : goal.returns-clause-done
returns-clause-done g c faithful = λ wanted known was now t writes holds roots any.
    let n = c.args.run in
    let after_two = c.erase_run-3.ensures.leaves.keeps.stays.clean faithful in
    let after_one = c.erase_run-2.ensures.leaves.keeps.stays.clean after_two in
    let keeps = Keeps-trans _ _ _ c.erase_run.ensures.leaves.keeps c.erase_run-2.ensures.leaves.keeps in
    after (events_out n c.erase_run.new.file wanted known was now t holds (c.in_ok-erase_run.ensures.done after_one schema_two wanted known was now run_event_at
    (table_at c.args.file.now writes holds 2 run_event_at refl _ (c.place.ensures known run_event_at (c.event_table.ensures known roots)))
    ((2 ∷ [], refl), ((3 ∷ [], refl), tt))))
    (λ events writes_one holds_one. after (derived_out n c.erase_run-2.new.file wanted known was events _ holds_one (c.in_ok-erase_run-2.ensures.done after_two schema_two wanted known was events derived_at
    (table_at c.erase_run.new.file writes_one holds_one 3 derived_at refl _ (c.place-2.ensures known derived_at (c.derived_table.ensures known roots)))
    ((2 ∷ [], refl), ((3 ∷ [], refl), tt))))
    (λ derived writes_two holds_two. match_result c.erase_run-3.result (λ erased. let coefs = coefs_out n c.erase_run-3.new.file wanted known was derived _ holds_two erased in (coefs.next, coefs.writes, coefs.holds_left))
    (λ e. store_fails_later c.args.file.now c.erase_run-2.new.file c.erase_run-3.new.file e keeps (λ _. tt))
    (c.erase_run-3.ensures.done faithful schema_two wanted known was derived coef_at
    (table_at c.erase_run-2.new.file writes_two holds_two 4 coef_at refl _ (c.place-3.ensures known coef_at (c.coef_table.ensures known roots)))
    ((2 ∷ 3 ∷ [], refl), tt))))

pub returns-in_err-erase_run-clause-done : goal.returns-in_err-erase_run-clause-done
returns-in_err-erase_run-clause-done g c faithful = λ wanted known was now t writes holds roots any.
    let p = err_from_is_err_and c.from_residual.result c.from_residual.ensures.1 in
    rw (p.1, p.2) (c.in_err-erase_run.ensures.done faithful schema_two wanted known was now run_event_at
    (table_at c.args.file.now writes holds 2 run_event_at refl _ (c.place.ensures known run_event_at (c.event_table.ensures known roots)))
    ((2 ∷ [], refl), ((3 ∷ [], refl), tt)))

pub returns-in_err-erase_run-2-clause-done : goal.returns-in_err-erase_run-2-clause-done
returns-in_err-erase_run-2-clause-done g c faithful = λ wanted known was now t writes holds roots any.
    let n = c.args.run in
    let after_one = c.erase_run-2.ensures.leaves.keeps.stays.clean faithful in
    let p = err_from_is_err_and c.from_residual-in_err-erase_run-2.result c.from_residual-in_err-erase_run-2.ensures.1 in
    rw (p.1, p.2) (after (events_out n c.erase_run.new.file wanted known was now t holds (c.in_ok-erase_run.ensures.done after_one schema_two wanted known was now run_event_at
    (table_at c.args.file.now writes holds 2 run_event_at refl _ (c.place.ensures known run_event_at (c.event_table.ensures known roots)))
    ((2 ∷ [], refl), ((3 ∷ [], refl), tt))))
    (λ events writes_one holds_one. (store_fails_later c.args.file.now c.erase_run.new.file c.erase_run-2.new.file _ c.erase_run.ensures.leaves.keeps (λ _. tt) (c.in_err-erase_run-2.ensures.done faithful schema_two wanted known was events derived_at
    (table_at c.erase_run.new.file writes_one holds_one 3 derived_at refl _ (c.place-2.ensures known derived_at (c.derived_table.ensures known roots)))
    ((2 ∷ [], refl), ((3 ∷ [], refl), tt))))))

pub returns-in_err-erase_run-clause-leaves : goal.returns-in_err-erase_run-clause-leaves
returns-in_err-erase_run-clause-leaves g c = record { usable = IfOk-from_err c.from_residual.result _ c.from_residual.ensures.0; keeps = c.erase_run.ensures.leaves.keeps }
