use Rattle.std.proofs.Common.{[], ◌∷◌, refl}
use Rattle.sqlite_pool.specs.StoredLaws.{Keeps-trans}
use Rattle.prof_store.specs.Schema.{schema_two, thread_cell_at, arc_at, stack_at}
use Rattle.page_changes.proofs.RemovalPlaces.{after, calls_out, cells_out, stacks_out}
use Rattle.page_places.proofs.Showing.{table_at}
use Rattle.page_places.proofs.Outcomes.{match_result}
use Rattle.std.proofs.lemmas.Result.{IfOk-from_err, err_from_is_err_and}
use Rattle.page_places.proofs.Failing.{store_fails_later}
use Rattle.page_changes.proofs.lines.drop_costs.Goals as goal

pub returns-in_err-erase_run-2-clause-leaves : goal.returns-in_err-erase_run-2-clause-leaves
returns-in_err-erase_run-2-clause-leaves g c = record { usable = IfOk-from_err c.from_residual-in_err-erase_run-2.result _ c.from_residual-in_err-erase_run-2.ensures.0; keeps = Keeps-trans _ _ _ c.erase_run.ensures.leaves.keeps c.erase_run-2.ensures.leaves.keeps }

pub returns-clause-leaves : goal.returns-clause-leaves
returns-clause-leaves g c = record { usable = c.erase_run-3.ensures.leaves.usable; keeps = Keeps-trans _ _ _ (Keeps-trans _ _ _ c.erase_run.ensures.leaves.keeps c.erase_run-2.ensures.leaves.keeps) c.erase_run-3.ensures.leaves.keeps }

pub returns-clause-done : goal.returns-clause-done
returns-clause-done g c faithful = λ wanted known was now t writes holds roots any.
    let n = c.args.run in
    let after_two = c.erase_run-3.ensures.leaves.keeps.stays.clean faithful in
    let after_one = c.erase_run-2.ensures.leaves.keeps.stays.clean after_two in
    let keeps = Keeps-trans _ _ _ c.erase_run.ensures.leaves.keeps c.erase_run-2.ensures.leaves.keeps in
    after (cells_out n c.erase_run.new.file wanted known was now t holds (c.in_ok-erase_run.ensures.done after_one schema_two wanted known was now thread_cell_at
    (table_at c.args.file.now writes holds 10 thread_cell_at refl _ (c.place.ensures known thread_cell_at (c.cell_table.ensures known roots)))
    ((5 ∷ 6 ∷ 4 ∷ 3 ∷ 2 ∷ 7 ∷ [], refl), tt)))
    (λ cells writes_one holds_one. after (calls_out n c.erase_run-2.new.file wanted known was cells _ holds_one (c.in_ok-erase_run-2.ensures.done after_two schema_two wanted known was cells arc_at
    (table_at c.erase_run.new.file writes_one holds_one 6 arc_at refl _ (c.place-2.ensures known arc_at (c.call_table.ensures known roots)))
    ((2 ∷ 3 ∷ 4 ∷ 5 ∷ 6 ∷ 7 ∷ 8 ∷ 9 ∷ [], refl), tt)))
    (λ calls writes_two holds_two. match_result c.erase_run-3.result (λ erased. let stacks = stacks_out n c.erase_run-3.new.file wanted known was calls _ holds_two erased in (stacks.next, stacks.writes, stacks.holds_left))
    (λ e. store_fails_later c.args.file.now c.erase_run-2.new.file c.erase_run-3.new.file e keeps (λ _. tt))
    (c.erase_run-3.ensures.done faithful schema_two wanted known was calls stack_at
    (table_at c.erase_run-2.new.file writes_two holds_two 7 stack_at refl _ (c.place-3.ensures known stack_at (c.stack_table.ensures known roots)))
    ((2 ∷ [], refl), tt))))

pub returns-in_err-erase_run-clause-done : goal.returns-in_err-erase_run-clause-done
returns-in_err-erase_run-clause-done g c faithful = λ wanted known was now t writes holds roots any.
    let p = err_from_is_err_and c.from_residual.result c.from_residual.ensures.1 in
    rw (p.1, p.2) (c.in_err-erase_run.ensures.done faithful schema_two wanted known was now thread_cell_at
    (table_at c.args.file.now writes holds 10 thread_cell_at refl _ (c.place.ensures known thread_cell_at (c.cell_table.ensures known roots)))
    ((5 ∷ 6 ∷ 4 ∷ 3 ∷ 2 ∷ 7 ∷ [], refl), tt))

pub returns-in_err-erase_run-2-clause-done : goal.returns-in_err-erase_run-2-clause-done
returns-in_err-erase_run-2-clause-done g c faithful = λ wanted known was now t writes holds roots any.
    let n = c.args.run in
    let after_one = c.erase_run-2.ensures.leaves.keeps.stays.clean faithful in
    let p = err_from_is_err_and c.from_residual-in_err-erase_run-2.result c.from_residual-in_err-erase_run-2.ensures.1 in
    rw (p.1, p.2) (after (cells_out n c.erase_run.new.file wanted known was now t holds (c.in_ok-erase_run.ensures.done after_one schema_two wanted known was now thread_cell_at
    (table_at c.args.file.now writes holds 10 thread_cell_at refl _ (c.place.ensures known thread_cell_at (c.cell_table.ensures known roots)))
    ((5 ∷ 6 ∷ 4 ∷ 3 ∷ 2 ∷ 7 ∷ [], refl), tt)))
    (λ cells writes_one holds_one. (store_fails_later c.args.file.now c.erase_run.new.file c.erase_run-2.new.file _ c.erase_run.ensures.leaves.keeps (λ _. tt) (c.in_err-erase_run-2.ensures.done faithful schema_two wanted known was cells arc_at
    (table_at c.erase_run.new.file writes_one holds_one 6 arc_at refl _ (c.place-2.ensures known arc_at (c.call_table.ensures known roots)))
    ((2 ∷ 3 ∷ 4 ∷ 5 ∷ 6 ∷ 7 ∷ 8 ∷ 9 ∷ [], refl), tt)))))

pub returns-in_err-erase_run-clause-leaves : goal.returns-in_err-erase_run-clause-leaves
returns-in_err-erase_run-clause-leaves g c = record { usable = IfOk-from_err c.from_residual.result _ c.from_residual.ensures.0; keeps = c.erase_run.ensures.leaves.keeps }
