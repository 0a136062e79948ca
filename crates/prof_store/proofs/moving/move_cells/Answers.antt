use Rattle.std.proofs.Common.{true}
use Rattle.std.specs.Result.{is_ok}
use Rattle.sqlite.specs.State.{State}
use Rattle.sql_tables.specs.Contents.{Contain, without_content}
use Rattle.sql_tables.specs.States.{Works}
use Rattle.prof_store.specs.First.{HoldsFirst, first_contents_of}
use Rattle.prof_store.specs.Schema.{schema_one, schema_both, schema_two}
use Rattle.plain_tables.specs.Tables.{new_tables}
use Rattle.prof_store.specs.Tables.{Holds}
use Rattle.prof_store.specs.Texts.{copy_cells_sql, second_sql}
use Rattle.prof_store.proofs.Moves.{Sees, Stay, with_none, with_rows, begun, filled, ended}
use Rattle.prof_store.proofs.Parts.{makes_any, makes_beside, makes_then, statement_makes}
use Rattle.prof_store.proofs.moving.move_cells.Goals as goal

pub returns-clause-moves : goal.returns-clause-moves
returns-clause-moves g c t =
    let first : State → Type 0 = Works schema_one (HoldsFirst t) in
    let seen : State → Type 0 = Sees t schema_one (first_contents_of t) in
    let made : State → Type 0 = Sees t schema_both (with_none t) in
    let full : State → Type 0 = Sees t schema_both (with_rows t) in
    let left : State → Type 0 = Sees t schema_two (without_content 6 (with_rows t)) in
    let last : State → Type 0 = Works schema_two (Holds t) in
    let one = makes_beside g.S.Store true (Stay t) (Works schema_one (Contain schema_one (first_contents_of t))) (Works schema_both (Contain schema_both (with_none t))) _ _ (c.in_ok-make_thread_cells.ensures.makes (first_contents_of t)) in
    let two = makes_then g.S.Store true seen made made full _ _ _ one (statement_makes g.S.Store copy_cells_sql made full (λ s was. was.1.running) (filled t) true _ _ c.in_ok-write_inside.ensures) (λ s it. it) in
    let dropped = makes_beside g.S.Store true (Stay t) (Works schema_both (Contain schema_both (with_rows t))) (Works schema_two (Contain schema_two (without_content 6 (with_rows t)))) _ _ (c.in_ok-drop_cells.ensures.makes (with_rows t)) in
    let three = makes_then g.S.Store true seen full full left _ _ _ two dropped (λ s it. it) in
    let all = makes_then g.S.Store (is_ok c.write_inside-2.result) seen left left last _ _ _ three
    (statement_makes g.S.Store second_sql left last (λ s was. was.1.running) (ended t) (is_ok c.write_inside-2.result) _ _ c.write_inside-2.ensures) (λ s it. it) in
    record { same_reference = all.same_reference; survives = all.survives; kept = all.kept; running = all.running; found_open = all.found_open; done = λ is clean was. all.done is clean (begun t _ was) }

pub returns-clause-keeps : goal.returns-clause-keeps
returns-clause-keeps g c = makes_any g.S.Store _ _ _ _ _ (returns-clause-moves g c new_tables)
