use Rattle.std.proofs.Common.{true, false, subst}
use Rattle.run_stores.proofs.Calls.{changed_asked, shut_asked}
use Rattle.histories.specs.Formats.{today}
use Rattle.histories.specs.History.{Import}
use Rattle.histories.specs.Representation.{TablesRepresent}
use Rattle.histories.specs.Answered.{Follows}
use Rattle.histories.proofs.Settled.{steps_err}
use Rattle.std.proofs.lemmas.Result.{IfOk-from_err}
use Rattle.store_commands.specs.FromTables.{IsAdmitted}
use Rattle.store_commands.proofs.Imported.{known_answered, known_made, known_shut, known_steps, known_told, run_answered, run_made_in, run_shut, run_steps, run_told_in}
use Rattle.store_commands.proofs.taking.import_parsed.Goals as goal

pub returns-in_err-number-clause-answered : goal.returns-in_err-number-clause-answered
returns-in_err-number-clause-answered g c =
    λ clean h outcomes s ended is. IfOk-from_err c.from_residual.result _ c.from_residual.ensures.0

pub returns-in_err-number-clause-told : goal.returns-in_err-number-clause-told
returns-in_err-number-clause-told g c =
    λ clean t was. IfOk-from_err c.from_residual.result _ c.from_residual.ensures.0

pub returns-in_err-number-clause-made : goal.returns-in_err-number-clause-made
returns-in_err-number-clause-made g c =
    λ clean t was. IfOk-from_err c.from_residual.result _ c.from_residual.ensures.0

pub returns-in_err-number-clause-steps : goal.returns-in_err-number-clause-steps
returns-in_err-number-clause-steps g c outcomes ended is clean =
    let command = Import (today c.args.kind) c.args.label.now outcomes in
    steps_err g.S.StoreState c.args.limits command c.from_residual.result _ _ c.from_residual.ensures.0 (changed_asked g.S.StoreState TablesRepresent (Follows c.args.limits command) false _ _ (c.in_err-number.ensures.asks clean))

pub returns-in_err-number-clause-shut : goal.returns-in_err-number-clause-shut
returns-in_err-number-clause-shut g c clean =
    shut_asked g.S.StoreState false _ _ (c.in_err-number.ensures.asks clean)

pub returns-in-Err-clause-answered : goal.returns-in-Err-clause-answered
returns-in-Err-clause-answered g c clean h outcomes s ended is =
    known_answered g.S.StoreState c.args.limits c.args.kind c.args.label.now c.args.parsed.now c.in-Err.answer c.args.store.now c.admitted.new.store c.in_ok-number.ensures.asks
    (λ clean t reads. subst (IsAdmitted c.args.limits c.args.parsed.now t) c.in-Err.is (c.in_ok-number.ensures.told clean t reads)) outcomes (c.utf8.label, c.requires) ended is clean h s

pub returns-in-Err-clause-told : goal.returns-in-Err-clause-told
returns-in-Err-clause-told g c =
    known_told g.S.StoreState c.args.limits c.args.kind c.args.label.now c.args.parsed.now c.in-Err.answer c.args.store.now c.admitted.new.store c.in_ok-number.ensures.asks
    (λ clean t reads. subst (IsAdmitted c.args.limits c.args.parsed.now t) c.in-Err.is (c.in_ok-number.ensures.told clean t reads))

pub returns-in-Err-clause-made : goal.returns-in-Err-clause-made
returns-in-Err-clause-made g c =
    known_made g.S.StoreState c.args.limits c.args.kind c.args.label.now c.args.parsed.now c.in-Err.answer c.args.store.now c.admitted.new.store c.in_ok-number.ensures.asks
    (λ clean t reads. subst (IsAdmitted c.args.limits c.args.parsed.now t) c.in-Err.is (c.in_ok-number.ensures.told clean t reads))

pub returns-in-Err-clause-steps : goal.returns-in-Err-clause-steps
returns-in-Err-clause-steps g c outcomes ended is =
    known_steps g.S.StoreState c.args.limits c.args.kind c.args.label.now c.args.parsed.now c.in-Err.answer c.args.store.now c.admitted.new.store c.in_ok-number.ensures.asks
    (λ clean t reads. subst (IsAdmitted c.args.limits c.args.parsed.now t) c.in-Err.is (c.in_ok-number.ensures.told clean t reads)) outcomes

pub returns-in-Err-clause-shut : goal.returns-in-Err-clause-shut
returns-in-Err-clause-shut g c =
    known_shut g.S.StoreState c.args.limits c.args.kind c.args.label.now c.args.parsed.now c.in-Err.answer c.args.store.now c.admitted.new.store c.in_ok-number.ensures.asks
    (λ clean t reads. subst (IsAdmitted c.args.limits c.args.parsed.now t) c.in-Err.is (c.in_ok-number.ensures.told clean t reads))

pub returns-in_ok-put-in-Ok-clause-answered : goal.returns-in_ok-put-in-Ok-clause-answered
returns-in_ok-put-in-Ok-clause-answered g c clean h outcomes s ended is =
    run_answered g.S.StoreState c.args.limits c.args.kind c.args.label.now c.args.parsed.now c.in-Ok.number c.in-Ok.file c.args.store.now c.admitted.new.store c.put_run-put.new.self c.in_ok-number.ensures.asks
    (λ clean t reads. subst (IsAdmitted c.args.limits c.args.parsed.now t) c.in-Ok.is (c.in_ok-number.ensures.told clean t reads)) outcomes (c.utf8.label, c.requires) ended is true c.in_ok-put-in-Ok.ensures.changes clean h s

pub returns-in_ok-put-in-Ok-clause-told : goal.returns-in_ok-put-in-Ok-clause-told
returns-in_ok-put-in-Ok-clause-told g c =
    run_told_in g.S.StoreState c.args.limits c.args.kind c.args.label.now c.args.parsed.now c.in-Ok.number c.in-Ok.file c.args.store.now c.admitted.new.store c.put_run-put.new.self c.in_ok-number.ensures.asks
    (λ clean t reads. subst (IsAdmitted c.args.limits c.args.parsed.now t) c.in-Ok.is (c.in_ok-number.ensures.told clean t reads)) true true c.in_ok-put-in-Ok.ensures.changes

pub returns-in_ok-put-in-Ok-clause-made : goal.returns-in_ok-put-in-Ok-clause-made
returns-in_ok-put-in-Ok-clause-made g c =
    run_made_in g.S.StoreState c.args.limits c.args.kind c.args.label.now c.args.parsed.now c.in-Ok.number c.in-Ok.file c.args.store.now c.admitted.new.store c.put_run-put.new.self c.in_ok-number.ensures.asks
    (λ clean t reads. subst (IsAdmitted c.args.limits c.args.parsed.now t) c.in-Ok.is (c.in_ok-number.ensures.told clean t reads)) true c.in_ok-put-in-Ok.ensures.changes

pub returns-in_ok-put-in-Ok-clause-steps : goal.returns-in_ok-put-in-Ok-clause-steps
returns-in_ok-put-in-Ok-clause-steps g c outcomes ended is =
    run_steps g.S.StoreState c.args.limits c.args.kind c.args.label.now c.args.parsed.now c.in-Ok.number c.in-Ok.file c.args.store.now c.admitted.new.store c.put_run-put.new.self c.in_ok-number.ensures.asks
    (λ clean t reads. subst (IsAdmitted c.args.limits c.args.parsed.now t) c.in-Ok.is (c.in_ok-number.ensures.told clean t reads)) outcomes (c.utf8.label, c.requires) ended is true true c.in_ok-put-in-Ok.ensures.changes

pub returns-in_ok-put-in-Ok-clause-shut : goal.returns-in_ok-put-in-Ok-clause-shut
returns-in_ok-put-in-Ok-clause-shut g c =
    run_shut g.S.StoreState c.args.limits c.args.kind c.args.label.now c.args.parsed.now c.in-Ok.number c.in-Ok.file c.args.store.now c.admitted.new.store c.put_run-put.new.self c.in_ok-number.ensures.asks
    (λ clean t reads. subst (IsAdmitted c.args.limits c.args.parsed.now t) c.in-Ok.is (c.in_ok-number.ensures.told clean t reads)) true true c.in_ok-put-in-Ok.ensures.changes

pub returns-in_err-put-in-Ok-clause-answered : goal.returns-in_err-put-in-Ok-clause-answered
returns-in_err-put-in-Ok-clause-answered g c =
    λ clean h outcomes s ended is. IfOk-from_err c.from_residual-in_err-put-in-Ok.result _ c.from_residual-in_err-put-in-Ok.ensures.0

pub returns-in_err-put-in-Ok-clause-told : goal.returns-in_err-put-in-Ok-clause-told
returns-in_err-put-in-Ok-clause-told g c =
    λ clean t was. IfOk-from_err c.from_residual-in_err-put-in-Ok.result _ c.from_residual-in_err-put-in-Ok.ensures.0

pub returns-in_err-put-in-Ok-clause-made : goal.returns-in_err-put-in-Ok-clause-made
returns-in_err-put-in-Ok-clause-made g c =
    λ clean t was. IfOk-from_err c.from_residual-in_err-put-in-Ok.result _ c.from_residual-in_err-put-in-Ok.ensures.0

pub returns-in_err-put-in-Ok-clause-steps : goal.returns-in_err-put-in-Ok-clause-steps
returns-in_err-put-in-Ok-clause-steps g c outcomes ended is clean =
    steps_err g.S.StoreState c.args.limits (Import (today c.args.kind) c.args.label.now outcomes) c.from_residual-in_err-put-in-Ok.result _ _ c.from_residual-in_err-put-in-Ok.ensures.0
    (run_steps g.S.StoreState c.args.limits c.args.kind c.args.label.now c.args.parsed.now c.in-Ok.number c.in-Ok.file c.args.store.now c.admitted.new.store c.put_run-put.new.self c.in_ok-number.ensures.asks
    (λ clean t reads. subst (IsAdmitted c.args.limits c.args.parsed.now t) c.in-Ok.is (c.in_ok-number.ensures.told clean t reads)) outcomes (c.utf8.label, c.requires) ended is false false c.in_err-put-in-Ok.ensures.changes clean)

pub returns-in_err-put-in-Ok-clause-shut : goal.returns-in_err-put-in-Ok-clause-shut
returns-in_err-put-in-Ok-clause-shut g c =
    run_shut g.S.StoreState c.args.limits c.args.kind c.args.label.now c.args.parsed.now c.in-Ok.number c.in-Ok.file c.args.store.now c.admitted.new.store c.put_run-put.new.self c.in_ok-number.ensures.asks
    (λ clean t reads. subst (IsAdmitted c.args.limits c.args.parsed.now t) c.in-Ok.is (c.in_ok-number.ensures.told clean t reads)) false false c.in_err-put-in-Ok.ensures.changes
