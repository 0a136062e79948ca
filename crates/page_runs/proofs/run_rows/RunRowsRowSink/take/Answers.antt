use Rattle.std.proofs.lemmas.Result.{IfOk-from_err, err_from_is_err_and}
use Rattle.page_runs.proofs.run_rows.RunRowsRowSink.take.Goals as goal

pub returns-in_err-run-clause-more : goal.returns-in_err-run-clause-more
returns-in_err-run-clause-more g c = rw (err_from_is_err_and c.from_residual.result c.from_residual.ensures.1).1 (λ is start rows has. absurd (cc is))

pub returns-in_err-run-clause-last : goal.returns-in_err-run-clause-last
returns-in_err-run-clause-last g c = rw (err_from_is_err_and c.from_residual.result c.from_residual.ensures.1).1 (λ is start rows has. absurd (cc is))

pub returns-in_err-run-clause-refuses : goal.returns-in_err-run-clause-refuses
returns-in_err-run-clause-refuses g c = IfOk-from_err c.from_residual.result _ c.from_residual.ensures.0

pub returns-in_err-added-clause-more : goal.returns-in_err-added-clause-more
returns-in_err-added-clause-more g c = rw (err_from_is_err_and c.from_residual-in_err-added.result c.from_residual-in_err-added.ensures.1).1 (λ is start rows has. absurd (cc is))

pub returns-in_err-added-clause-last : goal.returns-in_err-added-clause-last
returns-in_err-added-clause-last g c = rw (err_from_is_err_and c.from_residual-in_err-added.result c.from_residual-in_err-added.ensures.1).1 (λ is start rows has. absurd (cc is))

pub returns-in_err-added-clause-refuses : goal.returns-in_err-added-clause-refuses
returns-in_err-added-clause-refuses g c = IfOk-from_err c.from_residual-in_err-added.result _ c.from_residual-in_err-added.ensures.0

pub returns-in_err-take_off-clause-more : goal.returns-in_err-take_off-clause-more
returns-in_err-take_off-clause-more g c = rw (err_from_is_err_and c.from_residual-in_err-take_off.result c.from_residual-in_err-take_off.ensures.1).1 (λ is start rows has. absurd (cc is))

pub returns-in_err-take_off-clause-last : goal.returns-in_err-take_off-clause-last
returns-in_err-take_off-clause-last g c = rw (err_from_is_err_and c.from_residual-in_err-take_off.result c.from_residual-in_err-take_off.ensures.1).1 (λ is start rows has. absurd (cc is))

pub returns-in_err-take_off-clause-refuses : goal.returns-in_err-take_off-clause-refuses
returns-in_err-take_off-clause-refuses g c = IfOk-from_err c.from_residual-in_err-take_off.result _ c.from_residual-in_err-take_off.ensures.0

pub returns-then-run-self-clause-more : goal.returns-then-run-self-clause-more
returns-then-run-self-clause-more g c = λ is start rows has. absurd (cc is)

pub returns-in_ok-take_off-clause-last : goal.returns-in_ok-take_off-clause-last
returns-in_ok-take_off-clause-last g c = λ is start rows has. absurd (cc is)

pub returns-else-run-self-2-clause-last : goal.returns-else-run-self-2-clause-last
returns-else-run-self-2-clause-last g c = λ is start rows has. absurd (cc is)
