use Rattle.std.proofs.Common.{true, false, sym, ap, ap₂, ◌∙◌}
use Rattle.std.proofs.lemmas.Result.{IfOk-from_err}
use Rattle.run_stores.proofs.Calls.{asked_err, asked_reads, asked_then}
use Rattle.histories.specs.Refusals.{missing_of}
use Rattle.plain_tables.specs.Changes.{has_run}
use Rattle.store_commands.proofs.changes.missing.Goals as goal

pub returns-in_err-has_group-clause-told : goal.returns-in_err-has_group-clause-told
returns-in_err-has_group-clause-told g c = λ clean t was. IfOk-from_err c.from_residual.result _ c.from_residual.ensures.0

pub returns-in_err-has_run-clause-told : goal.returns-in_err-has_run-clause-told
returns-in_err-has_run-clause-told g c = λ clean t was. IfOk-from_err c.from_residual-in_err-has_run.result _ c.from_residual-in_err-has_run.ensures.0

pub returns-in_err-has_group-clause-asks : goal.returns-in_err-has_group-clause-asks
returns-in_err-has_group-clause-asks g c = λ clean.
    let last = c.in_err-has_group.ensures.asks clean in
    asked_err g.S.StoreState c.from_residual.result _ _ c.from_residual.ensures.0 last

pub returns-in_err-has_run-clause-asks : goal.returns-in_err-has_run-clause-asks
returns-in_err-has_run-clause-asks g c = λ clean.
    let last = c.in_err-has_run.ensures.asks clean in
    let before = c.in_ok-has_group.ensures.asks last.stays.was_faithful in
    asked_err g.S.StoreState c.from_residual-in_err-has_run.result _ _ c.from_residual-in_err-has_run.ensures.0 (asked_then g.S.StoreState false _ _ _ before last)

pub returns-then-not-branch-clause-asks : goal.returns-then-not-branch-clause-asks
returns-then-not-branch-clause-asks g c = c.in_ok-has_group.ensures.asks

pub returns-then-not-branch-2-clause-asks : goal.returns-then-not-branch-2-clause-asks
returns-then-not-branch-2-clause-asks g c = λ clean.
    let last = c.in_ok-has_run.ensures.asks clean in
    let before = c.in_ok-has_group.ensures.asks last.stays.was_faithful in
    asked_then g.S.StoreState true _ _ _ before last

pub returns-clause-asks : goal.returns-clause-asks
returns-clause-asks g c = λ clean.
    let last = c.in_ok-has_run.ensures.asks clean in
    let before = c.in_ok-has_group.ensures.asks last.stays.was_faithful in
    asked_then g.S.StoreState true _ _ _ before last

pub returns-then-not-branch-clause-told : goal.returns-then-not-branch-clause-told
returns-then-not-branch-clause-told g c = λ clean t was.
    sym (ap (λ held. missing_of held (has_run t c.args.number)) (sym (c.in_ok-has_group.ensures.told clean t was) ∙ c.if-not-branch.true))

pub returns-then-not-branch-2-clause-told : goal.returns-then-not-branch-2-clause-told
returns-then-not-branch-2-clause-told g c = λ clean t was.
    let early = (c.in_ok-has_run.ensures.asks clean).stays.was_faithful in
    let there = asked_reads g.S.StoreState t _ _ (c.in_ok-has_group.ensures.asks early) was in
    sym (ap₂ missing_of (sym (c.in_ok-has_group.ensures.told early t was) ∙ c.if-not-branch.false) (sym (c.in_ok-has_run.ensures.told clean t there) ∙ c.if-not-branch-2.true))

pub returns-clause-told : goal.returns-clause-told
returns-clause-told g c = λ clean t was.
    let early = (c.in_ok-has_run.ensures.asks clean).stays.was_faithful in
    let there = asked_reads g.S.StoreState t _ _ (c.in_ok-has_group.ensures.asks early) was in
    sym (ap₂ missing_of (sym (c.in_ok-has_group.ensures.told early t was) ∙ c.if-not-branch.false) (sym (c.in_ok-has_run.ensures.told clean t there) ∙ c.if-not-branch-2.false))
