use Rattle.std.proofs.Common.{true, false, rules, nat_le, length, sym, ap, ap₂, ◌∙◌}
use Rattle.std.proofs.lemmas.Result.{IfOk-from_err}
use Rattle.run_stores.proofs.Calls.{asked_err, asked_reads, asked_then}
use Rattle.histories.proofs.ExpectedLeft.{has_none, has_room}
use Rattle.store_commands.specs.Changes.{unmade_for}
use Rattle.store_commands.proofs.changes.unmade.Goals as goal

pub returns-in_err-has_group-clause-told : goal.returns-in_err-has_group-clause-told
returns-in_err-has_group-clause-told g c = λ clean t was. IfOk-from_err c.from_residual.result _ c.from_residual.ensures.0

pub returns-in_err-group_count-clause-told : goal.returns-in_err-group_count-clause-told
returns-in_err-group_count-clause-told g c = λ clean t was. IfOk-from_err c.from_residual-in_err-group_count.result _ c.from_residual-in_err-group_count.ensures.0

pub returns-in_err-has_group-clause-asks : goal.returns-in_err-has_group-clause-asks
returns-in_err-has_group-clause-asks g c = λ clean.
    let last = c.in_err-has_group.ensures.asks clean in
    asked_err g.S.StoreState c.from_residual.result _ _ c.from_residual.ensures.0 last

pub returns-in_err-group_count-clause-asks : goal.returns-in_err-group_count-clause-asks
returns-in_err-group_count-clause-asks g c = λ clean.
    let last = c.in_err-group_count.ensures.asks clean in
    let before = c.in_ok-has_group.ensures.asks last.stays.was_faithful in
    asked_err g.S.StoreState c.from_residual-in_err-group_count.result _ _ c.from_residual-in_err-group_count.ensures.0 (asked_then g.S.StoreState false _ _ _ before last)

pub returns-then-branch-clause-asks : goal.returns-then-branch-clause-asks
returns-then-branch-clause-asks g c = c.in_ok-has_group.ensures.asks

pub returns-then-branch-from-clause-asks : goal.returns-then-branch-from-clause-asks
returns-then-branch-from-clause-asks g c = λ clean.
    let last = c.in_ok-group_count.ensures.asks clean in
    let before = c.in_ok-has_group.ensures.asks last.stays.was_faithful in
    asked_then g.S.StoreState true _ _ _ before last

pub returns-clause-asks : goal.returns-clause-asks
returns-clause-asks g c = λ clean.
    let last = c.in_ok-group_count.ensures.asks clean in
    let before = c.in_ok-has_group.ensures.asks last.stays.was_faithful in
    asked_then g.S.StoreState true _ _ _ before last

pub returns-then-branch-clause-told : goal.returns-then-branch-clause-told
returns-then-branch-clause-told g c = λ clean t was.
    sym (ap (λ taken. unmade_for taken (nat_le c.args.limits.groups (length t.groups))) (sym (c.in_ok-has_group.ensures.told clean t was) ∙ c.if-branch.true))

pub returns-then-branch-from-clause-told : goal.returns-then-branch-from-clause-told
returns-then-branch-from-clause-told g c = λ clean t was.
    let early = (c.in_ok-group_count.ensures.asks clean).stays.was_faithful in
    let there = asked_reads g.S.StoreState t _ _ (c.in_ok-has_group.ensures.asks early) was in
    sym (ap₂ unmade_for (sym (c.in_ok-has_group.ensures.told early t was) ∙ c.if-branch.false)
    (has_none c.args.limits.groups c.in_ok-group_count.field-0 (length t.groups) (c.in_ok-group_count.ensures.told clean t there) (search (rules, c.if-branch-from.true))))

pub returns-clause-told : goal.returns-clause-told
returns-clause-told g c = λ clean t was.
    let early = (c.in_ok-group_count.ensures.asks clean).stays.was_faithful in
    let there = asked_reads g.S.StoreState t _ _ (c.in_ok-has_group.ensures.asks early) was in
    sym (ap₂ unmade_for (sym (c.in_ok-has_group.ensures.told early t was) ∙ c.if-branch.false)
    (has_room c.args.limits.groups c.in_ok-group_count.field-0 (length t.groups) (c.in_ok-group_count.ensures.told clean t there) (search (rules, c.if-branch-from.false))))
