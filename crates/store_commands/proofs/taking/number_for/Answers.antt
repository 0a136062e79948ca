use Rattle.std.proofs.Common.{true, false, rules, length, subst}
use Rattle.run_stores.proofs.Calls.{asked_err, asked_reads, asked_then}
use Rattle.cost_rows.specs.Rows.{content_of}
use Rattle.histories.proofs.ExpectedLeft.{has_room, has_none}
use Rattle.store_commands.specs.FromTables.{IsExcess}
use Rattle.store_commands.proofs.Imports.{number_over, number_full, number_spent, number_left}
use Rattle.std.proofs.lemmas.Result.{IfOk-from_err}
use Rattle.store_commands.proofs.taking.number_for.Goals as goal

pub returns-in-Some-clause-told : goal.returns-in-Some-clause-told
returns-in-Some-clause-told g c clean t represents =
    let file = c.args.file.now in
    number_over c.args.limits file.head.now (content_of file.rows.now) t c.in-Some.excess
    (subst (IsExcess file.head.now (content_of file.rows.now) t) c.in-Some.is (c.in_ok-excess.ensures.told clean t represents))

pub returns-then-branch-from-clause-told : goal.returns-then-branch-from-clause-told
returns-then-branch-from-clause-told g c clean t represents =
    let file = c.args.file.now in
    let first = (c.run_count.ensures.asks clean).stays.was_faithful in
    let once = asked_reads g.S.StoreState t _ _ (c.in_ok-excess.ensures.asks first) represents in
    let fits = subst (IsExcess file.head.now (content_of file.rows.now) t) c.in_default.is (c.in_ok-excess.ensures.told first t represents) in
    number_full c.args.limits file.head.now (content_of file.rows.now) t fits
    (has_none c.args.limits.runs c.in_ok-run_count.field-0 (length t.runs) (c.in_ok-run_count.ensures.told clean t once) (search (rules, c.if-branch-from.true)))

pub returns-then-number-limits-clause-told : goal.returns-then-number-limits-clause-told
returns-then-number-limits-clause-told g c clean t represents =
    let file = c.args.file.now in
    let second = (c.in_ok-number.ensures.asks clean).stays.was_faithful in
    let first = (c.run_count.ensures.asks second).stays.was_faithful in
    let once = asked_reads g.S.StoreState t _ _ (c.in_ok-excess.ensures.asks first) represents in
    let twice = asked_reads g.S.StoreState t _ _ (c.in_ok-run_count.ensures.asks second) once in
    let fits = subst (IsExcess file.head.now (content_of file.rows.now) t) c.in_default.is (c.in_ok-excess.ensures.told first t represents) in
    let few = has_room c.args.limits.runs c.in_ok-run_count.field-0 (length t.runs) (c.in_ok-run_count.ensures.told second t once) (search (rules, c.if-branch-from.false)) in
    number_spent c.args.limits file.head.now (content_of file.rows.now) t fits few
    (has_none c.args.limits.numbers c.in_ok-number.number t.next (c.in_ok-number.ensures.told clean t twice) (search (rules, c.if-number-limits.true)))

pub returns-clause-told : goal.returns-clause-told
returns-clause-told g c clean t represents =
    let file = c.args.file.now in
    let second = (c.in_ok-number.ensures.asks clean).stays.was_faithful in
    let first = (c.run_count.ensures.asks second).stays.was_faithful in
    let once = asked_reads g.S.StoreState t _ _ (c.in_ok-excess.ensures.asks first) represents in
    let twice = asked_reads g.S.StoreState t _ _ (c.in_ok-run_count.ensures.asks second) once in
    let fits = subst (IsExcess file.head.now (content_of file.rows.now) t) c.in_default.is (c.in_ok-excess.ensures.told first t represents) in
    let few = has_room c.args.limits.runs c.in_ok-run_count.field-0 (length t.runs) (c.in_ok-run_count.ensures.told second t once) (search (rules, c.if-branch-from.false)) in
    let is_next = c.in_ok-number.ensures.told clean t twice in
    number_left c.args.limits file.head.now (content_of file.rows.now) t fits few
    (has_room c.args.limits.numbers c.in_ok-number.number t.next is_next (search (rules, c.if-number-limits.false))) c.in_ok-number.number is_next

pub returns-in_err-excess-clause-told : goal.returns-in_err-excess-clause-told
returns-in_err-excess-clause-told g c = λ clean t was. IfOk-from_err c.from_residual.result _ c.from_residual.ensures.0

pub returns-in_err-run_count-clause-told : goal.returns-in_err-run_count-clause-told
returns-in_err-run_count-clause-told g c = λ clean t was. IfOk-from_err c.from_residual-in_err-run_count.result _ c.from_residual-in_err-run_count.ensures.0

pub returns-in_err-number-clause-told : goal.returns-in_err-number-clause-told
returns-in_err-number-clause-told g c = λ clean t was. IfOk-from_err c.from_residual-in_err-number.result _ c.from_residual-in_err-number.ensures.0

pub returns-in_err-excess-clause-asks : goal.returns-in_err-excess-clause-asks
returns-in_err-excess-clause-asks g c = λ clean.
    let last = c.in_err-excess.ensures.asks clean in
    asked_err g.S.StoreState c.from_residual.result _ _ c.from_residual.ensures.0 last

pub returns-in_err-run_count-clause-asks : goal.returns-in_err-run_count-clause-asks
returns-in_err-run_count-clause-asks g c = λ clean.
    let last = c.in_err-run_count.ensures.asks clean in
    let before = c.in_ok-excess.ensures.asks last.stays.was_faithful in
    asked_err g.S.StoreState c.from_residual-in_err-run_count.result _ _ c.from_residual-in_err-run_count.ensures.0 (asked_then g.S.StoreState false _ _ _ before last)

pub returns-in_err-number-clause-asks : goal.returns-in_err-number-clause-asks
returns-in_err-number-clause-asks g c = λ clean.
    let last = c.in_err-number.ensures.asks clean in
    let before = c.in_ok-run_count.ensures.asks last.stays.was_faithful in
    let before1 = c.in_ok-excess.ensures.asks before.stays.was_faithful in
    asked_err g.S.StoreState c.from_residual-in_err-number.result _ _ c.from_residual-in_err-number.ensures.0 (asked_then g.S.StoreState false _ _ _ before1 (asked_then g.S.StoreState false _ _ _ before last))

pub returns-in-Some-clause-asks : goal.returns-in-Some-clause-asks
returns-in-Some-clause-asks g c = c.in_ok-excess.ensures.asks

pub returns-then-branch-from-clause-asks : goal.returns-then-branch-from-clause-asks
returns-then-branch-from-clause-asks g c = λ clean.
    let last = c.in_ok-run_count.ensures.asks clean in
    let before = c.in_ok-excess.ensures.asks last.stays.was_faithful in
    asked_then g.S.StoreState true _ _ _ before last

pub returns-then-number-limits-clause-asks : goal.returns-then-number-limits-clause-asks
returns-then-number-limits-clause-asks g c = λ clean.
    let last = c.in_ok-number.ensures.asks clean in
    let before = c.in_ok-run_count.ensures.asks last.stays.was_faithful in
    let before1 = c.in_ok-excess.ensures.asks before.stays.was_faithful in
    asked_then g.S.StoreState true _ _ _ before1 (asked_then g.S.StoreState true _ _ _ before last)

pub returns-clause-asks : goal.returns-clause-asks
returns-clause-asks g c = λ clean.
    let last = c.in_ok-number.ensures.asks clean in
    let before = c.in_ok-run_count.ensures.asks last.stays.was_faithful in
    let before1 = c.in_ok-excess.ensures.asks before.stays.was_faithful in
    asked_then g.S.StoreState true _ _ _ before1 (asked_then g.S.StoreState true _ _ _ before last)
