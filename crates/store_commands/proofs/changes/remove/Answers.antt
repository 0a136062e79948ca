use Rattle.std.specs.Bool.{⊤}
use Rattle.std.proofs.Common.{◌≡◌, true, false, sym, ap, ◌∙◌}
use Rattle.run_stores.proofs.Calls.{asked_stands, changed_asked, shut_answered, shut_asked}
use Rattle.plain_tables.specs.Changes as tables
use Rattle.plain_tables.specs.Changes.{without_run}
use Rattle.histories.specs.History.{Remove}
use Rattle.histories.specs.Legal.{has_run}
use Rattle.histories.specs.declared.answers.Answer.TheVariants.{Refused}
use Rattle.histories.specs.declared.answers.Refusal.TheVariants.{NoSuchRun}
use Rattle.histories.proofs.Steps.{tell_removed}
use Rattle.histories.proofs.Tells.{tells_run}
use Rattle.histories.specs.Representation.{TablesRepresent}
use Rattle.histories.specs.Answered.{Follows}
use Rattle.histories.specs.Refusals.{missing_of}
use Rattle.histories.proofs.After.{steps_after_it, done_after}
use Rattle.histories.proofs.ExpectedLeft.{was_still}
use Rattle.histories.proofs.Settled.{steps_err}
use Rattle.store_commands.proofs.Expectations.{changed_in, done_in, refused_in, remove_expected, expected_if_run, stays_in}
use Rattle.std.proofs.lemmas.Result.{IfOk-from_err}
use Rattle.store_commands.proofs.changes.remove.Goals as goal

pub returns-in_err-has_run-clause-steps : goal.returns-in_err-has_run-clause-steps
returns-in_err-has_run-clause-steps g c limits clean =
    steps_err g.S.StoreState limits (Remove c.args.number) c.from_residual.result _ _ c.from_residual.ensures.0 (changed_asked g.S.StoreState TablesRepresent (Follows limits (Remove c.args.number)) false _ _ (c.in_err-has_run.ensures.asks clean))

pub returns-then-not-branch-clause-answered : goal.returns-then-not-branch-clause-answered
returns-then-not-branch-clause-answered g c clean limits h s =
    let is : has_run h c.args.number ≡ false = sym (tells_run h s.t s.agrees c.args.number) ∙ sym (c.in_ok-has_run.ensures.told clean s.t (g.S.StoreState.said s.t _ s.represents)) ∙ c.if-not-branch.true in
    was_still limits h (Remove c.args.number) tt g.S.StoreState c.args.store.now c.has_run.new.self (Refused NoSuchRun) tt (remove_expected limits h c.args.number false is) s (asked_stands g.S.StoreState s.t _ _ (c.in_ok-has_run.ensures.asks clean) s.represents)

pub returns-then-not-branch-clause-steps : goal.returns-then-not-branch-clause-steps
returns-then-not-branch-clause-steps g c limits clean = changed_asked g.S.StoreState TablesRepresent (Follows limits (Remove c.args.number)) true _ _ (c.in_ok-has_run.ensures.asks clean)

pub returns-in_err-drop_run-clause-steps : goal.returns-in_err-drop_run-clause-steps
returns-in_err-drop_run-clause-steps g c limits clean =
    let n = c.args.number in
    let two = c.in_err-drop_run.ensures.changes clean in
    let early = two.stays.was_faithful in
    steps_err g.S.StoreState limits (Remove n) c.from_residual-in_err-drop_run.result _ _ c.from_residual-in_err-drop_run.ensures.0
    (steps_after_it limits (Remove n) tt (λ t. tables.has_run t n ≡ true) (without_run n) (λ h t. expected_if_run limits h n t) (λ h t. tell_removed limits h n t) g.S.StoreState c.args.store.now c.has_run.new.self c.drop_run.new.self
    (c.in_ok-has_run.ensures.asks early) (λ t was. sym (c.in_ok-has_run.ensures.told early t was) ∙ c.if-not-branch.false) false false two)

pub returns-clause-answered : goal.returns-clause-answered
returns-clause-answered g c clean limits h s =
    let n = c.args.number in
    let two = c.in_ok-drop_run.ensures.changes clean in
    let early = two.stays.was_faithful in
    done_after limits (Remove n) tt (λ t. tables.has_run t n ≡ true) (without_run n) (λ h t. expected_if_run limits h n t) (λ h t. tell_removed limits h n t) g.S.StoreState c.args.store.now c.has_run.new.self c.drop_run.new.self
    (c.in_ok-has_run.ensures.asks early) (λ t was. sym (c.in_ok-has_run.ensures.told early t was) ∙ c.if-not-branch.false) h s true two

pub returns-clause-steps : goal.returns-clause-steps
returns-clause-steps g c limits clean =
    let n = c.args.number in
    let two = c.in_ok-drop_run.ensures.changes clean in
    let early = two.stays.was_faithful in
    steps_after_it limits (Remove n) tt (λ t. tables.has_run t n ≡ true) (without_run n) (λ h t. expected_if_run limits h n t) (λ h t. tell_removed limits h n t) g.S.StoreState c.args.store.now c.has_run.new.self c.drop_run.new.self
    (c.in_ok-has_run.ensures.asks early) (λ t was. sym (c.in_ok-has_run.ensures.told early t was) ∙ c.if-not-branch.false) true true two

pub returns-then-not-branch-clause-made : goal.returns-then-not-branch-clause-made
returns-then-not-branch-clause-made g c clean t represents =
    let is : tables.has_run t c.args.number ≡ false = sym (c.in_ok-has_run.ensures.told clean t (g.S.StoreState.said t _ represents)) ∙ c.if-not-branch.true in
    stays_in g.S.StoreState t c.args.store.now c.has_run.new.self c.has_run.new.self (c.in_ok-has_run.ensures.asks clean) represents NoSuchRun (missing_of true (tables.has_run t c.args.number)) (without_run c.args.number) (ap (missing_of true) is)

pub returns-clause-made : goal.returns-clause-made
returns-clause-made g c clean t represents =
    let n = c.args.number in
    let two = c.in_ok-drop_run.ensures.changes clean in
    let early = two.stays.was_faithful in
    let is : tables.has_run t n ≡ true = sym (c.in_ok-has_run.ensures.told early t (g.S.StoreState.said t _ represents)) ∙ c.if-not-branch.false in
    done_in g.S.StoreState t c.args.store.now c.has_run.new.self c.drop_run.new.self (c.in_ok-has_run.ensures.asks early) represents (λ t. tables.has_run t n ≡ true) (missing_of true (tables.has_run t n)) (without_run n) is
    (ap (missing_of true) is) two

pub returns-in_err-has_run-clause-shut : goal.returns-in_err-has_run-clause-shut
returns-in_err-has_run-clause-shut g c clean = shut_asked g.S.StoreState false _ _ (c.in_err-has_run.ensures.asks clean)

pub returns-then-not-branch-clause-shut : goal.returns-then-not-branch-clause-shut
returns-then-not-branch-clause-shut g c clean = shut_asked g.S.StoreState true _ _ (c.in_ok-has_run.ensures.asks clean)

pub returns-in_err-drop_run-clause-shut : goal.returns-in_err-drop_run-clause-shut
returns-in_err-drop_run-clause-shut g c clean = shut_answered g.S.StoreState _ _ c.drop_run.new.self (c.in_ok-has_run.ensures.asks (c.in_err-drop_run.ensures.changes clean).stays.was_faithful)

pub returns-clause-shut : goal.returns-clause-shut
returns-clause-shut g c clean = shut_answered g.S.StoreState _ _ c.drop_run.new.self (c.in_ok-has_run.ensures.asks (c.in_ok-drop_run.ensures.changes clean).stays.was_faithful)

pub returns-then-not-branch-clause-told : goal.returns-then-not-branch-clause-told
returns-then-not-branch-clause-told g c clean t was =
    refused_in (λ _. ⊤) t (missing_of true (tables.has_run t c.args.number)) (without_run c.args.number) NoSuchRun (ap (missing_of true) (sym (c.in_ok-has_run.ensures.told clean t was) ∙ c.if-not-branch.true)) tt

pub returns-clause-told : goal.returns-clause-told
returns-clause-told g c clean t was =
    changed_in (λ _. ⊤) t (missing_of true (tables.has_run t c.args.number)) (without_run c.args.number)
    (ap (missing_of true) (sym (c.in_ok-has_run.ensures.told (c.in_ok-drop_run.ensures.changes clean).stays.was_faithful t was) ∙ c.if-not-branch.false)) tt

pub returns-in_err-has_run-clause-answered : goal.returns-in_err-has_run-clause-answered
returns-in_err-has_run-clause-answered g c = λ clean limits h s. IfOk-from_err c.from_residual.result _ c.from_residual.ensures.0

pub returns-in_err-has_run-clause-told : goal.returns-in_err-has_run-clause-told
returns-in_err-has_run-clause-told g c = λ clean t was. IfOk-from_err c.from_residual.result _ c.from_residual.ensures.0

pub returns-in_err-has_run-clause-made : goal.returns-in_err-has_run-clause-made
returns-in_err-has_run-clause-made g c = λ clean t was. IfOk-from_err c.from_residual.result _ c.from_residual.ensures.0

pub returns-in_err-drop_run-clause-answered : goal.returns-in_err-drop_run-clause-answered
returns-in_err-drop_run-clause-answered g c = λ clean limits h s. IfOk-from_err c.from_residual-in_err-drop_run.result _ c.from_residual-in_err-drop_run.ensures.0

pub returns-in_err-drop_run-clause-told : goal.returns-in_err-drop_run-clause-told
returns-in_err-drop_run-clause-told g c = λ clean t was. IfOk-from_err c.from_residual-in_err-drop_run.result _ c.from_residual-in_err-drop_run.ensures.0

pub returns-in_err-drop_run-clause-made : goal.returns-in_err-drop_run-clause-made
returns-in_err-drop_run-clause-made g c = λ clean t was. IfOk-from_err c.from_residual-in_err-drop_run.result _ c.from_residual-in_err-drop_run.ensures.0
