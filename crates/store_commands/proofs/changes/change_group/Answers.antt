use Rattle.std.specs.Bool.{⊤}
use Rattle.std.proofs.Common.{◌≡◌, true, false, None, sym, ap, ◌∙◌, Some}
use Rattle.run_stores.proofs.Calls.{asked_stands, changed_asked, shut_answered, shut_asked}
use Rattle.histories.specs.declared.answers.Answer.TheVariants.{Done, Refused}
use Rattle.histories.specs.Representation.{TablesRepresent}
use Rattle.histories.specs.Answered.{Follows}
use Rattle.histories.specs.Refusals.{refused_or}
use Rattle.histories.proofs.After.{steps_after_it, done_after}
use Rattle.histories.proofs.ExpectedLeft.{was_still}
use Rattle.histories.proofs.Settled.{steps_err}
use Rattle.store_commands.specs.Changes.{changed, command_from_change, refusal_for}
use Rattle.store_commands.proofs.Expectations.{change_form, change_expected, changed_in, done_in, expected_if_free, refused_in, stays_in, tell_changed}
use Rattle.std.proofs.lemmas.Result.{IfOk-from_err}
use Rattle.store_commands.proofs.changes.change_group.Goals as goal

pub returns-in_err-refusal-clause-steps : goal.returns-in_err-refusal-clause-steps
returns-in_err-refusal-clause-steps g c clean =
    let command = command_from_change c.args.change c.args.name.now in
    steps_err g.S.StoreState c.args.limits command c.from_residual.result _ _ c.from_residual.ensures.0 (changed_asked g.S.StoreState TablesRepresent (Follows c.args.limits command) false _ _ (c.in_err-refusal.ensures.asks clean))

pub returns-in-Some-clause-answered : goal.returns-in-Some-clause-answered
returns-in-Some-clause-answered g c clean h s =
    let limits = c.args.limits in
    let name = c.args.name.now in
    let how = c.args.change in
    was_still limits h (command_from_change how name) (change_form how name c.requires) g.S.StoreState c.args.store.now c.refusal_of.new.store (Refused c.in-Some.refusal) tt
    (change_expected limits h how name s.t s.agrees ∙ ap (λ r. Some (refused_or r Done)) (sym (c.in_ok-refusal.ensures.told clean s.t (g.S.StoreState.said s.t _ s.represents)) ∙ c.in-Some.is)) s (asked_stands g.S.StoreState s.t _ _ (c.in_ok-refusal.ensures.asks clean) s.represents)

pub returns-in-Some-clause-steps : goal.returns-in-Some-clause-steps
returns-in-Some-clause-steps g c clean = changed_asked g.S.StoreState TablesRepresent (Follows c.args.limits (command_from_change c.args.change c.args.name.now)) true _ _ (c.in_ok-refusal.ensures.asks clean)

pub returns-in_err-change_free-clause-steps : goal.returns-in_err-change_free-clause-steps
returns-in_err-change_free-clause-steps g c clean =
    let limits = c.args.limits in
    let name = c.args.name.now in
    let how = c.args.change in
    let two = c.in_err-change_free.ensures.changes limits clean in
    let early = two.stays.was_faithful in
    steps_err g.S.StoreState limits (command_from_change how name) c.from_residual-in_err-change_free.result _ _ c.from_residual-in_err-change_free.ensures.0
    (steps_after_it limits (command_from_change how name) (change_form how name c.requires) (λ t. refusal_for limits how name t ≡ None) (changed how name) (λ h t. expected_if_free limits h how name t) (λ h t. tell_changed limits h how name t) g.S.StoreState c.args.store.now c.refusal_of.new.store c.change_free.new.store
    (c.in_ok-refusal.ensures.asks early) (λ t was. sym (c.in_ok-refusal.ensures.told early t was) ∙ c.in_default.is) false false two)

pub returns-clause-answered : goal.returns-clause-answered
returns-clause-answered g c clean h s =
    let limits = c.args.limits in
    let name = c.args.name.now in
    let how = c.args.change in
    let two = c.in_ok-change_free.ensures.changes limits clean in
    let early = two.stays.was_faithful in
    done_after limits (command_from_change how name) (change_form how name c.requires) (λ t. refusal_for limits how name t ≡ None) (changed how name) (λ h t. expected_if_free limits h how name t) (λ h t. tell_changed limits h how name t) g.S.StoreState c.args.store.now c.refusal_of.new.store c.change_free.new.store
    (c.in_ok-refusal.ensures.asks early) (λ t was. sym (c.in_ok-refusal.ensures.told early t was) ∙ c.in_default.is) h s true two

pub returns-clause-steps : goal.returns-clause-steps
returns-clause-steps g c clean =
    let limits = c.args.limits in
    let name = c.args.name.now in
    let how = c.args.change in
    let two = c.in_ok-change_free.ensures.changes limits clean in
    let early = two.stays.was_faithful in
    steps_after_it limits (command_from_change how name) (change_form how name c.requires) (λ t. refusal_for limits how name t ≡ None) (changed how name) (λ h t. expected_if_free limits h how name t) (λ h t. tell_changed limits h how name t) g.S.StoreState c.args.store.now c.refusal_of.new.store c.change_free.new.store
    (c.in_ok-refusal.ensures.asks early) (λ t was. sym (c.in_ok-refusal.ensures.told early t was) ∙ c.in_default.is) true true two

pub returns-in-Some-clause-made : goal.returns-in-Some-clause-made
returns-in-Some-clause-made g c clean t represents =
    let how = c.args.change in
    let name = c.args.name.now in
    stays_in g.S.StoreState t c.args.store.now c.refusal_of.new.store c.refusal_of.new.store (c.in_ok-refusal.ensures.asks clean) represents c.in-Some.refusal (refusal_for c.args.limits how name t) (changed how name)
    (sym (c.in_ok-refusal.ensures.told clean t (g.S.StoreState.said t _ represents)) ∙ c.in-Some.is)

pub returns-clause-made : goal.returns-clause-made
returns-clause-made g c clean t represents =
    let limits = c.args.limits in
    let how = c.args.change in
    let name = c.args.name.now in
    let two = c.in_ok-change_free.ensures.changes limits clean in
    let early = two.stays.was_faithful in
    let is = sym (c.in_ok-refusal.ensures.told early t (g.S.StoreState.said t _ represents)) ∙ c.in_default.is in
    done_in g.S.StoreState t c.args.store.now c.refusal_of.new.store c.change_free.new.store (c.in_ok-refusal.ensures.asks early) represents (λ t. refusal_for limits how name t ≡ None) (refusal_for limits how name t) (changed how name) is is two

pub returns-in_err-refusal-clause-shut : goal.returns-in_err-refusal-clause-shut
returns-in_err-refusal-clause-shut g c clean = shut_asked g.S.StoreState false _ _ (c.in_err-refusal.ensures.asks clean)

pub returns-in-Some-clause-shut : goal.returns-in-Some-clause-shut
returns-in-Some-clause-shut g c clean = shut_asked g.S.StoreState true _ _ (c.in_ok-refusal.ensures.asks clean)

pub returns-in_err-change_free-clause-shut : goal.returns-in_err-change_free-clause-shut
returns-in_err-change_free-clause-shut g c clean = shut_answered g.S.StoreState _ _ c.change_free.new.store (c.in_ok-refusal.ensures.asks (c.in_err-change_free.ensures.changes c.args.limits clean).stays.was_faithful)

pub returns-clause-shut : goal.returns-clause-shut
returns-clause-shut g c clean = shut_answered g.S.StoreState _ _ c.change_free.new.store (c.in_ok-refusal.ensures.asks (c.in_ok-change_free.ensures.changes c.args.limits clean).stays.was_faithful)

pub returns-in-Some-clause-told : goal.returns-in-Some-clause-told
returns-in-Some-clause-told g c clean t was =
    let how = c.args.change in
    let name = c.args.name.now in
    refused_in (λ _. ⊤) t (refusal_for c.args.limits how name t) (changed how name) c.in-Some.refusal (sym (c.in_ok-refusal.ensures.told clean t was) ∙ c.in-Some.is) tt

pub returns-clause-told : goal.returns-clause-told
returns-clause-told g c clean t was =
    let how = c.args.change in
    let name = c.args.name.now in
    let early = (c.in_ok-change_free.ensures.changes c.args.limits clean).stays.was_faithful in
    changed_in (λ _. ⊤) t (refusal_for c.args.limits how name t) (changed how name) (sym (c.in_ok-refusal.ensures.told early t was) ∙ c.in_default.is) tt

pub returns-in_err-refusal-clause-answered : goal.returns-in_err-refusal-clause-answered
returns-in_err-refusal-clause-answered g c = λ clean h s. IfOk-from_err c.from_residual.result _ c.from_residual.ensures.0

pub returns-in_err-refusal-clause-told : goal.returns-in_err-refusal-clause-told
returns-in_err-refusal-clause-told g c = λ clean t was. IfOk-from_err c.from_residual.result _ c.from_residual.ensures.0

pub returns-in_err-refusal-clause-made : goal.returns-in_err-refusal-clause-made
returns-in_err-refusal-clause-made g c = λ clean t was. IfOk-from_err c.from_residual.result _ c.from_residual.ensures.0

pub returns-in_err-change_free-clause-answered : goal.returns-in_err-change_free-clause-answered
returns-in_err-change_free-clause-answered g c = λ clean h s. IfOk-from_err c.from_residual-in_err-change_free.result _ c.from_residual-in_err-change_free.ensures.0

pub returns-in_err-change_free-clause-told : goal.returns-in_err-change_free-clause-told
returns-in_err-change_free-clause-told g c = λ clean t was. IfOk-from_err c.from_residual-in_err-change_free.result _ c.from_residual-in_err-change_free.ensures.0

pub returns-in_err-change_free-clause-made : goal.returns-in_err-change_free-clause-made
returns-in_err-change_free-clause-made g c = λ clean t was. IfOk-from_err c.from_residual-in_err-change_free.result _ c.from_residual-in_err-change_free.ensures.0
