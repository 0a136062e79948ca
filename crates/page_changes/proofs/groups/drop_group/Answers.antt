use Rattle.std.proofs.Common.{sym, ◌∙◌, refl, inr}
use Rattle.std.proofs.lemmas.Result.{IfOk-from_err, err_from_is_err_and}
use Rattle.sqlite_pool.specs.StoredLaws.{Keeps-trans, Keeps-refl}
use Rattle.page_files.proofs.Steps.{begins}
use Rattle.page_places.proofs.Failing.{store_fails_later}
use Rattle.page_changes.specs.Causes.{CanDropGroup}
use Rattle.page_changes.specs.Changes.{without_members}
use Rattle.page_changes.proofs.Editing.{none_left}
use Rattle.page_changes.proofs.Failing.{fails_with_more}
use Rattle.page_changes.proofs.Seeking.{group_found}
use Rattle.page_changes.proofs.Results.{at_err, if_err, when_ok}
use Rattle.std.proofs.lemmas.Bool.{both_ways}
use Rattle.page_changes.proofs.groups.drop_group.Goals as goal

pub returns-clause-done : goal.returns-clause-done
returns-clause-done g c clean wanted known db t rests holds listed are =
    let name = c.args.name.now in
    let after = c.erase_group.ensures.leaves.keeps.stays.clean clean in
    let (next, gone, has) = c.in_ok-erase_members.ensures.done after wanted known db db t (begins c.args.file.now rests) holds are tt in
    when_ok c.erase_group.result _ (λ it. it) (c.erase_group.ensures.done clean wanted known db next (without_members name t) gone has are (none_left t name))

pub returns-in_err-erase_members-clause-failed : goal.returns-in_err-erase_members-clause-failed
returns-in_err-erase_members-clause-failed g c =
    let p = err_from_is_err_and c.from_residual.result c.from_residual.ensures.1 in
    rw (p.1, p.2) (λ clean wanted known db t rests holds listed are.
    fails_with_more c.args.file.now c.erase_members.new.file {Q = CanDropGroup c.args.name.now t} _ (λ _. tt)
    (c.in_err-erase_members.ensures.done clean wanted known db db t (begins c.args.file.now rests) holds are tt))

pub returns-clause-failed : goal.returns-clause-failed
returns-clause-failed g c =
    if_err c.erase_group.result _ (λ e is clean wanted known db t rests holds listed are.
    let name = c.args.name.now in
    let after = c.erase_group.ensures.leaves.keeps.stays.clean clean in
    let grouped = sym (c.has_group.ensures.told t listed) ∙ c.if-not-has_group.false in
    let (next, gone, has) = c.in_ok-erase_members.ensures.done after wanted known db db t (begins c.args.file.now rests) holds are tt in
    let done = c.erase_group.ensures.done clean wanted known db next (without_members name t) gone has are (none_left t name) in
    store_fails_later c.args.file.now c.erase_members.new.file c.erase_group.new.file e c.erase_members.ensures.leaves.keeps
    (λ (can : CanDropGroup name t). group_found (without_members name t) next has name grouped can.narrow) (at_err c.erase_group.result _ _ e is done))

pub returns-clause-leaves : goal.returns-clause-leaves
returns-clause-leaves g c = record { usable = c.erase_group.ensures.leaves.usable; keeps = Keeps-trans _ _ _ c.erase_members.ensures.leaves.keeps c.erase_group.ensures.leaves.keeps }

pub returns-then-not-has_group-clause-done : goal.returns-then-not-has_group-clause-done
returns-then-not-has_group-clause-done g c = λ clean wanted known db t rests holds listed are. tt

pub returns-then-not-has_group-clause-leaves : goal.returns-then-not-has_group-clause-leaves
returns-then-not-has_group-clause-leaves g c = record { usable = tt; keeps = Keeps-refl _ }

pub returns-in_err-erase_members-clause-done : goal.returns-in_err-erase_members-clause-done
returns-in_err-erase_members-clause-done g c = λ clean wanted known db t rests holds listed are. IfOk-from_err c.from_residual.result _ c.from_residual.ensures.0

pub returns-in_err-erase_members-clause-leaves : goal.returns-in_err-erase_members-clause-leaves
returns-in_err-erase_members-clause-leaves g c = record { usable = IfOk-from_err c.from_residual.result _ c.from_residual.ensures.0; keeps = c.erase_members.ensures.leaves.keeps }

pub returns-then-not-has_group-clause-failed : goal.returns-then-not-has_group-clause-failed
returns-then-not-has_group-clause-failed g c = λ clean wanted known db t rests holds listed are.
    let missing = sym (c.has_group.ensures.told t listed) ∙ c.if-not-has_group.true in
    inr (refl, λ (can : CanDropGroup c.args.name.now t). both_ways _ missing can.grouped)
