use Rattle.std.proofs.Common.{sym, ◌∙◌, refl, inr}
use Rattle.std.proofs.lemmas.Bool.{both_ways}
use Rattle.page_files.proofs.Steps.{begins}
use Rattle.page_changes.specs.Causes.{CanMake}
use Rattle.page_changes.proofs.Failing.{fails_with_more}
use Rattle.page_changes.proofs.Results.{at_err, if_err, when_ok}
use Rattle.sqlite_pool.specs.StoredLaws.{Keeps-refl}
use Rattle.page_changes.proofs.groups.put_group.Goals as goal

pub returns-clause-done : goal.returns-clause-done
returns-clause-done g c clean wanted known db t rests holds listed are =
    when_ok c.add_group.result _ (λ it. it) (c.add_group.ensures.done clean wanted known db db t (begins c.args.file.now rests) holds are (sym (c.has_group.ensures.told t listed) ∙ c.if-has_group.false))

pub returns-clause-failed : goal.returns-clause-failed
returns-clause-failed g c =
    if_err c.add_group.result _ (λ e is clean wanted known db t rests holds listed are.
    let fresh = sym (c.has_group.ensures.told t listed) ∙ c.if-has_group.false in
    let done = c.add_group.ensures.done clean wanted known db db t (begins c.args.file.now rests) holds are fresh in
    fails_with_more c.args.file.now c.add_group.new.file {Q = CanMake c.args.name.now t db} e (λ can. can.room) (at_err c.add_group.result _ _ e is done))

pub returns-clause-leaves : goal.returns-clause-leaves
returns-clause-leaves g c = c.add_group.ensures.leaves

pub returns-then-has_group-clause-done : goal.returns-then-has_group-clause-done
returns-then-has_group-clause-done g c = λ clean wanted known db t rests holds listed are. tt

pub returns-then-has_group-clause-leaves : goal.returns-then-has_group-clause-leaves
returns-then-has_group-clause-leaves g c = record { usable = tt; keeps = Keeps-refl _ }

pub returns-then-has_group-clause-failed : goal.returns-then-has_group-clause-failed
returns-then-has_group-clause-failed g c = λ clean wanted known db t rests holds listed are.
    inr (refl, λ (can : CanMake c.args.name.now t db). both_ways _ can.fresh (sym (c.has_group.ensures.told t listed) ∙ c.if-has_group.true))
