use Rattle.std.proofs.Common.{refl, sym, subst, inr, ◌∙◌}
use Rattle.std.proofs.lemmas.Bool.{both_ways}
use Rattle.prof_store.specs.Tables.{Holds}
use Rattle.page_files.proofs.Steps.{begins}
use Rattle.page_changes.proofs.Editing.{not_group}
use Rattle.page_changes.specs.Causes.{CanRebase}
use Rattle.page_changes.proofs.Failing.{fails_with_more}
use Rattle.page_changes.proofs.Seeking.{group_found}
use Rattle.page_changes.proofs.Results.{at_err, given_ok, if_err, when_ok}
use Rattle.sqlite_pool.specs.StoredLaws.{Keeps-refl}
use Rattle.page_changes.proofs.groups.set_baseline.Goals as goal

pub returns-then-not-has_group-clause-done : goal.returns-then-not-has_group-clause-done
returns-then-not-has_group-clause-done g c clean wanted known db t rests holds listed are =
    let none = sym (c.has_group.ensures.told t listed) ∙ c.if-not-has_group.true in
    given_ok c.if_usable.result (db, begins c.args.file.now rests, subst (λ u. Holds u db) (sym (not_group t c.args.name.now c.args.run none)) holds)

pub returns-clause-done : goal.returns-clause-done
returns-clause-done g c clean wanted known db t rests holds listed are =
    when_ok c.put_baseline.result _ (λ it. it)
    (c.put_baseline.ensures.done clean wanted known db db t (begins c.args.file.now rests) holds are (sym (c.has_run.ensures.told t listed) ∙ c.if-not-has_run.false))

pub returns-then-not-has_run-clause-failed : goal.returns-then-not-has_run-clause-failed
returns-then-not-has_run-clause-failed g c clean wanted known db t rests holds listed are =
    let grouped = sym (c.has_group.ensures.told t listed) ∙ c.if-not-has_group.false in
    let missing = sym (c.has_run.ensures.told t listed) ∙ c.if-not-has_run.true in
    inr (refl, λ (can : CanRebase c.args.file.now c.args.name.now c.args.run t db). both_ways _ missing (can.held grouped))

pub returns-clause-failed : goal.returns-clause-failed
returns-clause-failed g c =
    if_err c.put_baseline.result _ (λ e is clean wanted known db t rests holds listed are.
    let name = c.args.name.now in
    let run = c.args.run in
    let grouped = sym (c.has_group.ensures.told t listed) ∙ c.if-not-has_group.false in
    let held = sym (c.has_run.ensures.told t listed) ∙ c.if-not-has_run.false in
    let done = c.put_baseline.ensures.done clean wanted known db db t (begins c.args.file.now rests) holds are held in
    fails_with_more c.args.file.now c.put_baseline.new.file {Q = CanRebase c.args.file.now name run t db} e
    (λ can. record { found = group_found t db holds name grouped can.narrow; room = can.room }) (at_err c.put_baseline.result _ _ e is done))

pub returns-clause-leaves : goal.returns-clause-leaves
returns-clause-leaves g c = c.put_baseline.ensures.leaves

pub returns-then-not-has_run-clause-done : goal.returns-then-not-has_run-clause-done
returns-then-not-has_run-clause-done g c = λ clean wanted known db t rests holds listed are. tt

pub returns-then-not-has_run-clause-leaves : goal.returns-then-not-has_run-clause-leaves
returns-then-not-has_run-clause-leaves g c = record { usable = tt; keeps = Keeps-refl _ }

pub returns-then-not-has_group-clause-leaves : goal.returns-then-not-has_group-clause-leaves
returns-then-not-has_group-clause-leaves g c = record { usable = c.if_usable.ensures.usable; keeps = Keeps-refl _ }
