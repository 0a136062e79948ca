use Rattle.std.proofs.Common.{sym, subst, ◌∙◌, if◌then◌else◌, refl, inr}
use Rattle.std.proofs.lemmas.Bool.{both_ways}
use Rattle.plain_tables.specs.Changes.{with_member}
use Rattle.prof_store.specs.Tables.{Holds}
use Rattle.page_files.proofs.Steps.{begins}
use Rattle.page_changes.proofs.Editing.{listed_member}
use Rattle.page_changes.specs.Causes.{CanTakeIn}
use Rattle.page_changes.proofs.Failing.{fails_with_more}
use Rattle.page_changes.proofs.Results.{at_err, given_ok, if_err, when_ok}
use Rattle.sqlite_pool.specs.StoredLaws.{Keeps-refl}
use Rattle.page_changes.proofs.groups.join.Goals.{then-not-has_group-via-then-not-has_group, then-not-has_group-via-else-not-has_group+then-not-has_run}
use Rattle.page_changes.proofs.groups.join.Goals as goal

pub returns-then-has_member-clause-done : goal.returns-then-has_member-clause-done
returns-then-has_member-clause-done g c clean wanted known db t rests holds listed are =
    let name = c.args.name.now in
    let run = c.args.run in
    let is = c.has_member.ensures ∙ listed_member t c.args.lists.now listed name run in
    given_ok c.if_usable.result (db, begins c.args.file.now rests, subst (λ b. Holds (if b then t else with_member name run t) db) (sym c.if-has_member.true ∙ is) holds)

pub returns-clause-done : goal.returns-clause-done
returns-clause-done g c clean wanted known db t rests holds listed are =
    let name = c.args.name.now in
    let run = c.args.run in
    let none = sym (c.has_member.ensures ∙ listed_member t c.args.lists.now listed name run) ∙ c.if-has_member.false in
    when_ok c.add_member.result _ (λ it. (it.0, it.1, subst (λ b. Holds (if b then t else with_member name run t) it.0) (sym none) it.2))
    (c.add_member.ensures.done clean wanted known db db t (begins c.args.file.now rests) holds are
    (record { grouped = sym (c.has_group.ensures.told t listed) ∙ c.if-not-has_group.false; held = sym (c.has_run.ensures.told t listed) ∙ c.if-not-has_run.false; none = none }))

pub returns-clause-failed : goal.returns-clause-failed
returns-clause-failed g c =
    if_err c.add_member.result _ (λ e is clean wanted known db t rests holds listed are.
    let name = c.args.name.now in
    let run = c.args.run in
    let none = sym (c.has_member.ensures ∙ listed_member t c.args.lists.now listed name run) ∙ c.if-has_member.false in
    let done =
    c.add_member.ensures.done clean wanted known db db t (begins c.args.file.now rests) holds are
    (record { grouped = sym (c.has_group.ensures.told t listed) ∙ c.if-not-has_group.false; held = sym (c.has_run.ensures.told t listed) ∙ c.if-not-has_run.false; none = none }) in
    fails_with_more c.args.file.now c.add_member.new.file {Q = CanTakeIn c.args.file.now name run t db} e (λ can. can.room none) (at_err c.add_member.result _ _ e is done))

pub returns-clause-leaves : goal.returns-clause-leaves
returns-clause-leaves g c = c.add_member.ensures.leaves

pub returns-then-has_member-clause-leaves : goal.returns-then-has_member-clause-leaves
returns-then-has_member-clause-leaves g c = record { usable = c.if_usable.ensures.usable; keeps = Keeps-refl _ }

pub returns-then-not-has_group-clause-done : goal.returns-then-not-has_group-clause-done
returns-then-not-has_group-clause-done g c = λ clean wanted known db t rests holds listed are. tt

pub returns-then-not-has_group-clause-leaves : goal.returns-then-not-has_group-clause-leaves
returns-then-not-has_group-clause-leaves g c = record { usable = tt; keeps = Keeps-refl _ }

pub returns-then-not-has_group-clause-failed : goal.returns-then-not-has_group-clause-failed
returns-then-not-has_group-clause-failed g c = λ clean wanted known db t rests holds listed are.
    inr (
      refl,
      λ (can : CanTakeIn c.args.file.now c.args.name.now c.args.run t db). elim c.then-not-has_group.branch [
        | then-not-has_group-via-then-not-has_group w ↦ both_ways _ (sym (c.has_group.ensures.told t listed) ∙ w.if-not-has_group.true) can.grouped
        | then-not-has_group-via-else-not-has_group+then-not-has_run w ↦ both_ways _ (sym (w.has_run.ensures.told t listed) ∙ w.if-not-has_run.true) can.held
      ],
    )
