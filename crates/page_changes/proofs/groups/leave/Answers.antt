use Rattle.std.proofs.Common.{sym, subst, ◌∙◌}
use Rattle.prof_store.specs.Tables.{Holds}
use Rattle.page_files.proofs.Steps.{begins}
use Rattle.page_changes.specs.Causes.{CanTakeOut}
use Rattle.page_changes.proofs.Editing.{listed_member, not_member}
use Rattle.page_changes.proofs.Failing.{fails_with_more}
use Rattle.page_changes.proofs.Seeking.{member_found}
use Rattle.page_changes.proofs.Results.{at_err, given_ok, if_err, when_ok}
use Rattle.sqlite_pool.specs.StoredLaws.{Keeps-refl}
use Rattle.page_changes.proofs.groups.leave.Goals as goal

pub returns-then-not-has_member-clause-done : goal.returns-then-not-has_member-clause-done
returns-then-not-has_member-clause-done g c clean wanted known db t rests holds listed are =
    let name = c.args.name.now in
    let run = c.args.run in
    let none = sym (c.has_member.ensures ∙ listed_member t c.args.lists.now listed name run) ∙ c.if-not-has_member.true in
    given_ok c.if_usable.result (db, begins c.args.file.now rests, subst (λ u. Holds u db) (sym (not_member t name run none)) holds)

pub returns-clause-done : goal.returns-clause-done
returns-clause-done g c clean wanted known db t rests holds listed are =
    when_ok c.erase_member.result _ (λ it. it) (c.erase_member.ensures.done clean wanted known db db t (begins c.args.file.now rests) holds are tt)

pub returns-clause-failed : goal.returns-clause-failed
returns-clause-failed g c =
    if_err c.erase_member.result _ (λ e is clean wanted known db t rests holds listed are.
    let name = c.args.name.now in
    let run = c.args.run in
    let there = sym (c.has_member.ensures ∙ listed_member t c.args.lists.now listed name run) ∙ c.if-not-has_member.false in
    let done = c.erase_member.ensures.done clean wanted known db db t (begins c.args.file.now rests) holds are tt in
    fails_with_more c.args.file.now c.erase_member.new.file {Q = CanTakeOut c.args.file.now t} e (λ can. member_found t db holds name run there can.narrow) (at_err c.erase_member.result _ _ e is done))

pub returns-clause-leaves : goal.returns-clause-leaves
returns-clause-leaves g c = c.erase_member.ensures.leaves

pub returns-then-not-has_member-clause-leaves : goal.returns-then-not-has_member-clause-leaves
returns-then-not-has_member-clause-leaves g c = record { usable = c.if_usable.ensures.usable; keeps = Keeps-refl _ }
