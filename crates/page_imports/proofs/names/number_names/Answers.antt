use Rattle.std.proofs.Common.{ap, sym, subst, ◌∙◌}
use Rattle.std.proofs.lemmas.Result.{IfOk-from_err, err_from_is_err_and}
use Rattle.sqlite_pool.specs.StoredLaws.{Keeps-trans}
use Rattle.page_places.proofs.Failing.{store_fails_later}
use Rattle.page_imports.specs.Causes.{CanBeNumbered}
use Rattle.page_imports.specs.Names.{AreUnheld, bytes_of, with_names}
use Rattle.prof_store.specs.Tables.{Holds}
use Rattle.page_imports.proofs.Failing.{fails_for}
use Rattle.page_imports.proofs.Stepping.{shows_after}
use Rattle.page_imports.proofs.names.number_names.Goals as goal

pub returns-clause-done : goal.returns-clause-done
returns-clause-done g c clean = λ wanted known was t shows are.
    let early = c.put_names.ensures.leaves.keeps.stays.clean clean in
    let told = c.in_ok-found.ensures.told early wanted known was t shows are in
    let there = shows_after c.args.file.now c.find_numbers.new.file c.find_numbers.ensures.reads early c.in_ok-found.ensures.usable shows in
    let listed = c.deref.ensures.value in
    let made = c.in_ok-put_names.ensures.done clean wanted known was t there are (subst (λ l. AreUnheld (bytes_of l) t) (sym listed) told.unheld) in (
      record {
        shows = record { next = made.shows.next; writes = made.shows.writes; holds = subst (λ u. Holds u made.shows.next) (ap (λ l. with_names (bytes_of l) t) listed ∙ sym told.named) made.shows.holds };
        kept = made.kept;
      },
      told.numbers,
    )

pub returns-in_err-found-clause-done : goal.returns-in_err-found-clause-done
returns-in_err-found-clause-done g c clean = λ wanted known was t shows are.
    let p = err_from_is_err_and c.from_residual.result c.from_residual.ensures.1 in
    rw (p.1, p.2) (fails_for c.args.file.now c.find_numbers.new.file _ (λ (can : CanBeNumbered c.args.names.now t shows.next). can.numbers) (c.in_err-found.ensures.told clean wanted known was t shows are))

pub returns-in_err-put_names-clause-done : goal.returns-in_err-put_names-clause-done
returns-in_err-put_names-clause-done g c clean = λ wanted known was t shows are.
    let early = c.put_names.ensures.leaves.keeps.stays.clean clean in
    let told = c.in_ok-found.ensures.told early wanted known was t shows are in
    let there = shows_after c.args.file.now c.find_numbers.new.file c.find_numbers.ensures.reads early c.in_ok-found.ensures.usable shows in
    let listed = c.deref.ensures.value in
    let failed = c.in_err-put_names.ensures.done clean wanted known was t there are (subst (λ l. AreUnheld (bytes_of l) t) (sym listed) told.unheld) in
    let news = ap bytes_of listed in
    let p = err_from_is_err_and c.from_residual-in_err-put_names.result c.from_residual-in_err-put_names.ensures.1 in
    rw (p.1, p.2) (store_fails_later c.args.file.now c.find_numbers.new.file c.put_names.new.file _ c.find_numbers.ensures.reads.keeps
    (λ (can : CanBeNumbered c.args.names.now t shows.next). can.put _ (told.named ∙ ap (λ l. with_names l t) (sym news))) failed)

pub returns-in_err-put_names-clause-leaves : goal.returns-in_err-put_names-clause-leaves
returns-in_err-put_names-clause-leaves g c = record { usable = IfOk-from_err c.from_residual-in_err-put_names.result _ c.from_residual-in_err-put_names.ensures.0; keeps = Keeps-trans _ _ _ c.find_numbers.ensures.reads.keeps c.put_names.ensures.leaves.keeps }

pub returns-clause-leaves : goal.returns-clause-leaves
returns-clause-leaves g c = record { usable = c.in_ok-put_names.ensures.leaves.usable; keeps = Keeps-trans _ _ _ c.find_numbers.ensures.reads.keeps c.put_names.ensures.leaves.keeps }

pub returns-in_err-found-clause-leaves : goal.returns-in_err-found-clause-leaves
returns-in_err-found-clause-leaves g c = record { usable = IfOk-from_err c.from_residual.result _ c.from_residual.ensures.0; keeps = c.find_numbers.ensures.reads.keeps }
