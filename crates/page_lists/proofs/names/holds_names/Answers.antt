use Rattle.std.proofs.Common.{◌≡◌, ◌↔◌, true, Bool, filter, sym, subst, ◌∙◌, arith}
use Rattle.std.specs.List.{AllByRecursion}
use Rattle.std.specs.List.Sorted.{IsNonDecreasing}
use Rattle.std.proofs.lemmas.Result.{IfOk-from_err}
use Rattle.run_stores.specs.Book.{IsHeld}
use Rattle.page_lists.specs.Among.{is_among}
use Rattle.page_lists.proofs.Among.{shown_rise}
use Rattle.page_lists.proofs.SomeNames.{all_held, found_rise, names_of, names_picked, numbers_are}
use Rattle.page_lists.proofs.Refusing.{handed_on}
use Rattle.page_lists.proofs.names.holds_names.Goals as goal

pub returns-clause-read : goal.returns-clause-read
returns-clause-read g c faithful rows is names say =
    let numbers = c.args.numbers.now in
    let found = c.deref.ensures.value in
    let read = c.in_ok-found.ensures.read faithful rows is in
    let picked = names_picked numbers (λ k. let fits = (c.type_inv.numbers k).fits in omega (arith, fits)) rows names say in
    let items = found ∙ numbers_are (filter (is_among numbers) rows) (names_of numbers names) picked c.in_ok-found.found.items read in
    let rises = subst IsNonDecreasing (sym found) (found_rise numbers rows c.in_ok-found.found.items read (shown_rise _ _ rows is)) in
    subst (λ (b : Bool). (b ≡ true) ↔ AllByRecursion (IsHeld names) numbers) (sym (c.has_all.ensures rises)) (all_held numbers names c.deref.result.now items)

pub returns-in_err-found-clause-read : goal.returns-in_err-found-clause-read
returns-in_err-found-clause-read g c = λ faithful rows is names say. IfOk-from_err c.from_residual.result _ c.from_residual.ensures.0

pub returns-in_err-found-clause-reads : goal.returns-in_err-found-clause-reads
returns-in_err-found-clause-reads g c = c.rows_among.ensures.reads

pub returns-clause-reads : goal.returns-clause-reads
returns-clause-reads g c = c.rows_among.ensures.reads

pub returns-in_err-found-clause-serves : goal.returns-in_err-found-clause-serves
returns-in_err-found-clause-serves g c = λ faithful rows is all. handed_on c.from_residual.result _ _ c.from_residual.ensures.1 (c.in_err-found.ensures.serves faithful rows is all)
