use Rattle.std.proofs.Common.{◌<◌, ◌^◌, ◌++◌, [], ◌∷◌, Result, Ok, Err, IfErr, OnOk, MatchResult, ap, refl, subst, sym, ◌∙◌}
use Rattle.prof_store.proofs.Names.{is_held, not_held}
use Rattle.page_imports.specs.Names.{GetSmallNumbers}
use Rattle.page_imports.proofs.Failing.{refuses_for}
use Rattle.page_imports.proofs.Named.{held_taken, new_taken, number_of_new}
use Rattle.page_imports.proofs.Small.{last_small}
use Rattle.page_imports.proofs.numbering.Numbered.take.Goals as goal

pub returns-in_ok-take_held-in-Some : goal.returns-in_ok-take_held-in-Some
returns-in_ok-take_held-in-Some c = λ t names was apart held.
    let name = c.args.name.now in
    let it = is_held t name c.in-Some.number (sym c.in-Some.is ∙ held) in
    let taken = c.in_ok-take_held-in-Some.ensures in
    held_taken t names name c.args.self.now c.take_held.new.self was c.in-Some.number taken.numbers it.0 it.1 (ap (λ news. news.items) taken.news) taken.next

-- of three facts of what succeeds and one of what fails
both : {T E : Type 0} (r : Result T E) {A B C D : Type 0} {F G : E → Type 0} → (A → B → C → D) → ((e : E) → F e → G e) → OnOk r A → OnOk r B → OnOk r C → IfErr r F → MatchResult r (λ _. D) G
both (Ok x) so fails a b c f = so a b c
both (Err e) so fails a b c f = fails e f

pub returns-in-None : goal.returns-in-None
returns-in-None c = λ t names was apart held.
    let name = c.args.name.now in
    let old = c.args.self.now in
    let new = c.take_new.new.self in
    let taken = c.take_new.ensures in
    let none = not_held t name (sym c.in-None.is ∙ held) in
    both c.take_new.result (λ numbers news next. new_taken t names name old new was old.next numbers none apart refl news next)
    (λ e. refuses_for e (λ (all : GetSmallNumbers (names ++ name ∷ []) t). subst (λ n. n < 2 ^ 32) (number_of_new t names name old was none apart) (last_small t names name all)))
    taken.numbers taken.news taken.next taken.refused
