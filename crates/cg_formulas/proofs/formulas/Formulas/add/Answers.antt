use Rattle.std.proofs.Common.{rules, ◌≡◌, false, not, inl, inr, ◌∷◌, is_some, sym, ap, ◌∙◌, subst, refl}
use Rattle.std.proofs.lemmas.Bool.{cases_Bool}
use Rattle.cg_formulas.specs.Formulas.{Definition, define, defined_by, is_defined, same_terms}
use Rattle.cg_formulas.specs.EventViews.{plain_event, terms_in, terms_of}
use Rattle.cg_formulas.specs.Held.{Holds, kept_of, terms_at, IsNearest}
use Rattle.cg_formulas.specs.Definitions.{plain_definition}
use Rattle.cg_formulas.specs.declared.definitions.Definition as code
use Rattle.cg_formulas.specs.declared.formulas.Formulas.{Formulas}
use Rattle.cg_formulas.proofs.HeldLemmas.{holds-later, holds-new, holds-repeat, holds-changed}
use Rattle.cg_formulas.proofs.formulas.Formulas.add.Goals as goal
use Rattle.cg_formulas.proofs.formulas.Formulas.add.Goals.{then-is_some-via-then-is_some, then-is_some-via-else-is_some+then-len-gt-MOST_NAMES}

pub returns-then-is_some-clause-ok : goal.returns-then-is_some-clause-ok
returns-then-is_some-clause-ok c back holds =
    let d : Definition = record { line = c.args.line; name = c.args.event.name; terms = terms_in c.in-Some.formula.text } in
    let said : define c.args.line (plain_event c.args.event) back ≡ d ∷ back = ap (λ o. defined_by c.args.line c.args.event.name (terms_of o) back) c.in-Some.is in
    subst (λ ds. Holds c.args.self.now ds) (sym said) (holds-later c.args.self.now d back
    (elim c.then-is_some.branch [
      | then-is_some-via-then-is_some w ↦ inl (search (rules, w))
      | then-is_some-via-else-is_some+then-len-gt-MOST_NAMES w ↦ inr (search (rules, w))
    ]) holds)

pub returns-in_ok-push-in-None-clause-ok : goal.returns-in_ok-push-in-None-clause-ok
returns-in_ok-push-in-None-clause-ok c back holds =
    let kept : code.Definition = record { line = c.args.line; name = c.args.event.name; formula = c.in-Some.formula } in
    let said : define c.args.line (plain_event c.args.event) back ≡ plain_definition kept ∷ back = ap (λ o. defined_by c.args.line c.args.event.name (terms_of o) back) c.in-Some.is in
    let none : is_some c.args.self.now.changed ≡ false = sym c.is_some.ensures ∙ c.if-is_some.false in
    let new : is_defined c.args.event.name (kept_of c.args.self.now) ≡ false = search rules in
    rw said (holds-new c.args.self.now _ kept back none refl c.in_ok-push-in-None.ensures.ok new holds)

pub returns-in-Some-find-clause-ok : goal.returns-in-Some-find-clause-ok
returns-in-Some-find-clause-ok c back holds =
    let kept : code.Definition = record { line = c.args.line; name = c.args.event.name; formula = c.in-Some.formula } in
    let d : Definition = plain_definition kept in
    let said : define c.args.line (plain_event c.args.event) back ≡ d ∷ back = ap (λ o. defined_by c.args.line c.args.event.name (terms_of o) back) c.in-Some.is in
    let none : is_some c.args.self.now.changed ≡ false = sym c.is_some.ensures ∙ c.if-is_some.false in
    let nearest : IsNearest c.args.self.now c.args.event.name c.in-Some-find.at = search rules in
    let compared = nearest.changes d refl in
    let redefines = c.redefine.ensures in
    let after : Formulas = c.redefine.new.self in
    subst (λ ds. Holds after ds) (sym said) (elim (cases_Bool (same_terms (terms_at c.args.self.now c.in-Some-find.at) d.terms)) [
      | inl e ↦ holds-repeat c.args.self.now after d back none redefines.kept (redefines.changed ∙ rw e refl) nearest.defined (compared ∙ ap not e) holds
      | inr e ↦ holds-changed c.args.self.now after d back none redefines.kept (redefines.changed ∙ rw e refl) (compared ∙ ap not e) holds
    ])
