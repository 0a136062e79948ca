use Rattle.std.proofs.Common.{List, ℕ, ◌∷◌, sym, ◌∙◌, ap}
use Rattle.std.proofs.lemmas.List.{take_rest}
use Rattle.cg_formulas.specs.EventLines.{with_first, formula_of}
use Rattle.cg_formulas.specs.EventViews.{terms_in, plain_term}
use Rattle.cg_formulas.proofs.TermsLemmas.{begins-more, begins-bad, begins-last, begins-last_bad}
use Rattle.cg_formulas.proofs.terms.first_term.Goals as goal

pub returns-in_err-term-in-Some-clause-none : goal.returns-in_err-term-in-Some-clause-none
returns-in_err-term-in-Some-clause-none c = rw c.from_residual.ensures (begins-bad c.args.text.now c.in-Some.end (sym c.first_plus.ensures ∙ c.in-Some.is) c.in_err-term-in-Some.ensures)

pub returns-in_err-term-in-None-clause-none : goal.returns-in_err-term-in-None-clause-none
returns-in_err-term-in-None-clause-none c = rw c.from_residual-in_err-term-in-None.ensures (begins-last_bad c.args.text.now (sym c.first_plus.ensures ∙ c.in-None.is) c.in_err-term-in-None.ensures)

pub returns-in_ok-term-in-Some-clause-formula : goal.returns-in_ok-term-in-Some-clause-formula
returns-in_ok-term-in-Some-clause-formula c =
    let text : List ℕ = c.args.text.now in
    let term = plain_term c.in_ok-term-in-Some.field-0 in
    let more = begins-more text c.in-Some.end term (sym c.first_plus.ensures ∙ c.in-Some.is) c.in_ok-term-in-Some.ensures in
    more.0 ∙ ap (λ rest. with_first term (formula_of rest)) (sym (take_rest text _))

pub returns-in_ok-term-in-Some-clause-terms : goal.returns-in_ok-term-in-Some-clause-terms
returns-in_ok-term-in-Some-clause-terms c =
    let text : List ℕ = c.args.text.now in
    let term = plain_term c.in_ok-term-in-Some.field-0 in
    let more = begins-more text c.in-Some.end term (sym c.first_plus.ensures ∙ c.in-Some.is) c.in_ok-term-in-Some.ensures in
    more.1 ∙ ap (λ rest. term ∷ terms_in rest) (sym (take_rest text _))

pub returns-in_ok-term-in-None-clause-formula : goal.returns-in_ok-term-in-None-clause-formula
returns-in_ok-term-in-None-clause-formula c = (begins-last c.args.text.now (plain_term c.in_ok-term-in-None.field-0) (sym c.first_plus.ensures ∙ c.in-None.is) c.in_ok-term-in-None.ensures).0

pub returns-in_ok-term-in-None-clause-terms : goal.returns-in_ok-term-in-None-clause-terms
returns-in_ok-term-in-None-clause-terms c = (begins-last c.args.text.now (plain_term c.in_ok-term-in-None.field-0) (sym c.first_plus.ensures ∙ c.in-None.is) c.in_ok-term-in-None.ensures).1
