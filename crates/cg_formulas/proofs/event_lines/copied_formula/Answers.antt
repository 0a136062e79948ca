use Rattle.std.proofs.Common.{rules, ◌≡◌, true, Some, is_some, ap, ◌∙◌}
use Rattle.cg_formulas.specs.EventLines.{formula_of}
use Rattle.cg_formulas.specs.EventViews.{terms_in}
use Rattle.cg_formulas.proofs.TermsLemmas.{formula-terms}
use Rattle.cg_formulas.proofs.event_lines.copied_formula.Goals as goal

pub returns-clause-formula : goal.returns-clause-formula
returns-clause-formula c =
    let formed : is_some (formula_of c.args.text.now) ≡ true = search rules in
    let same : c.from_vec-text.result ≡ c.args.text.now = search rules in
    ap (λ text. Some (terms_in text)) same ∙ formula-terms c.args.text.now formed
