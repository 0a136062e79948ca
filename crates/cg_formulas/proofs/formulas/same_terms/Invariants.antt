use Rattle.std.proofs.Common.{◌≡◌}
use Rattle.cg_formulas.specs.Formulas.{same_terms}
use Rattle.cg_formulas.specs.EventViews.{terms_in}
use Rattle.cg_formulas.proofs.formulas.same_terms.Given as goal

-- the terms so far are the same
abbrev pub invariant-loop-number : goal.invariant-loop-number
invariant-loop-number l = same_terms l.number-iterator l.others ≡ same_terms (terms_in l.formula) (terms_in l.other)
