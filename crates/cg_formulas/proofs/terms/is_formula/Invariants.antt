use Rattle.std.proofs.Common.{◌≡◌, is_some}
use Rattle.cg_formulas.specs.EventLines.{formula_of}
use Rattle.cg_formulas.specs.EventViews.{formula_behind}
use Rattle.cg_formulas.proofs.TermsLemmas.{size_behind}
use Rattle.cg_formulas.proofs.terms.is_formula.Given as goal

-- it is a formula if what is left is one
abbrev pub invariant-loop-rest : goal.invariant-loop-rest
invariant-loop-rest l = is_some (formula_behind l.rest) ≡ is_some (formula_of l.text)

abbrev pub decreases-loop-rest : goal.decreases-loop-rest
decreases-loop-rest l = size_behind l.rest
