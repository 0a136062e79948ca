use Rattle.cg_formulas.proofs.ValueLemmas.{values-of}
use Rattle.cg_formulas.proofs.laws.coefficients_give_the_values.Goals as goal

pub returns : goal.returns
returns c = λ flat events back is name costs. values-of flat events back name costs is.0 is.1
