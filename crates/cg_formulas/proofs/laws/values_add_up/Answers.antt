use Rattle.cg_formulas.proofs.ValueLemmas.{values-both}
use Rattle.cg_formulas.proofs.laws.values_add_up.Goals as goal

pub returns : goal.returns
returns c = λ events back name. values-both events back name
