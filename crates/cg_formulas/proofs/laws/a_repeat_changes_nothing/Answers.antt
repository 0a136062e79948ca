use Rattle.cg_formulas.proofs.RepeatLemmas.{repeat-fault, repeat-derived, repeat-values}
use Rattle.cg_formulas.proofs.laws.a_repeat_changes_nothing.Goals as goal

pub returns : goal.returns
returns c = λ events d back (there, same). record {
  fault = repeat-fault events d back there same;
  values = λ free name costs. repeat-values events d back name costs free there same;
  derived = λ free. repeat-derived events d back free there same;
}
