use Rattle.std.proofs.Common.{◌≡◌, take}
use Rattle.cg_formulas.specs.Definitions.{plain_back}
use Rattle.cg_formulas.specs.Flats.{Flattens}
use Rattle.cg_formulas.specs.Held.{AreFresh, kept_of}
use Rattle.cg_formulas.proofs.formulas.Formulas.flatten.Given as goal

-- the definitions so far have their coefficients
abbrev pub invariant-loop-definition : goal.invariant-loop-definition
invariant-loop-definition l = record {
  events : l.flat.events ≡ l.events;
  flattens : AreFresh (kept_of l.self) → Flattens l.flat (plain_back (take l.definition-index l.self.definitions));
}
