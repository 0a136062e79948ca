use Rattle.std.proofs.Common.{◌≡◌, ◌≤◌, length, take}
use Rattle.cg_formulas.specs.Formulas.{Definition, is_defined, is_changed}
use Rattle.cg_formulas.specs.Held.{kept_of}
use Rattle.cg_formulas.specs.Definitions.{plain_back}
use Rattle.cg_formulas.proofs.formulas.Formulas.find.Given as goal

-- what the name means is found in front of the end
abbrev pub invariant-loop-end : goal.invariant-loop-end
invariant-loop-end l = record {
  inside : l.end ≤ length l.self.definitions;
  defined : is_defined l.name (plain_back (take l.end l.self.definitions)) ≡ is_defined l.name (kept_of l.self);
  changed : (d : Definition) → d.name ≡ l.name → is_changed d (plain_back (take l.end l.self.definitions)) ≡ is_changed d (kept_of l.self);
}

abbrev pub decreases-loop-end : goal.decreases-loop-end
decreases-loop-end l = l.end
