use Rattle.std.proofs.Common.{◌≡◌, length}
use Rattle.std.specs.Map.{lookup}
use Rattle.std.specs.Str.{bytes_eq}
use Rattle.cg_formulas.proofs.flats.Flat.coefficients.Given as goal

-- what the name means is found in the rest
abbrev pub invariant-loop-derived : goal.invariant-loop-derived
invariant-loop-derived l = lookup (bytes_eq l.name) l.rest ≡ lookup (bytes_eq l.name) l.self.derived

abbrev pub decreases-loop-derived : goal.decreases-loop-derived
decreases-loop-derived l = length l.rest
