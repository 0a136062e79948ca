use Rattle.std.proofs.Common.{◌≡◌, take}
use Rattle.cg_formulas.proofs.flats.copied.Given as goal

-- the names so far
abbrev pub invariant-loop-name : goal.invariant-loop-name
invariant-loop-name l = l.copies ≡ take l.name-index l.names
