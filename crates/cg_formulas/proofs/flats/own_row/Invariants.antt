use Rattle.std.proofs.Common.{◌≡◌, [], take}
use Rattle.cg_formulas.specs.Formulas.{coefficients}
use Rattle.cg_formulas.proofs.flats.own_row.Given as goal

-- the events so far
abbrev pub invariant-loop-event : goal.invariant-loop-event
invariant-loop-event l = l.row ≡ coefficients (take l.event-index l.events) l.name []
