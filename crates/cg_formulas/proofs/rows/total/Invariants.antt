use Rattle.std.proofs.Common.{◌≡◌, take, sum}
use Rattle.cg_formulas.specs.Rows.{capped}
use Rattle.cg_formulas.proofs.rows.total.Given as goal

-- the sum of the numbers so far
abbrev pub invariant-loop-n : goal.invariant-loop-n
invariant-loop-n l = l.total ≡ capped (sum (take l.n-index l.row))
