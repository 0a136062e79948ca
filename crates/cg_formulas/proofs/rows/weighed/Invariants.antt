use Rattle.std.proofs.Common.{◌≡◌, ◌*◌, ◌≤◌, ◌^◌, take, sum}
use Rattle.cg_formulas.specs.Formulas.{weighed}
use Rattle.cg_formulas.proofs.rows.weighed.Given as goal

-- the costs so far, and a bound of theirs
abbrev pub invariant-loop-k : goal.invariant-loop-k
invariant-loop-k l = record {
  value : l.total ≡ weighed (take l.k l.counts) (take l.k l.costs);
  bound : l.total ≤ sum (take l.k l.counts) * 2 ^ 63;
}
