use Rattle.std.proofs.Common.{◌≡◌, ◌+◌, drop}
use Rattle.cost_rows.specs.KeySums.{total_of}
use Rattle.cost_reports.specs.Rows.{plain_rows}
use Rattle.cost_reports.proofs.ranks.cost_of.Given as goal

abbrev pub invariant-loop-row : goal.invariant-loop-row
invariant-loop-row l = l.sum + total_of (plain_rows (drop l.row-index l.rows)) ≡ total_of (plain_rows l.rows)
