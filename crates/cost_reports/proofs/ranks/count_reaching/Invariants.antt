use Rattle.std.proofs.Common.{◌≡◌, ◌<◌, ◌+◌, ◌++◌, take, drop}
use Rattle.cost_rows.specs.KeySums.{total_of, sum_end}
use Rattle.report_texts.specs.KeyReports.{reaching}
use Rattle.cost_reports.specs.Rows.{plain_rows}
use Rattle.cost_reports.proofs.ranks.count_reaching.Given as goal

-- the rows so far are shown, and what is shown of the others goes on from what they sum to
abbrev pub invariant-loop-k : goal.invariant-loop-k
invariant-loop-k l = record {
  found : plain_rows (take l.k l.rows) ++ reaching l.need l.before (plain_rows (drop l.k l.rows)) ≡ reaching l.need 0 (plain_rows l.rows);
  small : l.before + total_of (plain_rows (drop l.k l.rows)) < sum_end;
}
