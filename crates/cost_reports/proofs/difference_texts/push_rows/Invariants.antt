use Rattle.std.proofs.Common.{◌≡◌, ◌++◌, drop}
use Rattle.report_texts.specs.Differences.{difference_lines}
use Rattle.byte_io.specs.Written.{written}
use Rattle.cost_reports.specs.Rows.{plain_differences}
use Rattle.cost_reports.proofs.difference_texts.push_rows.Given as goal

-- the lines so far, and those to come
abbrev pub invariant-loop-row : goal.invariant-loop-row
invariant-loop-row l = record {
  lines : written l.text ++ difference_lines l.key (plain_differences (drop l.row-index l.rows)) ≡ written l.initial.text ++ difference_lines l.key (plain_differences l.rows);
  most : l.text.most ≡ l.initial.text.most;
}
