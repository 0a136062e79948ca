use Rattle.std.proofs.Common.{◌≡◌, ◌++◌, drop}
use Rattle.report_texts.specs.Calls.{call_lines}
use Rattle.byte_io.specs.Written.{written}
use Rattle.cost_reports.specs.Rows.{plain_calls}
use Rattle.cost_reports.proofs.call_texts.push_rows.Given as goal

-- the lines so far, and those to come
abbrev pub invariant-loop-row : goal.invariant-loop-row
invariant-loop-row l = record {
  lines : written l.text ++ call_lines (plain_calls (drop l.row-index l.rows)) ≡ written l.initial.text ++ call_lines (plain_calls l.rows);
  most : l.text.most ≡ l.initial.text.most;
}
