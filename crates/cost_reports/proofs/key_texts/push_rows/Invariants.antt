use Rattle.std.proofs.Common.{◌≡◌, ◌<◌, ◌++◌, drop}
use Rattle.cost_rows.specs.KeySums.{total_of, sum_end}
use Rattle.report_texts.specs.KeyTexts.{rows_text}
use Rattle.byte_io.specs.Written.{written}
use Rattle.cost_reports.specs.Rows.{plain_rows}
use Rattle.cost_reports.proofs.key_texts.push_rows.Given as goal

-- the lines so far, and those to come
abbrev pub invariant-loop-row : goal.invariant-loop-row
invariant-loop-row l = record {
  lines : written l.text ++ rows_text l.key l.total (plain_rows (drop l.row-index l.rows)) ≡ written l.initial.text ++ rows_text l.key l.total (plain_rows l.rows);
  most : l.text.most ≡ l.initial.text.most;
  small : total_of (plain_rows (drop l.row-index l.rows)) < sum_end;
}
