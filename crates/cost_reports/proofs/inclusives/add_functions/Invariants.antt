use Rattle.std.proofs.Common.{◌≡◌, ◌+◌, ◌<◌, fold}
use Rattle.cost_rows.specs.KeySums.{rows_of, total_of, with_row, sum_end}
use Rattle.report_texts.specs.Inclusive.{names_costs, names_in}
use Rattle.cost_reports.proofs.inclusives.add_functions.Given as goal

-- what is held with the counts to come is all
abbrev pub invariant-loop-function : goal.invariant-loop-function
invariant-loop-function l = record {
  sums : fold with_row l.merged (rows_of (names_costs l.count (names_in l.function-iterator))) ≡ fold with_row l.initial.merged (rows_of (names_costs l.count (names_in l.functions.keys)));
  key : l.merged.key ≡ l.initial.merged.key;
  small : total_of l.merged.sums + total_of (names_costs l.count (names_in l.function-iterator)) < sum_end;
}
