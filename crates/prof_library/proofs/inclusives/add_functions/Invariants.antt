use Rattle.std.proofs.Common.{◌≡◌, ◌+◌, fold}
use Rattle.cost_rows.specs.KeySums.{rows_of, total_of, with_row}
use Rattle.report_texts.specs.Inclusive.{names_costs, names_in}
use Rattle.prof_library.proofs.inclusives.add_functions.Given as goal

-- what is held with the counts to come is all
abbrev pub invariant-loop-function : goal.invariant-loop-function
invariant-loop-function l = record {
  sums : fold with_row l.sums (rows_of (names_costs l.count (names_in l.function-iterator))) ≡ fold with_row l.initial.sums (rows_of (names_costs l.count (names_in l.functions.keys)));
  total : total_of l.sums.sums + total_of (names_costs l.count (names_in l.function-iterator)) ≡ total_of l.initial.sums.sums + total_of (names_costs l.count (names_in l.functions.keys));
}
