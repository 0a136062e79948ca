use Rattle.std.proofs.Common.{◌≡◌, ◌+◌, fold, drop}
use Rattle.report_texts.specs.Calls.{sum_of, with_calls}
use Rattle.report_texts.specs.Pairs.{AreBelow, firsts_of, seconds_of}
use Rattle.prof_library.specs.Given.{calls_in}
use Rattle.prof_library.proofs.calls.add_calls.Given as goal

-- what is held with the calls to come is all, and small enough
abbrev pub invariant-loop-row : goal.invariant-loop-row
invariant-loop-row l = record {
  sums : fold with_calls l.sums (calls_in (drop l.row-index l.rows)) ≡ fold with_calls l.initial.sums (calls_in l.rows);
  small : AreBelow (firsts_of l.sums.sums + (sum_of (calls_in (drop l.row-index l.rows))).first)
      (seconds_of l.sums.sums + (sum_of (calls_in (drop l.row-index l.rows))).second);
}
