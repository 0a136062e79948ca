use Rattle.std.proofs.Common.{◌≡◌, fold, length}
use Rattle.std.specs.BTreeSet.{insert_key}
use Rattle.cost_rows.specs.Stacks.{bytes_cmp}
use Rattle.profile_records.specs.Frames.{functions_of}
use Rattle.report_texts.specs.Inclusive.{functions_in, names_in}
use Rattle.cost_reports.proofs.frames.functions_in.Given as goal

-- the functions so far with those to come are all
abbrev pub invariant-loop-at : goal.invariant-loop-at
invariant-loop-at l = fold (insert_key bytes_cmp) (names_in l.functions.keys) (functions_of l.rest) ≡ functions_in l.frames

abbrev pub decreases-loop-at : goal.decreases-loop-at
decreases-loop-at l = length l.rest
