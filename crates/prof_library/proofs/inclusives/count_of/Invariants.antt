use Rattle.std.proofs.Common.{◌≡◌, ◌+◌, drop}
use Rattle.report_texts.specs.Inclusive.{rows_count}
use Rattle.prof_library.specs.Given.{plain_stacks}
use Rattle.prof_library.proofs.inclusives.count_of.Given as goal

abbrev pub invariant-loop-row : goal.invariant-loop-row
invariant-loop-row l = l.count + rows_count (plain_stacks (drop l.row-index l.rows)) ≡ rows_count (plain_stacks l.rows)
