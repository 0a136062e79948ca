use Rattle.std.proofs.Common.{◌≡◌, ◌++◌, length}
use Rattle.report_texts.specs.Differences.{beside, differing}
use Rattle.cost_reports.specs.InStep.{from_row, IsInOrder}
use Rattle.cost_reports.specs.Rows.{lent_sums, plain_differences}
use Rattle.cost_reports.proofs.differences.push_all_differing.Given as goal

-- the rows so far, and those to come of what is left of both sides
abbrev pub invariant-places : goal.invariant-places
invariant-places l =
    let firsts = from_row l.left (lent_sums l.firsts) in
    let seconds = from_row l.right (lent_sums l.seconds) in
    record {
      rows : plain_differences l.rows.items ++ differing (beside firsts seconds) ≡ differing (beside l.first.sums l.second.sums);
      one : IsInOrder firsts;
      two : IsInOrder seconds;
    }

abbrev pub decreases-places : goal.decreases-places
decreases-places l = length (beside (from_row l.left (lent_sums l.firsts)) (from_row l.right (lent_sums l.seconds)))
