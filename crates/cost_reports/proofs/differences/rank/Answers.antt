use Rattle.cost_reports.specs.Rows.{plain_difference}
use Rattle.cost_reports.proofs.RankLemmas.{sorted_is_ranked}
use Rattle.cost_reports.proofs.RowLemmas.{difference_cmp-total, difference_cmp-apart}
use Rattle.cost_reports.proofs.differences.rank.Goals as goal

pub returns : goal.returns
returns c = sorted_is_ranked difference_cmp-total difference_cmp-apart plain_difference _ _ c.sort_unstable.ensures.permutation c.sort_unstable.ensures.sorted
