use Rattle.cost_reports.specs.Rows.{plain_row}
use Rattle.cost_reports.proofs.RankLemmas.{sorted_is_ranked}
use Rattle.cost_reports.proofs.RowLemmas.{rank_cmp-total, rank_cmp-apart}
use Rattle.cost_reports.proofs.ranks.rank.Goals as goal

pub returns : goal.returns
returns c = sorted_is_ranked rank_cmp-total rank_cmp-apart plain_row _ _ c.sort_unstable.ensures.permutation c.sort_unstable.ensures.sorted
