use Rattle.cost_reports.specs.Rows.{plain_call}
use Rattle.cost_reports.proofs.RankLemmas.{sorted_is_ranked}
use Rattle.cost_reports.proofs.RowLemmas.{call_cmp-total, call_cmp-apart}
use Rattle.cost_reports.proofs.call_reports.rank.Goals as goal

pub returns : goal.returns
returns c = sorted_is_ranked call_cmp-total call_cmp-apart plain_call _ _ c.sort_unstable.ensures.permutation c.sort_unstable.ensures.sorted
