use Rattle.std.proofs.Common.{ap, ◌∙◌}
use Rattle.cost_rows.specs.KeySums.{total_of}
use Rattle.cost_reports.specs.Rows.{plain_rows}
use Rattle.cost_reports.proofs.CutLemmas.{total_ranked}
use Rattle.cost_reports.proofs.ranks.ranked_rows.Goals as goal

pub returns-clause-total : goal.returns-clause-total
returns-clause-total c = ap total_of c.rank.ensures ∙ total_ranked (plain_rows c.in_ok-rows.rows.items) ∙ ap total_of c.in_ok-rows.ensures
