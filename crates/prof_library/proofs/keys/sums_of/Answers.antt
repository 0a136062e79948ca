use Rattle.std.proofs.Common.{ap, ◌∙◌}
use Rattle.cost_rows.specs.KeySums.{Sums}
use Rattle.cost_reports.proofs.AddedLemmas.{keeps_key}
use Rattle.prof_library.specs.Given.{plain_cells}
use Rattle.prof_library.proofs.keys.sums_of.Goals as goal

pub returns-clause-key : goal.returns-clause-key
returns-clause-key c = ap (λ (s : Sums). s.key) c.in_ok-add_cells.ensures.sums ∙ keeps_key c.new-sums.result (plain_cells c.args.rows.now) ∙ c.new-sums.ensures.key
