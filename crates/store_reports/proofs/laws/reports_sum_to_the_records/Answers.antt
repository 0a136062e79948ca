use Rattle.std.proofs.Common.{◌≡◌, ◌+◌, ◌-◌, ◌∙◌, map, arith}
use Rattle.cost_rows.specs.KeySums.{total_of}
use Rattle.report_texts.specs.Costs.{all_costs, costs_by}
use Rattle.report_texts.specs.KeyReports.{shown}
use Rattle.cost_reports.proofs.CutLemmas.{shown_within}
use Rattle.cost_reports.proofs.KeyLemmas.{total_of_rows}
use Rattle.histories.specs.Reports.{event_records}
use Rattle.histories.specs.Selections.{selected}
use Rattle.store_reports.proofs.laws.reports_sum_to_the_records.Goals as goal

pub returns-clause-total : goal.returns-clause-total
returns-clause-total c = λ h s key event cut. total_of_rows key (all_costs (map (event_records event) (selected h s)))

pub returns-clause-sums : goal.returns-clause-sums
returns-clause-sums c = λ h s key event cut.
    let files = map (event_records event) (selected h s) in
    let sums = costs_by key files in
    let within = shown_within cut sums in
    let whole : total_of (shown cut sums) + (total_of sums - total_of (shown cut sums)) ≡ total_of sums = omega (arith, within) in
    whole ∙ total_of_rows key (all_costs files)
