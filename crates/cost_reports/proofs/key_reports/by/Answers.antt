use Rattle.std.proofs.Common.{◌≡◌, ℕ, ◌-◌, ap, ◌∙◌}
use Rattle.cost_rows.specs.KeySums.{total_of}
use Rattle.report_texts.specs.KeyReports.{ReportByKey}
use Rattle.cost_reports.specs.Rows.{given_sums, plain_rows}
use Rattle.cost_reports.proofs.EnoughLemmas.{report_enough}
use Rattle.cost_reports.proofs.key_reports.by.Goals as goal

pub returns : goal.returns
returns c = λ all is enough. (
    let rows = plain_rows c.in_ok-rows.rows.items in
    let cost : c.cost_of.result ≡ total_of rows = c.cost_of.ensures ∙ ap (λ items. total_of (plain_rows items)) c.deref.ensures.value in
    let report : ℕ → ReportByKey = λ n. record { key = c.args.key; rows = rows; rest = c.args.total - n; total = c.args.total } in
    ap report cost ∙ report_enough c.args.key c.args.cut c.args.total all (given_sums c.args.sums.now) rows is enough c.in_ok-rows.ensures.shown)
