use Rattle.std.proofs.Common.{sym, ap, ◌∙◌}
use Rattle.std.proofs.lemmas.List.{take-map}
use Rattle.report_texts.specs.KeyReports.{limited}
use Rattle.cost_reports.specs.Rows.{plain_row, plain_rows}
use Rattle.cost_reports.proofs.ranks.keep_first.Goals as goal

pub returns-in-Some : goal.returns-in-Some
returns-in-Some c =
    ap plain_rows c.truncate.ensures.items
    ∙ sym (take-map plain_row c.in-Some.limit c.args.rows.now.items)
    ∙ ap (λ limit. limited limit (plain_rows c.args.rows.now.items)) (sym c.in-Some.is)
