use Rattle.std.proofs.Common.{◌≡◌, ◌≤◌, ◌∙◌, ap, sym, subst}
use Rattle.cost_rows.specs.KeySums.{total_of}
use Rattle.cost_rows.specs.Sums.{Spot}
use Rattle.report_texts.specs.KeyReports.{report_of}
use Rattle.report_texts.specs.KeyTexts.{key_report_text}
use Rattle.cost_reports.specs.Enough.{AreEnough}
use Rattle.cost_reports.specs.Rows.{given_sums}
use Rattle.store_reports.proofs.ShownLemmas.{named_total}
use Rattle.store_reports.proofs.reporting.text_of_sums.Goals as goal

pub by-requires-clause-within : goal.by-requires-clause-within
by-requires-clause-within g c =
    let sums = c.args.sums.now in
    let named : total_of (given_sums c.deref.result.now) ≡ _ =
    ap (λ cells. total_of (given_sums cells)) c.deref.ensures.value ∙ ap total_of c.in_ok-named.ensures.sums ∙ named_total (g.N.NameTable.name_rows c.args.names.now) sums.key sums.sums in
    subst (λ n. n ≤ c.total.result) (sym named) c.total.ensures.within

pub returns-clause-text : goal.returns-clause-text
returns-clause-text g c all total enough =
    let event = c.args.event.now in
    let given = ap given_sums c.deref.ensures.value ∙ c.in_ok-named.ensures.sums in
    let report = c.in_ok-report.ensures all (total ∙ sym c.total.ensures.value) (subst (AreEnough (λ (e : Spot × _). e.1) c.args.cut all) (sym given) enough) in
    c.in_ok-text.ensures.text
    ∙ ap (key_report_text event) report
    ∙ ap (λ key. key_report_text event (report_of key c.args.cut all)) c.key.ensures
