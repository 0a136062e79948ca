use Rattle.std.proofs.Common.{◌≡◌, ◌∙◌, List, ℕ, sym, ap, subst}
use Rattle.std.proofs.lemmas.Result.{IfOk-weaker}
use Rattle.cost_rows.specs.KeySums.{sums_by, total_of}
use Rattle.cost_rows.specs.Sums.{Spot}
use Rattle.cost_reports.specs.Enough.{AreEnough}
use Rattle.cost_reports.specs.Rows.{given_sums}
use Rattle.report_texts.specs.KeyReports.{ReportByKey, report_of}
use Rattle.prof_library.specs.Given.{plain_cells}
use Rattle.prof_library.proofs.Lemmas.{all_are_enough}
use Rattle.prof_library.proofs.keys.by.Goals as goal

pub returns : goal.returns
returns c =
    let all = sums_by c.args.key (plain_cells c.args.rows.now) in
    let given : given_sums c.deref.result.now ≡ all = ap given_sums c.deref.ensures.value ∙ c.in_ok-parts.ensures ∙ c.in_ok-sums.ensures.sums in
    let total : total_of all ≡ c.total.result = ap total_of (sym c.in_ok-sums.ensures.sums) ∙ sym c.total.ensures.value in
    let enough = subst (λ (some : List (Spot × ℕ)). AreEnough (λ (e : Spot × ℕ). e.1) c.args.cut all some) (sym given) (all_are_enough c.args.cut all) in
    IfOk-weaker c.by.result _ (λ (report : ReportByKey). report ≡ report_of c.args.key c.args.cut all) (λ report is. is all total enough) c.by.ensures
