use Rattle.std.proofs.Common.{◌≡◌, fold, ap, ◌∙◌}
use Rattle.std.proofs.lemmas.Result.{IfOk-weaker}
use Rattle.cost_reports.proofs.AddedLemmas.{calls_come_to}
use Rattle.report_texts.specs.Calls.{RankedCalls, call_report_of, with_calls}
use Rattle.report_texts.specs.Functions.{function_spot}
use Rattle.prof_library.specs.Given.{calls_in, calls_of_function}
use Rattle.prof_library.proofs.calls.calls_at.Goals as goal

pub returns : goal.returns
returns c =
    let calls = calls_in c.args.rows.now in
    let f = function_spot c.args.object.now c.args.function.now in
    let come : c.add_calls.new.sums ≡ calls_of_function c.args.side f calls =
    c.in_ok-add_calls.ensures ∙ ap (λ s. fold with_calls s calls) c.new-sums.ensures ∙ calls_come_to c.args.side f calls in
    IfOk-weaker c.calls.result _ (λ (report : RankedCalls). report ≡ call_report_of (calls_of_function c.args.side f calls)) (λ report is. is ∙ ap call_report_of come) c.calls.ensures
