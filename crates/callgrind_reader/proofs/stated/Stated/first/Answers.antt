use Rattle.std.proofs.Common.{sym, ◌∙◌}
use Rattle.std.proofs.lemmas.Result.{IfOk-weaker}
use Rattle.callgrind_reader.proofs.TotalsLemmas.{stated_totals, stated_summary}
use Rattle.callgrind_reader.proofs.stated.Stated.first.Goals as goal

pub returns-in-Some : goal.returns-in-Some
returns-in-Some c = λ back is.
    stated_totals c.args.self.now.totals c.args.self.now.summary c.args.count c.requires back is c.in-Some.totals (sym c.in-Some.is ∙ c.in_ok-totals.ensures)

pub returns : goal.returns
returns c =
    IfOk-weaker c.first-2.result _ _
    (λ t found. λ back is. stated_summary c.args.self.now.totals c.args.self.now.summary c.args.count c.requires back is t (sym c.in_default.is ∙ c.in_ok-totals.ensures) found)
    c.first-2.ensures
