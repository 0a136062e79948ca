use Rattle.std.proofs.Common.{ℕ, List, Result, Ok, Err, subst, ◌∙◌}
use Rattle.report_texts.specs.Csv.{EventSpot}
use Rattle.histories.specs.declared.answers.Answer.TheVariants.{Refused}
use Rattle.requests.specs.Plain.{plain_selection}
use Rattle.requests.specs.declared.queries.Query.TheVariants.{Csv}
use Rattle.histories.specs.declared.answers.Refusal.{Refusal}
use Rattle.histories.specs.Answered.{AnswersAsked}
use Rattle.store_reports.specs.CsvRuns.{csv_given}
use Rattle.warehouse.specs.FromTables.{AnswersIn}
use Rattle.warehouse.proofs.GivenLemmas.{one_answered, sums_answered}
use Rattle.warehouse.proofs.warehouse.Warehouse.csv.Goals as goal

pub returns-in-Ok-Ok-clause-answered : goal.returns-in-Ok-Ok-clause-answered
returns-in-Ok-Ok-clause-answered g c answer is =
    let query = Csv (plain_selection c.args.selection.now) in
    let old = c.args.self.now.store in
    let new = c.csv_sums.new.store in
    sums_answered g.S.StoreState (AnswersIn query) query old new c.in-Ok-Ok.sums
    (subst (λ (given : Result (List (EventSpot × ℕ)) Refusal). AnswersAsked g.S.StoreState (AnswersIn query) query (Ok (csv_given given)) old new) c.in-Ok-Ok.field-0-is c.in-Ok-Ok.ensures) answer is c.args.self.now.limits

pub returns-in-Ok-Err-clause-answered : goal.returns-in-Ok-Err-clause-answered
returns-in-Ok-Err-clause-answered g c answer is =
    let query = Csv (plain_selection c.args.selection.now) in
    let old = c.args.self.now.store in
    let new = c.csv_sums.new.store in
    one_answered g.S.StoreState (AnswersIn query) query old new (Ok (Refused c.in-Ok-Err.refusal))
    (subst (λ (given : Result (List (EventSpot × ℕ)) Refusal). AnswersAsked g.S.StoreState (AnswersIn query) query (Ok (csv_given given)) old new) c.in-Ok-Err.field-0-is c.in-Ok-Err.ensures) answer is c.args.self.now.limits

pub returns-in-Err-clause-answered : goal.returns-in-Err-clause-answered
returns-in-Err-clause-answered g c answer is =
    let query = Csv (plain_selection c.args.selection.now) in
    one_answered g.S.StoreState (AnswersIn query) query c.args.self.now.store c.csv_sums.new.store (Err c.in-Err.failure) c.in-Err.ensures answer (is ∙ c.answer_of.ensures) c.args.self.now.limits
