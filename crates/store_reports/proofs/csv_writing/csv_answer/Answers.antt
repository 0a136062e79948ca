use Rattle.std.proofs.Common.{ℕ, List, Ok, subst, sym}
use Rattle.requests.specs.Plain.{plain_selection}
use Rattle.requests.specs.declared.queries.Query.TheVariants.{Csv}
use Rattle.histories.specs.declared.answers.Answer.TheVariants.{Text}
use Rattle.histories.specs.Answered.{WasAsked}
use Rattle.store_reports.specs.CsvRuns.{IsCsv}
use Rattle.store_reports.proofs.csv_writing.csv_answer.Goals as goal

pub returns-in_ok-text-in-Ok : goal.returns-in_ok-text-in-Ok
returns-in_ok-text-in-Ok g c clean =
    subst (λ (text : List ℕ). WasAsked g.S.StoreState (λ t. IsCsv t (plain_selection c.args.selection.now)) (Csv (plain_selection c.args.selection.now)) (Ok (Text text)) c.args.store.now c.csv_sums.new.store)
    (sym c.in_ok-text-in-Ok.ensures) (rw c.in-Ok.is at (c.in_ok-sums.ensures clean))
