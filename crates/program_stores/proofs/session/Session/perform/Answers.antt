use Rattle.std.proofs.Common.{◌≡◌, [], sym, subst}
use Rattle.run_stores.specs.Calls.{IsFaithful}
use Rattle.histories.specs.Requests.{command_read}
use Rattle.histories.specs.Formats.{today}
use Rattle.histories.specs.History.{Ask, Import}
use Rattle.requests.specs.Plain.{plain_query, plain_request}
use Rattle.requests.specs.declared.queries.Query.TheVariants.{Csv}
use Rattle.histories.proofs.RequestLemmas.{read_alike}
use Rattle.program_stores.specs.Sessions.{WasPerformed, WasTold}
use Rattle.program_stores.proofs.SessionLemmas.{none_read, told, were_read}
use Rattle.byte_io.specs.Imported.{WereRead}
use Rattle.histories.specs.Answered.{Answers}
use Rattle.program_stores.proofs.session.Session.perform.Goals as goal

pub returns-in-Ask-Csv-clause-answered : goal.returns-in-Ask-Csv-clause-answered
returns-in-Ask-Csv-clause-answered g c clean =
    let csv : c.in-Ask-Csv.field-0 ≡ Csv c.in-Ask-Csv.selection = rw c.in-Ask-Csv.is at c.in-Ask-Csv.field-0-is in
    subst (λ one. WasPerformed g.S.StoreState g.W.Write.contents (WereRead g.R.File.Read.remaining) (plain_request one) c.ask_csv.result c.args.self.now c.ask_csv.new.self) (sym c.in-Ask-Csv.is) (
      [],
      none_read g.R.File.Read.remaining,
      subst (λ query. WasTold g.S.StoreState g.W.Write.contents (Ask (plain_query query)) c.ask_csv.result c.args.self.now c.ask_csv.new.self) (sym csv) (c.ask_csv.ensures.answered clean),
    )

pub returns-in-Ask-clause-answered : goal.returns-in-Ask-clause-answered
returns-in-Ask-clause-answered g c clean =
    let old = c.args.self.now in
    let new = c.tell.new.self in
    let same = c.tell.ensures.warehouse in
    let early = subst (λ w. IsFaithful g.S.StoreState w.store) same clean in
    let command = Ask (plain_query c.in-Ask.query) in
    subst (λ one. WasPerformed g.S.StoreState g.W.Write.contents (WereRead g.R.File.Read.remaining) (plain_request one) c.tell.result old new) (sym c.in-Ask.is) (
      [],
      none_read g.R.File.Read.remaining,
      told g.S.StoreState g.W.Write.contents command c.ask-answer.result c.tell.result old new
          (subst (λ w. Answers g.S.StoreState old.warehouse.limits command c.ask-answer.result old.warehouse.store w.store) (sym same) (c.ask-answer.ensures.answered early))
          c.tell.ensures.status c.tell.ensures.printed,
    )

pub returns-in_default-clause-answered : goal.returns-in_default-clause-answered
returns-in_default-clause-answered g c clean =
    let old = c.args.self.now in
    let new = c.tell-in_default.new.self in
    let same = c.tell-in_default.ensures.warehouse in
    let early = subst (λ w. IsFaithful g.S.StoreState w.store) same clean in
    let it = c.perform-answer.ensures.answered in
    let outcomes = it.outcomes in
    let command = command_read (plain_request c.args.command.now) outcomes in (
      outcomes,
      were_read g.R.File.Read.remaining _ _ outcomes c.new-source-in_default.ensures it.came,
      told g.S.StoreState g.W.Write.contents command c.perform-answer.result c.tell-in_default.result old new
          (subst (λ w. Answers g.S.StoreState old.warehouse.limits command c.perform-answer.result old.warehouse.store w.store) (sym same)
          (subst (λ k. Answers g.S.StoreState old.warehouse.limits k c.perform-answer.result old.warehouse.store c.perform-answer.new.self.store) (read_alike c.args.command.now outcomes) (it.answers early)))
          c.tell-in_default.ensures.status c.tell-in_default.ensures.printed,
    )

pub returns-in-Import-clause-answered : goal.returns-in-Import-clause-answered
returns-in-Import-clause-answered g c clean =
    let old = c.args.self.now in
    let new = c.tell-in-Import.new.self in
    let same = c.tell-in-Import.ensures.warehouse in
    let early = subst (λ w. IsFaithful g.S.StoreState w.store) same clean in
    let it = c.import-answer.ensures.answered in
    let outcomes = it.outcomes in
    let command = Import (today c.in-Import.kind) c.in-Import.label.now outcomes in
    subst (λ one. WasPerformed g.S.StoreState g.W.Write.contents (WereRead g.R.File.Read.remaining) (plain_request one) c.tell-in-Import.result old new) (sym c.in-Import.is) (
      outcomes,
      were_read g.R.File.Read.remaining _ _ outcomes c.new-source.ensures it.came,
      told g.S.StoreState g.W.Write.contents command c.import-answer.result c.tell-in-Import.result old new
          (subst (λ w. Answers g.S.StoreState old.warehouse.limits command c.import-answer.result old.warehouse.store w.store) (sym same) (it.answers early))
          c.tell-in-Import.ensures.status c.tell-in-Import.ensures.printed,
    )
