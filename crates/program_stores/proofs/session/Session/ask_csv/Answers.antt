use Rattle.std.proofs.Common.{refl, sym, subst}
use Rattle.run_stores.specs.Calls.{IsFaithful}
use Rattle.histories.specs.History.{Ask}
use Rattle.requests.specs.Plain.{plain_selection}
use Rattle.requests.specs.declared.queries.Query.TheVariants.{Csv}
use Rattle.histories.specs.Answered.{Answers}
use Rattle.program_stores.proofs.SessionLemmas.{told}
use Rattle.program_stores.proofs.session.Session.ask_csv.Goals as goal

pub returns-in-Ok-clause-answered : goal.returns-in-Ok-clause-answered
returns-in-Ok-clause-answered g c clean =
    let old = c.args.self.now in
    let new = c.write_sums.new.self in
    let same = c.write_sums.ensures.warehouse in
    let early = subst (λ w. IsFaithful g.S.StoreState w.store) same clean in
    let it = c.write_sums.ensures.told in
    let command = Ask (Csv (plain_selection c.args.selection.now)) in
    let is = c.in-Ok.ensures.answered it.0 it.1 early in
    told g.S.StoreState g.W.Write.contents command it.0 c.write_sums.result old new (subst (λ w. Answers g.S.StoreState old.warehouse.limits command it.0 old.warehouse.store w.store) (sym same) is) it.2 it.3

pub returns-in-Err-clause-answered : goal.returns-in-Err-clause-answered
returns-in-Err-clause-answered g c clean =
    let old = c.args.self.now in
    let new = c.tell.new.self in
    let same = c.tell.ensures.warehouse in
    let early = subst (λ w. IsFaithful g.S.StoreState w.store) same clean in
    let answer = c.in-Err.answer in
    let command = Ask (Csv (plain_selection c.args.selection.now)) in
    let is = c.in-Err.ensures.answered answer refl early in
    told g.S.StoreState g.W.Write.contents command answer c.tell.result old new (subst (λ w. Answers g.S.StoreState old.warehouse.limits command answer old.warehouse.store w.store) (sym same) is) c.tell.ensures.status c.tell.ensures.printed
