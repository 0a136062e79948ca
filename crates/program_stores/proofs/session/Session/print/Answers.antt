use Rattle.std.proofs.Common.{IsTrue, [], ◌∷◌, refl, sym, subst, inr, rules}
use Rattle.warehouse.specs.Answers.{line_text, takes_memory}
use Rattle.histories.specs.declared.answers.Answer.{Answer}
use Rattle.histories.specs.declared.answers.Answer.TheVariants.{Refused}
use Rattle.histories.specs.declared.answers.Refusal.TheVariants.{Memory}
use Rattle.program_stores.specs.Sessions.{Prints}
use Rattle.program_stores.proofs.PrintedLemmas.{written_as}
use Rattle.program_stores.proofs.SessionLemmas.{wrote}
use Rattle.program_stores.proofs.session.Session.print.Goals as goal

pub returns-in-Text-clause-warehouse : goal.returns-in-Text-clause-warehouse
returns-in-Text-clause-warehouse g c = (written_as g.W.Write.contents c.write.result c.args.self.now c.in-Text.text c.write.new.out c.write.ensures.whole c.write.ensures.part).0

pub returns-in-Text-clause-status : goal.returns-in-Text-clause-status
returns-in-Text-clause-status g c = (written_as g.W.Write.contents c.write.result c.args.self.now c.in-Text.text c.write.new.out c.write.ensures.whole c.write.ensures.part).1

pub returns-in-Text-clause-printed : goal.returns-in-Text-clause-printed
returns-in-Text-clause-printed g c =
    let contents = g.W.Write.contents in
    let all = written_as contents c.write.result c.args.self.now c.in-Text.text c.write.new.out c.write.ensures.whole c.write.ensures.part in
    subst (λ (a : Answer). Prints c.write.result (a ∷ []) (contents c.args.self.now.out) (contents c.write.new.out.out)) (sym c.in-Text.is) all.2

pub returns-in-Err-clause-printed : goal.returns-in-Err-clause-printed
returns-in-Err-clause-printed g c =
    let line_needed : IsTrue (takes_memory c.args.answer.now) = search rules in
    wrote c.write_text-in-Err.result c.args.answer.now (line_text (Refused Memory)) _ _ (inr (line_needed, refl)) c.write_text-in-Err.ensures.whole c.write_text-in-Err.ensures.part
