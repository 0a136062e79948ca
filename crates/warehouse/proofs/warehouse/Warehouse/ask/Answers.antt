use Rattle.std.proofs.Common.{refl, sym, subst}
use Rattle.requests.specs.Plain.{plain_query}
use Rattle.histories.specs.History.{Ask}
use Rattle.histories.specs.Answered.{Answers}
use Rattle.histories.specs.FromTables.{OrFailed}
use Rattle.histories.proofs.Questions.{or_failed, question_answered}
use Rattle.warehouse.specs.Answered.{IsShort}
use Rattle.warehouse.specs.FromTables.{AnswersIn}
use Rattle.warehouse.proofs.GivenLemmas.{kept_asked, short_for}
use Rattle.warehouse.proofs.warehouse.Warehouse.ask.Goals as goal

pub returns : goal.returns
returns g c =
    let query = plain_query c.args.query.now in
    let limits = c.args.self.now.limits in
    let kept = c.keep_short.result in
    let asked = kept_asked g.S.StoreState (AnswersIn query) query c.args.self.now.store c.answer-answered.new.store c.answer-answered.result kept c.keep_short.ensures.kept c.answer-answered.ensures in
    record {
      limits = refl {a = limits};
      answered = λ clean.
          subst (λ a. Answers g.S.StoreState limits (Ask query) a c.args.self.now.store c.answer-answered.new.store) (sym c.answer_of.ensures)
          (question_answered g.S.StoreState limits (AnswersIn query) query c.args.self.now.store c.answer-answered.new.store kept (asked clean));
      found = λ clean t represents. subst (OrFailed (AnswersIn query t)) (sym c.answer_of.ensures) (or_failed (AnswersIn query t) kept ((asked clean).told t represents));
      short = subst (IsShort c.args.self.now.most) (sym c.answer_of.ensures) (short_for c.args.self.now.most kept c.keep_short.ensures.short);
    }
