use Rattle.std.proofs.Common.{sym, subst}
use Rattle.histories.specs.History.{Remove}
use Rattle.histories.specs.Answered.{Answers}
use Rattle.histories.specs.FromTables.{WasChangedIn}
use Rattle.histories.proofs.Questions.{or_failed}
use Rattle.histories.proofs.Settled.{closes_for, settled, steps_answer}
use Rattle.store_commands.specs.Changes.{RemovesIn}
use Rattle.store_commands.proofs.answering.remove_in.Goals as goal

pub returns : goal.returns
returns g c = record {
  answered = λ limits clean.
      let command = Remove c.args.number in
      let stepped = c.remove.ensures.steps limits clean in
      subst (λ a. Answers g.S.StoreState limits command a c.args.store.now c.remove.new.store) (sym c.answer_of.ensures) (record {
        stepped = steps_answer g.S.StoreState limits command c.remove.result _ _ stepped;
        answered = λ h has. settled g.S.StoreState limits h command c.args.store.now c.remove.new.store has c.remove.result tt (c.remove.ensures.answered clean limits h) stepped;
        closes = closes_for g.S.StoreState c.remove.result _ _ stepped.stays;
        shut = c.remove.ensures.shut clean;
      });
  found =
      subst (λ a. WasChangedIn g.S.StoreState (RemovesIn c.args.number) a c.args.store.now c.remove.new.store) (sym c.answer_of.ensures)
      (record { told = λ clean t was. or_failed _ c.remove.result (c.remove.ensures.told clean t was); made = λ clean t represents. or_failed _ c.remove.result (c.remove.ensures.made clean t represents) });
}
