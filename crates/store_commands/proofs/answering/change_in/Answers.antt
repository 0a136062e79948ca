use Rattle.std.proofs.Common.{inl, refl, ap, sym, subst, subst₂}
use Rattle.run_stores.proofs.Calls.{changed_none, shut_none}
use Rattle.plain_tables.specs.Labels.{IsGroupName}
use Rattle.histories.specs.Legal.{IsLegal}
use Rattle.histories.specs.declared.answers.Answer.TheVariants.{Refused}
use Rattle.histories.specs.Representation.{TablesRepresent}
use Rattle.histories.specs.Answered.{Answers, Follows}
use Rattle.histories.specs.FromTables.{WasChangedIn}
use Rattle.histories.proofs.Questions.{or_failed}
use Rattle.histories.proofs.Settled.{closes_for, settled, steps_answer, untouched}
use Rattle.store_commands.specs.Changes.{GroupsIn, command_from_change}
use Rattle.store_commands.proofs.Expectations.{change_form, unnamed_legal}
use Rattle.store_commands.proofs.answering.change_in.Goals as goal

pub returns-in-Some : goal.returns-in-Some
returns-in-Some g c = record {
  answered = λ clean.
      let limits = c.args.limits in
      let how = c.args.change in
      let name = c.in-Some.name.now in
      let command = command_from_change how name in
      let stepped = c.change_group.ensures.steps clean in
      subst (λ l. Answers g.S.StoreState limits (command_from_change how l) c.answer_of.result c.args.store.now c.change_group.new.store) c.in-Some.ensures.0
      (subst (λ a. Answers g.S.StoreState limits command a c.args.store.now c.change_group.new.store) (sym c.answer_of.ensures) (record {
        stepped = steps_answer g.S.StoreState limits command c.change_group.result _ _ stepped;
        answered = λ h has. settled g.S.StoreState limits h command c.args.store.now c.change_group.new.store has c.change_group.result (change_form how name (subst IsGroupName (sym c.in-Some.ensures.0) c.in-Some.ensures.1)) (c.change_group.ensures.answered clean h) stepped;
        closes = closes_for g.S.StoreState c.change_group.result _ _ stepped.stays;
        shut = c.change_group.ensures.shut clean;
      }));
  found = λ named.
      subst₂ (λ l a. WasChangedIn g.S.StoreState (GroupsIn c.args.limits c.args.change l) a c.args.store.now c.change_group.new.store) c.in-Some.ensures.0 (sym c.answer_of.ensures) (record {
        told = λ clean t was. or_failed _ c.change_group.result (c.change_group.ensures.told clean t was);
        made = λ clean t represents. or_failed _ c.change_group.result (c.change_group.ensures.made clean t represents);
      });
  unnamed = λ none. absurd (none c.in-Some.ensures.1);
}

pub returns-in-None : goal.returns-in-None
returns-in-None g c = record {
  answered = λ clean.
      let limits = c.args.limits in
      let how = c.args.change in
      let name = c.args.name.now in
      let command = command_from_change how name in
      record {
        stepped = changed_none g.S.StoreState TablesRepresent (Follows limits command) c.args.store.now clean;
        answered = λ h has. untouched g.S.StoreState limits h command c.args.store.now has clean (Refused c.unnamed.result) tt
            (subst (λ r. IsLegal limits h command (Refused r)) (sym c.unnamed.ensures) (unnamed_legal limits h how name has.legal c.in-None.ensures));
        closes = λ usable. inl usable;
        shut = shut_none g.S.StoreState c.args.store.now;
      };
  found = λ named. absurd (c.in-None.ensures named);
  unnamed = λ none. (ap Refused c.unnamed.ensures, refl);
}
