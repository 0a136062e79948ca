use Rattle.std.proofs.Common.{◌≡◌, inl, inr, refl, sym, subst, subst₂, ◌∙◌}
use Rattle.byte_io.specs.Outcomes.{bytes_of}
use Rattle.histories.specs.History.{Annotate}
use Rattle.histories.specs.Legal.{expected_of_query, most_of_source}
use Rattle.requests.specs.Plain.{plain_selection}
use Rattle.requests.specs.declared.queries.Query.TheVariants as queries
use Rattle.histories.proofs.ReadsExpected.{ended_expected}
use Rattle.histories.specs.Answered.{Answers, WasAsked}
use Rattle.histories.specs.FromTables.{OrFailed}
use Rattle.histories.proofs.Questions.{answered_as, or_failed}
use Rattle.store_reports.specs.Annotated.{IsAnnotated}
use Rattle.warehouse.specs.Answered.{IsShort}
use Rattle.warehouse.proofs.GivenLemmas.{kept_asked, short_for}
use Rattle.warehouse.proofs.Unread.{unread_answered, unread_short}
use Rattle.warehouse.proofs.answering.annotate_in.Goals as goal

pub returns-in-Ok : goal.returns-in-Ok
returns-in-Ok g c = record {
  answered = λ limits.
      let read = c.in-Ok.ensures in
      let bytes = bytes_of read.outcomes in
      let ended = read.read.0 in
      let s = plain_selection c.args.selection.now in
      let event = c.args.event.now in
      let file = c.args.file.now in
      let kept = c.keep_short.result in
      let command = Annotate s event file read.outcomes in
      let query = queries.Annotate s event file bytes in
      let text : c.deref.result.now ≡ bytes = c.deref.ensures.value ∙ read.read.1 in
      record {
        outcomes = read.outcomes;
        came = read.came;
        answers = λ clean.
            let asked = subst (λ x. WasAsked g.S.StoreState (λ t. IsAnnotated t s event file x) (queries.Annotate s event file x) kept c.args.store.now c.annotate_answer-answered.new.store)
            text (kept_asked g.S.StoreState (λ t. IsAnnotated t s event file c.deref.result.now) (queries.Annotate s event file c.deref.result.now) c.args.store.now c.annotate_answer-answered.new.store c.annotate_answer-answered.result kept c.keep_short.ensures.kept c.annotate_answer-answered.ensures clean) in
            subst (λ a. Answers g.S.StoreState limits command a c.args.store.now c.annotate_answer-answered.new.store) (sym c.answer_of.ensures)
            (answered_as g.S.StoreState limits (λ t. IsAnnotated t s event file bytes) query command tt (λ h. ended_expected most_of_source read.outcomes (expected_of_query h query) ended.reads.within ended.reads.unfailed ended.ended)
            c.args.store.now c.annotate_answer-answered.new.store kept asked);
      };
  found =
      let read = c.in-Ok.ensures in
      let s = plain_selection c.args.selection.now in
      let event = c.args.event.now in
      let file = c.args.file.now in
      let text : c.deref.result.now ≡ bytes_of read.outcomes = c.deref.ensures.value ∙ read.read.1 in
      record {
        outcomes = read.outcomes;
        came = read.came;
        answered = inr (
          read.read.0,
          λ clean t was. subst₂ (λ x a. OrFailed (IsAnnotated t s event file x) a) text (sym c.answer_of.ensures)
              (or_failed (IsAnnotated t s event file c.deref.result.now) c.keep_short.result
              ((kept_asked g.S.StoreState (λ t. IsAnnotated t s event file c.deref.result.now) (queries.Annotate s event file c.deref.result.now) c.args.store.now c.annotate_answer-answered.new.store c.annotate_answer-answered.result c.keep_short.result c.keep_short.ensures.kept c.annotate_answer-answered.ensures clean).told t was)),
        );
      };
  short = subst (IsShort c.args.most) (sym c.answer_of.ensures) (short_for c.args.most c.keep_short.result c.keep_short.ensures.short);
}

pub returns-in-Err : goal.returns-in-Err
returns-in-Err g c = record {
  answered = λ limits.
      let read = c.in-Err.ensures in
      let s = plain_selection c.args.selection.now in
      let event = c.args.event.now in
      let file = c.args.file.now in
      let command = Annotate s event file read.outcomes in
      record {
        outcomes = read.outcomes;
        came = read.came;
        answers = λ clean. subst (λ a. Answers g.S.StoreState limits command a c.args.store.now c.args.store.now) (sym c.unread_answer.ensures)
            (unread_answered limits command tt most_of_source read.outcomes (λ h. expected_of_query h (queries.Annotate s event file (bytes_of read.outcomes))) (λ h. refl) g.S.StoreState c.args.store.now clean c.in-Err.unread read.read);
      };
  found =
      let read = c.in-Err.ensures in
      record {
        outcomes = read.outcomes;
        came = read.came;
        answered = inl (c.in-Err.unread, read.read, c.unread_answer.ensures);
      };
  short = subst (IsShort c.args.most) (sym c.unread_answer.ensures) (unread_short c.args.most c.in-Err.unread);
}
