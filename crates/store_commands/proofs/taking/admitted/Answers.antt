use Rattle.std.proofs.Common.{true, false, Some, None, Ok, Err, refl, sym, ap₂, subst, subst₂, ◌∙◌}
use Rattle.run_stores.proofs.Calls.{asked_err, asked_reads, asked_refused, asked_then}
use Rattle.run_stores.specs.Lookups.{IsRunOf}
use Rattle.cost_rows.specs.Rows.{content_of}
use Rattle.histories.specs.declared.answers.Answer.TheVariants.{Refused}
use Rattle.histories.specs.declared.answers.Refusal.TheVariants.{File}
use Rattle.store_commands.specs.FromTables.{AnswersUnchanged, IsNumber}
use Rattle.std.proofs.lemmas.Result.{IfOk-from_err}
use Rattle.store_commands.proofs.taking.admitted.Goals as goal

pub returns-in_err-number-clause-told : goal.returns-in_err-number-clause-told
returns-in_err-number-clause-told g c = λ clean t reads. IfOk-from_err c.from_residual.result _ c.from_residual.ensures.0

pub returns-in-Some-clause-told : goal.returns-in-Some-clause-told
returns-in-Some-clause-told g c clean t reads = record {
  found = Some c.in-Some.number;
  is_found = subst (IsRunOf c.args.parsed.now.digest t) c.in-Some.is (c.in_ok-number.ensures.told clean t reads);
  unchanged = refl;
}

pub returns-in_err-file-in-Ok-clause-told : goal.returns-in_err-file-in-Ok-clause-told
returns-in_err-file-in-Ok-clause-told g c = λ clean t reads. IfOk-from_err c.from_residual-in_err-file-in-Ok.result _ c.from_residual-in_err-file-in-Ok.ensures.0

pub returns-in-Ok-Ok-clause-told : goal.returns-in-Ok-Ok-clause-told
returns-in-Ok-Ok-clause-told g c clean t reads =
    let early = (c.in-Ok-Ok.ensures.asks clean).stays.was_faithful in
    let file = c.in_ok-file-in-Ok.file in
    let same = c.in_ok-file-in-Ok.ensures in
    record {
      is_new = subst (IsRunOf c.args.parsed.now.digest t) c.in_default.is (c.in_ok-number.ensures.told early t reads);
      file_is = c.in-Ok.is ∙ ap₂ (λ head rows. Ok (head, rows)) (sym same.0) (sym same.1);
      is_number = subst (IsNumber c.args.limits file.head.now (content_of file.rows.now) t) c.in-Ok-Ok.field-0-is (c.in-Ok-Ok.ensures.told clean t (asked_reads g.S.StoreState t _ _ (c.in_ok-number.ensures.asks early) reads));
    }

pub returns-in-Ok-Err-clause-told : goal.returns-in-Ok-Err-clause-told
returns-in-Ok-Err-clause-told g c clean t reads =
    let early = (c.in-Ok-Err.ensures.asks clean).stays.was_faithful in
    let file = c.in_ok-file-in-Ok.file in
    let same = c.in_ok-file-in-Ok.ensures in
    let refusal = c.in-Ok-Err.refusal in
    let numbers = subst (IsNumber c.args.limits file.head.now (content_of file.rows.now) t) c.in-Ok-Err.field-0-is (c.in-Ok-Err.ensures.told clean t (asked_reads g.S.StoreState t _ _ (c.in_ok-number.ensures.asks early) reads)) in
    record {
      found = None;
      is_found = subst (IsRunOf c.args.parsed.now.digest t) c.in_default.is (c.in_ok-number.ensures.told early t reads);
      unchanged = subst (λ f. AnswersUnchanged c.args.limits t None f (Refused refusal)) (sym c.in-Ok.is)
          (refusal, subst₂ (λ head rows. IsNumber c.args.limits head (content_of rows) t (Err refusal)) same.0 same.1 numbers, refl);
    }

pub returns-in-Err-clause-told : goal.returns-in-Err-clause-told
returns-in-Err-clause-told g c clean t reads = record {
  found = None;
  is_found = subst (IsRunOf c.args.parsed.now.digest t) c.in_default.is (c.in_ok-number.ensures.told clean t reads);
  unchanged = subst (λ f. AnswersUnchanged c.args.limits t None f (Refused (File c.in-Err.fault c.in-Err.line))) (sym c.in-Err.is) refl;
}

pub returns-in_err-number-clause-asks : goal.returns-in_err-number-clause-asks
returns-in_err-number-clause-asks g c clean = asked_err g.S.StoreState c.from_residual.result _ _ c.from_residual.ensures.0 (c.in_err-number.ensures.asks clean)

pub returns-in-Some-clause-asks : goal.returns-in-Some-clause-asks
returns-in-Some-clause-asks g c = c.in_ok-number.ensures.asks

pub returns-in_err-file-in-Ok-clause-asks : goal.returns-in_err-file-in-Ok-clause-asks
returns-in_err-file-in-Ok-clause-asks g c clean =
    asked_err g.S.StoreState c.from_residual-in_err-file-in-Ok.result _ _ c.from_residual-in_err-file-in-Ok.ensures.0 (asked_refused g.S.StoreState true _ _ (c.in_ok-number.ensures.asks clean))

pub returns-in-Ok-Ok-clause-asks : goal.returns-in-Ok-Ok-clause-asks
returns-in-Ok-Ok-clause-asks g c clean =
    let last = c.in-Ok-Ok.ensures.asks clean in
    asked_then g.S.StoreState true _ _ _ (c.in_ok-number.ensures.asks last.stays.was_faithful) last

pub returns-in-Ok-Err-clause-asks : goal.returns-in-Ok-Err-clause-asks
returns-in-Ok-Err-clause-asks g c clean =
    let last = c.in-Ok-Err.ensures.asks clean in
    asked_then g.S.StoreState true _ _ _ (c.in_ok-number.ensures.asks last.stays.was_faithful) last

pub returns-in-Err-number_for-clause-asks : goal.returns-in-Err-number_for-clause-asks
returns-in-Err-number_for-clause-asks g c clean =
    let last = c.in-Err-number_for.ensures.asks clean in
    asked_then g.S.StoreState false _ _ _ (c.in_ok-number.ensures.asks last.stays.was_faithful) last

pub returns-in-Err-clause-asks : goal.returns-in-Err-clause-asks
returns-in-Err-clause-asks g c = c.in_ok-number.ensures.asks
