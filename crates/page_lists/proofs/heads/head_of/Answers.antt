use Rattle.std.proofs.Common.{◌≡◌, ◌==◌, ℕ, true, false, map, sym, subst, ◌∙◌, IsPermutation}
use Rattle.std.proofs.lemmas.Result.{err_from_is_err_and, IfOk-weaker}
use Rattle.plain_tables.specs.Tables.{EventRow, DerivedRow, CoefRow}
use Rattle.run_stores.specs.HeldHeads.{coef_of_line, event_of_line, name_of_line}
use Rattle.run_lists.specs.HeadLines.{derived_place, entry_of_coef, entry_of_event}
use Rattle.run_lists.proofs.HeadReading.{read_from_same}
use Rattle.run_lists.specs.Listed.{coef_row, derived_row, event_row}
use Rattle.page_lists.proofs.HeadLists.{kept_same}
use Rattle.page_lists.proofs.HeadTold.{head_read, head_told, run_held, run_listed}
use Rattle.page_lists.proofs.heads.head_of.Goals as goal

pub returns : goal.returns
returns c =
    let lists = c.args.lists.now in
    let run : ℕ = c.args.run in
    let events = subst (λ rows. IsPermutation rows (map entry_of_event c.in_ok-events.events.items))
    (kept_same event_row (λ (e : EventRow). e.run == run) event_of_line c.of_run.result.now lists.events c.of_run.ensures.all) c.in_ok-events.ensures.read in
    let derived = subst (λ rows. IsPermutation rows (map derived_place c.in_ok-derived.derived.items))
    (kept_same derived_row (λ (d : DerivedRow). d.run == run) name_of_line c.of_run-2.result.now lists.derived c.of_run-2.ensures.all) c.in_ok-derived.ensures.read in
    let coefs = subst (λ rows. IsPermutation rows (map entry_of_coef c.in_ok-coefs.coefs.items))
    (kept_same coef_row (λ (r : CoefRow). r.run == run) coef_of_line c.of_run-3.result.now lists.coefs c.of_run-3.ensures.all) c.in_ok-coefs.ensures.read in record {
      told = λ t listed.
          (let held = run_held t lists listed run c.deref.result.now c.deref.ensures.value (sym c.is_listed.ensures ∙ c.if-not-is_listed.false) in
          IfOk-weaker c.head_in.result _ _ (λ head read.
          head_told t lists listed run head c.in_ok-events.events.items c.in_ok-derived.derived.items c.in_ok-coefs.coefs.items held
          (read_from_same head _ _ _ _ _ _ c.deref-2.ensures.value c.deref-3.ensures.value c.deref-4.ensures.value read) events derived coefs) c.head_in.ensures.read);
      serves = λ t listed head said small.
          (let read = head_read t lists listed run head c.in_ok-events.events.items c.in_ok-derived.derived.items c.in_ok-coefs.coefs.items said events derived coefs c.in_ok-events.ensures.sorted c.in_ok-derived.ensures.sorted
          c.in_ok-coefs.ensures.sorted in
          c.head_in.ensures.serves head (read_from_same head _ _ _ _ _ _ (sym c.deref-2.ensures.value) (sym c.deref-3.ensures.value) (sym c.deref-4.ensures.value) read) small);
    }

pub returns-then-not-is_listed-clause-told : goal.returns-then-not-is_listed-clause-told
returns-then-not-is_listed-clause-told c = λ t listed. tt

pub returns-in_err-events-clause-told : goal.returns-in_err-events-clause-told
returns-in_err-events-clause-told c = λ t listed. rw (err_from_is_err_and c.from_residual.result c.from_residual.ensures.1).1 tt

pub returns-in_err-derived-clause-told : goal.returns-in_err-derived-clause-told
returns-in_err-derived-clause-told c = λ t listed. rw (err_from_is_err_and c.from_residual-in_err-derived.result c.from_residual-in_err-derived.ensures.1).1 tt

pub returns-in_err-coefs-clause-told : goal.returns-in_err-coefs-clause-told
returns-in_err-coefs-clause-told c = λ t listed. rw (err_from_is_err_and c.from_residual-in_err-coefs.result c.from_residual-in_err-coefs.ensures.1).1 tt

pub returns-then-not-is_listed-clause-serves : goal.returns-then-not-is_listed-clause-serves
returns-then-not-is_listed-clause-serves c = λ t listed head said small.
    let found = run_listed t c.args.lists.now listed c.args.run c.deref.result.now c.deref.ensures.value said.is_held in
    let never : false ≡ true = sym c.if-not-is_listed.true ∙ c.is_listed.ensures ∙ found in
    absurd cc
