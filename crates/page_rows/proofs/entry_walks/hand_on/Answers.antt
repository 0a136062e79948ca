use Rattle.std.proofs.Common.{arith, Ok, ap, subst, ◌∙◌}
use Rattle.std.proofs.lemmas.Result.{err_from_is_err_and}
use Rattle.sqlite_pages.specs.Calls.{FailsFor}
use Rattle.sqlite_btree.specs.Batch.{TookFirst}
use Rattle.sqlite_store.proofs.Causes.{since, Continues-trans}
use Rattle.page_rows.proofs.EntrySteps.{since_first, handed_all, handed_last, handed_none, amid_next}
use Rattle.page_rows.proofs.entry_walks.hand_on.Goals as goal

pub returns-in_err-next_row-clause-done : goal.returns-in_err-next_row-clause-done
returns-in_err-next_row-clause-done g c clean layout laid valid = λ start rest all is.
    let size = g.P.Pages.size c.args.store.now in
    let pages = g.P.Pages.pages c.args.store.now in
    let t = g.T.EntrySink in
    let amid = c.entries.invariant.0 (omega (arith, clean, c.next_row.ensures.kept.clean)) layout laid valid in
    let p = err_from_is_err_and c.from_residual.result c.from_residual.ensures.1 in
    rw (p.1, p.2) (since _ _ _ _ _ c.entries.invariant.1.more_faults c.next_row.ensures.kept.more_faults
    (since_first layout c.entries.batch (λ n p. FailsFor g.P.Pages c.entries.store c.next_row.new.store ⊥ c.in_err-next_row.field-0.0) size _ pages _
    c.entries.invariant.1.same_size c.entries.invariant.2 (c.in_err-next_row.ensures.done clean layout) laid amid.valid))

pub returns-then-not-branch-clause-done : goal.returns-then-not-branch-clause-done
returns-then-not-branch-clause-done g c clean layout laid valid = λ start rest all is.
    let size = g.P.Pages.size c.args.store.now in
    let pages = g.P.Pages.pages c.args.store.now in
    let t = g.T.EntrySink in
    let amid = c.entries.invariant.0 (omega (arith, clean, c.next_row.ensures.kept.clean)) layout laid valid in
    let took = subst (TookFirst layout size pages c.entries.batch c.next_row.new.batch) c.if-not-branch.true (since_first layout c.entries.batch
    (λ n p. TookFirst layout n p c.entries.batch c.next_row.new.batch c.in_ok-next_row.field-0) size _ pages _ c.entries.invariant.1.same_size c.entries.invariant.2
    (c.in_ok-next_row.ensures.done clean layout) laid amid.valid) in
    handed_all t.Has t.Ends layout size pages c.args.batch.now c.entries.batch c.next_row.new.batch c.args.sink.now c.entries.sink amid took start rest all is

pub returns-in-Ok-false-clause-done : goal.returns-in-Ok-false-clause-done
returns-in-Ok-false-clause-done g c clean layout laid valid = λ start rest all is.
    let size = g.P.Pages.size c.args.store.now in
    let pages = g.P.Pages.pages c.args.store.now in
    let t = g.T.EntrySink in
    let amid = c.entries.invariant.0 (omega (arith, clean, c.next_row.ensures.kept.clean)) layout laid valid in
    let took = subst (TookFirst layout size pages c.entries.batch c.next_row.new.batch) c.if-not-branch.false (since_first layout c.entries.batch
    (λ n p. TookFirst layout n p c.entries.batch c.next_row.new.batch c.in_ok-next_row.field-0) size _ pages _ c.entries.invariant.1.same_size c.entries.invariant.2
    (c.in_ok-next_row.ensures.done clean layout) laid amid.valid) in
    handed_last t.Has t.Ends layout size pages c.args.batch.now c.entries.batch c.next_row.new.batch c.args.sink.now c.entries.sink amid took c.payload.result.now c.payload.ensures
    start rest all is c.take.new.self (c.take.ensures.last (c.in-Ok-false.is ∙ ap Ok c.in-Ok-false.field-0-test) start)

pub returns-in-Err-clause-done : goal.returns-in-Err-clause-done
returns-in-Err-clause-done g c clean layout laid valid = λ start rest all is.
    let size = g.P.Pages.size c.args.store.now in
    let pages = g.P.Pages.pages c.args.store.now in
    let t = g.T.EntrySink in
    let amid = c.entries.invariant.0 (omega (arith, clean, c.next_row.ensures.kept.clean)) layout laid valid in
    let took = subst (TookFirst layout size pages c.entries.batch c.next_row.new.batch) c.if-not-branch.false (since_first layout c.entries.batch
    (λ n p. TookFirst layout n p c.entries.batch c.next_row.new.batch c.in_ok-next_row.field-0) size _ pages _ c.entries.invariant.1.same_size c.entries.invariant.2
    (c.in_ok-next_row.ensures.done clean layout) laid amid.valid) in
    handed_none t.Has t.Ends layout size pages c.args.batch.now c.entries.batch c.next_row.new.batch c.args.sink.now c.entries.sink amid took c.payload.result.now c.payload.ensures
    start rest all is t.Refuses c.in-Err.refusal c.in-Err.ensures.refuses

pub entries-preserved : goal.entries-preserved
entries-preserved g c = (
  (λ clean layout laid valid.
      let size = g.P.Pages.size c.args.store.now in
      let pages = g.P.Pages.pages c.args.store.now in
      let t = g.T.EntrySink in
      let amid = c.entries.invariant.0 (omega (arith, clean, c.next_row.ensures.kept.clean)) layout laid valid in
      let took = subst (TookFirst layout size pages c.entries.batch c.next_row.new.batch) c.if-not-branch.false (since_first layout c.entries.batch
      (λ n p. TookFirst layout n p c.entries.batch c.next_row.new.batch c.in_ok-next_row.field-0) size _ pages _ c.entries.invariant.1.same_size c.entries.invariant.2
      (c.in_ok-next_row.ensures.done clean layout) laid amid.valid) in
      amid_next t.Has t.Ends layout size pages c.args.batch.now c.entries.batch c.next_row.new.batch c.args.sink.now c.entries.sink amid took c.payload.result.now c.payload.ensures
      c.take.new.self (c.take.ensures.more (c.in-Ok-true.is ∙ ap Ok c.in-Ok-true.field-0-test))),
  Continues-trans g.P.Pages g.met.P.Pages.follows_trans c.entries.invariant.1 c.next_row.ensures.kept,
  c.next_row.ensures.pages ∙ c.entries.invariant.2,
)

pub returns-in_err-next_row-clause-kept : goal.returns-in_err-next_row-clause-kept
returns-in_err-next_row-clause-kept g c = Continues-trans g.P.Pages g.met.P.Pages.follows_trans c.entries.invariant.1 c.next_row.ensures.kept

pub returns-in_err-next_row-clause-pages : goal.returns-in_err-next_row-clause-pages
returns-in_err-next_row-clause-pages g c = c.next_row.ensures.pages ∙ c.entries.invariant.2

pub returns-then-not-branch-clause-kept : goal.returns-then-not-branch-clause-kept
returns-then-not-branch-clause-kept g c = Continues-trans g.P.Pages g.met.P.Pages.follows_trans c.entries.invariant.1 c.next_row.ensures.kept

pub returns-then-not-branch-clause-pages : goal.returns-then-not-branch-clause-pages
returns-then-not-branch-clause-pages g c = c.next_row.ensures.pages ∙ c.entries.invariant.2

pub returns-in-Ok-false-clause-kept : goal.returns-in-Ok-false-clause-kept
returns-in-Ok-false-clause-kept g c = Continues-trans g.P.Pages g.met.P.Pages.follows_trans c.entries.invariant.1 c.next_row.ensures.kept

pub returns-in-Ok-false-clause-pages : goal.returns-in-Ok-false-clause-pages
returns-in-Ok-false-clause-pages g c = c.next_row.ensures.pages ∙ c.entries.invariant.2

pub returns-in-Err-clause-kept : goal.returns-in-Err-clause-kept
returns-in-Err-clause-kept g c = Continues-trans g.P.Pages g.met.P.Pages.follows_trans c.entries.invariant.1 c.next_row.ensures.kept

pub returns-in-Err-clause-pages : goal.returns-in-Err-clause-pages
returns-in-Err-clause-pages g c = c.next_row.ensures.pages ∙ c.entries.invariant.2

pub returns-clause-kept : goal.returns-clause-kept
returns-clause-kept g c = c.entries.invariant.1

pub returns-clause-pages : goal.returns-clause-pages
returns-clause-pages g c = c.entries.invariant.2

pub returns-clause-done : goal.returns-clause-done
returns-clause-done g c = λ clean layout laid valid start rest all is. tt
