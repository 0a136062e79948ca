use Rattle.std.proofs.Common.{rules, arith, ◌≡◌, pos, ◌+ℤ◌, of_z, to_z, w64, to_z-of_z, [], ◌++◌, map, Ok, refl, ap, subst, sym, ◌∙◌}
use Rattle.std.proofs.lemmas.Int.{ints}
use Rattle.std.proofs.lemmas.Result.{err_from_is_err_and}
use Rattle.sqlite_pages.specs.Calls.{FailsFor}
use Rattle.sqlite_btree.specs.Cut.{from_cut}
use Rattle.sqlite_btree.specs.Stored.{as_row, by_rowid}
use Rattle.sqlite_btree.specs.Batch.{taken}
use Rattle.sqlite_store.proofs.Causes.{since, Continues-trans}
use Rattle.page_rows.specs.Places.{HasCome}
use Rattle.page_rows.proofs.Turns.{since_start, row_taken, batch_at, ended, not_back, stopped, at_greatest, gone_on, refused}
use Rattle.page_rows.proofs.walks.walk.Goals as goal

pub rows-init : goal.rows-init
rows-init g c = (
  (λ clean layout raw laid table.
      let id = to_z w64 (of_z w64 c.args.from) in (
        (
          c.new-batch.ensures.valid layout (g.P.Pages.size c.args.store.now),
          (from_cut (by_rowid id) raw, ap (λ es. map as_row es ++ from_cut (by_rowid id) raw) (sym (c.new-batch.ensures.empty (g.P.Pages.pages c.args.store.now)))),
        ),
        (λ start begun. ([], refl, begun)),
      )),
  first_of (search rules, grind (arith, g.met.P.Pages.follows_trans, g.met.P.Pages.follows_refl)),
  search rules,
)

pub returns-in_err-advance-clause-done : goal.returns-in_err-advance-clause-done
returns-in_err-advance-clause-done g c clean has = λ start begun.
    let size = g.P.Pages.size c.args.store.now in
    let pages = g.P.Pages.pages c.args.store.now in
    let t = g.T.RowSink in
    let id = to_z w64 c.rows.next-bits in
    let first = to_z w64 (of_z w64 c.args.from) in
    let (layout, raw, laid, table) = has in
    let was = c.rows.invariant.0 (omega (arith, clean, c.advance.ensures.kept.clean)) layout raw laid table in
    let p = err_from_is_err_and c.from_residual.result c.from_residual.ensures.1 in
    rw (p.1, p.2) (since _ _ _ _ _ c.rows.invariant.1.more_faults c.advance.ensures.kept.more_faults
    (since_start layout raw c.args.root id c.rows.batch (λ n p. FailsFor g.P.Pages c.rows.store c.advance.new.store ⊥ c.in_err-advance.field-0.0) size _ pages _
    c.rows.invariant.1.same_size c.rows.invariant.2 (c.in_err-advance.ensures.done clean layout raw) laid table was.0))

pub returns-then-not-branch-clause-done : goal.returns-then-not-branch-clause-done
returns-then-not-branch-clause-done g c clean has = λ start begun.
    let size = g.P.Pages.size c.args.store.now in
    let pages = g.P.Pages.pages c.args.store.now in
    let t = g.T.RowSink in
    let id = to_z w64 c.rows.next-bits in
    let first = to_z w64 (of_z w64 c.args.from) in
    let (layout, raw, laid, table) = has in
    let was = c.rows.invariant.0 (omega (arith, clean, c.advance.ensures.kept.clean)) layout raw laid table in
    let come = subst (HasCome layout size pages raw id c.advance.new.batch) c.if-not-branch.true (since_start layout raw c.args.root id c.rows.batch
    (λ n p. HasCome layout n p raw id c.advance.new.batch c.in_ok-advance.field-0) size _ pages _ c.rows.invariant.1.same_size c.rows.invariant.2
    (c.in_ok-advance.ensures.done clean layout raw) laid table was.0) in
    ended t.Has t.Ends layout size pages c.args.root raw laid table id first c.advance.new.batch c.rows.sink start (was.1 start begun)
    c.args.from (to_z-of_z c.ranges.from) come

pub returns-then-rowid-next-clause-done : goal.returns-then-rowid-next-clause-done
returns-then-rowid-next-clause-done g c clean has = λ start begun.
    let size = g.P.Pages.size c.args.store.now in
    let pages = g.P.Pages.pages c.args.store.now in
    let t = g.T.RowSink in
    let id = to_z w64 c.rows.next-bits in
    let first = to_z w64 (of_z w64 c.args.from) in
    let (layout, raw, laid, table) = has in
    let was = c.rows.invariant.0 (omega (arith, clean, c.advance.ensures.kept.clean)) layout raw laid table in
    let come = subst (HasCome layout size pages raw id c.advance.new.batch) c.if-not-branch.false (since_start layout raw c.args.root id c.rows.batch
    (λ n p. HasCome layout n p raw id c.advance.new.batch c.in_ok-advance.field-0) size _ pages _ c.rows.invariant.1.same_size c.rows.invariant.2
    (c.in_ok-advance.ensures.done clean layout raw) laid table was.0) in
    let numbered : c.rowid-rowid.result ≡ (as_row (taken c.advance.new.batch)).0 = c.rowid-rowid.ensures in
    not_back t.Has t.Ends layout size pages c.args.root raw laid table id first c.advance.new.batch c.rows.sink start (was.1 start begun)
    come (let low = c.if-rowid-next.true in omega (arith, ints, low, numbered))

pub returns-in-Ok-false-clause-done : goal.returns-in-Ok-false-clause-done
returns-in-Ok-false-clause-done g c clean has = λ start begun.
    let size = g.P.Pages.size c.args.store.now in
    let pages = g.P.Pages.pages c.args.store.now in
    let t = g.T.RowSink in
    let id = to_z w64 c.rows.next-bits in
    let first = to_z w64 (of_z w64 c.args.from) in
    let (layout, raw, laid, table) = has in
    let was = c.rows.invariant.0 (omega (arith, clean, c.advance.ensures.kept.clean)) layout raw laid table in
    let come = subst (HasCome layout size pages raw id c.advance.new.batch) c.if-not-branch.false (since_start layout raw c.args.root id c.rows.batch
    (λ n p. HasCome layout n p raw id c.advance.new.batch c.in_ok-advance.field-0) size _ pages _ c.rows.invariant.1.same_size c.rows.invariant.2
    (c.in_ok-advance.ensures.done clean layout raw) laid table was.0) in
    let named = row_taken c.advance.new.batch c.rowid-rowid.result c.payload.result.now c.rowid-rowid.ensures c.payload.ensures in
    stopped t.Has t.Ends layout size pages c.args.root raw laid table id first c.advance.new.batch c.rows.sink start (was.1 start begun)
    come _ named c.take.new.self (c.take.ensures.last (c.in-Ok-false.is ∙ ap Ok c.in-Ok-false.field-0-test) start) c.args.from (to_z-of_z c.ranges.from)

pub returns-in-Err-clause-done : goal.returns-in-Err-clause-done
returns-in-Err-clause-done g c clean has = λ start begun.
    let size = g.P.Pages.size c.args.store.now in
    let pages = g.P.Pages.pages c.args.store.now in
    let t = g.T.RowSink in
    let id = to_z w64 c.rows.next-bits in
    let first = to_z w64 (of_z w64 c.args.from) in
    let (layout, raw, laid, table) = has in
    let was = c.rows.invariant.0 (omega (arith, clean, c.advance.ensures.kept.clean)) layout raw laid table in
    let come = subst (HasCome layout size pages raw id c.advance.new.batch) c.if-not-branch.false (since_start layout raw c.args.root id c.rows.batch
    (λ n p. HasCome layout n p raw id c.advance.new.batch c.in_ok-advance.field-0) size _ pages _ c.rows.invariant.1.same_size c.rows.invariant.2
    (c.in_ok-advance.ensures.done clean layout raw) laid table was.0) in
    let named = row_taken c.advance.new.batch c.rowid-rowid.result c.payload.result.now c.rowid-rowid.ensures c.payload.ensures in
    refused t.Has t.Ends layout size pages c.args.root raw laid table id first c.advance.new.batch c.rows.sink start (was.1 start begun)
    come _ named c.args.from (to_z-of_z c.ranges.from) t.Refuses c.in-Err.refusal c.in-Err.ensures.refuses

pub returns-then-rowid-eq9223372036854775807-clause-done : goal.returns-then-rowid-eq9223372036854775807-clause-done
returns-then-rowid-eq9223372036854775807-clause-done g c clean has = λ start begun.
    let size = g.P.Pages.size c.args.store.now in
    let pages = g.P.Pages.pages c.args.store.now in
    let t = g.T.RowSink in
    let id = to_z w64 c.rows.next-bits in
    let first = to_z w64 (of_z w64 c.args.from) in
    let (layout, raw, laid, table) = has in
    let was = c.rows.invariant.0 (omega (arith, clean, c.advance.ensures.kept.clean)) layout raw laid table in
    let come = subst (HasCome layout size pages raw id c.advance.new.batch) c.if-not-branch.false (since_start layout raw c.args.root id c.rows.batch
    (λ n p. HasCome layout n p raw id c.advance.new.batch c.in_ok-advance.field-0) size _ pages _ c.rows.invariant.1.same_size c.rows.invariant.2
    (c.in_ok-advance.ensures.done clean layout raw) laid table was.0) in
    let named = row_taken c.advance.new.batch c.rowid-rowid.result c.payload.result.now c.rowid-rowid.ensures c.payload.ensures in
    let numbered : c.rowid-rowid.result ≡ (as_row (taken c.advance.new.batch)).0 = c.rowid-rowid.ensures in
    at_greatest t.Has t.Ends layout size pages c.args.root raw laid table id first c.advance.new.batch c.rows.sink start (was.1 start begun)
    come _ named c.take.new.self (c.take.ensures.more (c.in-Ok-true.is ∙ ap Ok c.in-Ok-true.field-0-test) start) c.args.from (to_z-of_z c.ranges.from) (let e = c.if-rowid-eq9223372036854775807.true in omega (arith, ints, e, numbered))

pub rows-preserved : goal.rows-preserved
rows-preserved g c = (
  (λ clean layout raw laid table.
      let size = g.P.Pages.size c.args.store.now in
      let pages = g.P.Pages.pages c.args.store.now in
      let t = g.T.RowSink in
      let id = to_z w64 c.rows.next-bits in
      let first = to_z w64 (of_z w64 c.args.from) in
      let was = c.rows.invariant.0 (omega (arith, clean, c.advance.ensures.kept.clean)) layout raw laid table in
      let come = subst (HasCome layout size pages raw id c.advance.new.batch) c.if-not-branch.false (since_start layout raw c.args.root id c.rows.batch
      (λ n p. HasCome layout n p raw id c.advance.new.batch c.in_ok-advance.field-0) size _ pages _ c.rows.invariant.1.same_size c.rows.invariant.2
      (c.in_ok-advance.ensures.done clean layout raw) laid table was.0) in
      let named = row_taken c.advance.new.batch c.rowid-rowid.result c.payload.result.now c.rowid-rowid.ensures c.payload.ensures in
      let numbered : c.rowid-rowid.result ≡ (as_row (taken c.advance.new.batch)).0 = c.rowid-rowid.ensures in
      let next_id = to_z w64 (of_z w64 (to_z w64 (of_z w64 c.rowid-rowid.result) +ℤ pos 1)) in
      let next : next_id ≡ (as_row (taken c.advance.new.batch)).0 +ℤ pos 1 = omega (arith, ints) in (
        batch_at layout size pages c.args.root raw table id c.advance.new.batch come next_id next,
        λ start begun. gone_on t.Has t.Ends layout size pages c.args.root raw laid table id first c.advance.new.batch c.rows.sink start (was.1 start begun)
            come _ named c.take.new.self (c.take.ensures.more (c.in-Ok-true.is ∙ ap Ok c.in-Ok-true.field-0-test) start) next_id next,
      )),
  Continues-trans g.P.Pages g.met.P.Pages.follows_trans c.rows.invariant.1 c.advance.ensures.kept,
  c.advance.ensures.pages ∙ c.rows.invariant.2,
)

pub returns-in_err-advance-clause-kept : goal.returns-in_err-advance-clause-kept
returns-in_err-advance-clause-kept g c = Continues-trans g.P.Pages g.met.P.Pages.follows_trans c.rows.invariant.1 c.advance.ensures.kept

pub returns-in_err-advance-clause-pages : goal.returns-in_err-advance-clause-pages
returns-in_err-advance-clause-pages g c = c.advance.ensures.pages ∙ c.rows.invariant.2

pub returns-then-not-branch-clause-kept : goal.returns-then-not-branch-clause-kept
returns-then-not-branch-clause-kept g c = Continues-trans g.P.Pages g.met.P.Pages.follows_trans c.rows.invariant.1 c.advance.ensures.kept

pub returns-then-not-branch-clause-pages : goal.returns-then-not-branch-clause-pages
returns-then-not-branch-clause-pages g c = c.advance.ensures.pages ∙ c.rows.invariant.2

pub returns-then-rowid-next-clause-kept : goal.returns-then-rowid-next-clause-kept
returns-then-rowid-next-clause-kept g c = Continues-trans g.P.Pages g.met.P.Pages.follows_trans c.rows.invariant.1 c.advance.ensures.kept

pub returns-then-rowid-next-clause-pages : goal.returns-then-rowid-next-clause-pages
returns-then-rowid-next-clause-pages g c = c.advance.ensures.pages ∙ c.rows.invariant.2

pub returns-in-Ok-false-clause-kept : goal.returns-in-Ok-false-clause-kept
returns-in-Ok-false-clause-kept g c = Continues-trans g.P.Pages g.met.P.Pages.follows_trans c.rows.invariant.1 c.advance.ensures.kept

pub returns-in-Ok-false-clause-pages : goal.returns-in-Ok-false-clause-pages
returns-in-Ok-false-clause-pages g c = c.advance.ensures.pages ∙ c.rows.invariant.2

pub returns-in-Err-clause-kept : goal.returns-in-Err-clause-kept
returns-in-Err-clause-kept g c = Continues-trans g.P.Pages g.met.P.Pages.follows_trans c.rows.invariant.1 c.advance.ensures.kept

pub returns-in-Err-clause-pages : goal.returns-in-Err-clause-pages
returns-in-Err-clause-pages g c = c.advance.ensures.pages ∙ c.rows.invariant.2

pub returns-then-rowid-eq9223372036854775807-clause-kept : goal.returns-then-rowid-eq9223372036854775807-clause-kept
returns-then-rowid-eq9223372036854775807-clause-kept g c = Continues-trans g.P.Pages g.met.P.Pages.follows_trans c.rows.invariant.1 c.advance.ensures.kept

pub returns-then-rowid-eq9223372036854775807-clause-pages : goal.returns-then-rowid-eq9223372036854775807-clause-pages
returns-then-rowid-eq9223372036854775807-clause-pages g c = c.advance.ensures.pages ∙ c.rows.invariant.2
