use Rattle.std.proofs.Common.{arith, [], refl, sym, ap₂, subst, ◌∙◌, map, is_gt}
use Rattle.std.proofs.lemmas.Bool.{true≢false}
use Rattle.std.proofs.lemmas.Result.{err_from_is_err_and}
use Rattle.sqlite_pages.specs.Calls.{FailsFor}
use Rattle.sqlite_btree.specs.Cut.{from_cut}
use Rattle.sqlite_btree.specs.Stored.{IsIndex, IsLaidIn}
use Rattle.sqlite_btree.proofs.ViewLemmas.{ascends_records}
use Rattle.sqlite_record.specs.Record.{decode}
use Rattle.sqlite_value.specs.Keys.{entry_cmp}
use Rattle.sqlite_store.specs.Db.{record_order}
use Rattle.sqlite_store.proofs.Causes.{Continues-trans}
use Rattle.sqlite_store.proofs.OrderLemmas.{probe_after, probe_at}
use Rattle.page_rows.specs.Batches.{TookBatch}
use Rattle.page_rows.specs.Indexes.{at_row, behind_record}
use Rattle.page_rows.specs.Walks.{FailsToWalk, HasWalked, MayRefuse}
use Rattle.page_rows.proofs.EntrySteps.{walk_fails_later}
use Rattle.page_rows.proofs.IndexCuts.{all_entries, HasPassed, left_behind, passed_first, passed_next, rises_next}
use Rattle.page_rows.proofs.entry_walks.walk_entries.Goals as goal

pub returns-in_err-walk_batch-clause-done : goal.returns-in_err-walk_batch-clause-done
returns-in_err-walk_batch-clause-done g c clean has = λ start begun.
    let t = g.T.EntrySink in
    let order = c.args.order in
    let from = c.args.from.now in
    let (layout, records, laid, index) = has in
    let same = all_entries order from laid index in
    let all = map decode (from_cut (at_row order from) records) in
    let p = err_from_is_err_and c.from_residual.result c.from_residual.ensures.1 in
    let fails = c.in_err-walk_batch.ensures.done clean order (probe_at order from) layout records laid index start all ([], refl, begun) in
    rw (p.1, p.2) (subst (λ rows. FailsToWalk (FailsFor g.P.Pages c.args.store.now c.walk_batch.new.store ⊥) (MayRefuse t.Refuses rows) c.in_err-walk_batch.field-0.0) same fails)

pub returns-then-not-branch-clause-done : goal.returns-then-not-branch-clause-done
returns-then-not-branch-clause-done g c clean has = λ start begun.
    let t = g.T.EntrySink in
    let order = c.args.order in
    let from = c.args.from.now in
    let (layout, records, laid, index) = has in
    let same = all_entries order from laid index in
    let all = map decode (from_cut (at_row order from) records) in
    let took = subst (TookBatch t.Has t.Ends start c.walk_batch.new.sink all (at_row order from) records c.walk_batch.new.batch) c.if-not-branch.true
    (c.in_ok-walk_batch.ensures.done clean order (probe_at order from) layout records laid index start all ([], refl, begun)) in
    subst (λ rows. HasWalked t.Has t.Ends start rows c.walk_batch.new.sink) same took

pub returns-in_err-keep-clause-done : goal.returns-in_err-keep-clause-done
returns-in_err-keep-clause-done g c clean has = λ start begun.
    let p = err_from_is_err_and c.from_residual-in_err-keep.result c.from_residual-in_err-keep.ensures.1 in
    rw (p.1, p.2, c.in_err-keep.ensures.cause) tt

pub batches-init : goal.batches-init
batches-init g c = (
  (λ clean layout records laid index start begun.
      let t = g.T.EntrySink in
      let order = c.args.order in
      let from = c.args.from.now in
      let all = map decode (from_cut (at_row order from) records) in
      let took = subst (TookBatch t.Has t.Ends start c.walk_batch.new.sink all (at_row order from) records c.walk_batch.new.batch) c.if-not-branch.false
      (c.in_ok-walk_batch.ensures.done clean order (probe_at order from) layout records laid index start all ([], refl, begun)) in
      let passed = passed_first t.Has t.Ends start records c.walk_batch.new.batch c.args.sink.now c.walk_batch.new.sink all (at_row order from) took in
      subst (λ f. HasPassed t.Has start records f c.walk_batch.new.sink all) (sym (c.in_ok-keep.ensures.copied ∙ c.payload.ensures)) passed),
  c.walk_batch.ensures.kept,
  c.walk_batch.ensures.pages,
)

pub returns-in_err-walk_batch-2-clause-done : goal.returns-in_err-walk_batch-2-clause-done
returns-in_err-walk_batch-2-clause-done g c clean has = λ start begun.
    let t = g.T.EntrySink in
    let order = c.args.order in
    let from = c.args.from.now in
    let (layout, records, laid, index) = has in
    let same = all_entries order from laid index in
    let all = map decode (from_cut (at_row order from) records) in
    let was = c.batches.invariant.0 (omega (arith, clean, c.walk_batch-in-batches.ensures.kept.clean)) layout records laid index start begun in
    let last = c.as_slice.result.now in
    let up = ascends_records index in
    let passed = subst (λ f. HasPassed t.Has start records f c.batches.sink all) (sym c.as_slice.ensures.value) was in
    let there = subst (λ n. IsIndex (record_order order) n layout c.args.root records) (sym c.batches.invariant.1.same_size) index in
    let left = left_behind t.Has t.Ends start records c.batches.batch c.batches.sink c.batches.sink all order up last passed in
    let p = err_from_is_err_and c.from_residual-in_err-walk_batch-2.result c.from_residual-in_err-walk_batch-2.ensures.1 in
    let fails = c.in_err-walk_batch-2.ensures.done clean order (probe_after order (decode last)) layout records (subst (IsLaidIn layout) (sym c.batches.invariant.2) laid) there start all left in
    let longer = walk_fails_later _ _ _ _ c.in_err-walk_batch-2.field-0.0 c.batches.invariant.1.more_faults c.walk_batch-in-batches.ensures.kept.more_faults fails in
    rw (p.1, p.2) (subst (λ rows. FailsToWalk (FailsFor g.P.Pages c.args.store.now c.walk_batch-in-batches.new.store ⊥) (MayRefuse t.Refuses rows) c.in_err-walk_batch-2.field-0.0) same longer)

pub returns-then-not-branch-2-clause-done : goal.returns-then-not-branch-2-clause-done
returns-then-not-branch-2-clause-done g c clean has = λ start begun.
    let t = g.T.EntrySink in
    let order = c.args.order in
    let from = c.args.from.now in
    let (layout, records, laid, index) = has in
    let same = all_entries order from laid index in
    let all = map decode (from_cut (at_row order from) records) in
    let was = c.batches.invariant.0 (omega (arith, clean, c.walk_batch-in-batches.ensures.kept.clean)) layout records laid index start begun in
    let last = c.as_slice.result.now in
    let up = ascends_records index in
    let passed = subst (λ f. HasPassed t.Has start records f c.batches.sink all) (sym c.as_slice.ensures.value) was in
    let there = subst (λ n. IsIndex (record_order order) n layout c.args.root records) (sym c.batches.invariant.1.same_size) index in
    let left = left_behind t.Has t.Ends start records c.batches.batch c.batches.sink c.batches.sink all order up last passed in
    let took = subst (TookBatch t.Has t.Ends start c.walk_batch-in-batches.new.sink all (behind_record order last) records c.walk_batch-in-batches.new.batch) c.if-not-branch-2.true
    (c.in_ok-walk_batch-2.ensures.done clean order (probe_after order (decode last)) layout records (subst (IsLaidIn layout) (sym c.batches.invariant.2) laid) there start all left) in
    subst (λ rows. HasWalked t.Has t.Ends start rows c.walk_batch-in-batches.new.sink) same took

pub returns-then-not-branch-2-clause-kept : goal.returns-then-not-branch-2-clause-kept
returns-then-not-branch-2-clause-kept g c = Continues-trans g.P.Pages g.met.P.Pages.follows_trans c.batches.invariant.1 c.walk_batch-in-batches.ensures.kept

pub returns-then-not-rises-clause-done : goal.returns-then-not-rises-clause-done
returns-then-not-rises-clause-done g c clean has = λ start begun.
    let t = g.T.EntrySink in
    let order = c.args.order in
    let from = c.args.from.now in
    let (layout, records, laid, index) = has in
    let same = all_entries order from laid index in
    let all = map decode (from_cut (at_row order from) records) in
    let was = c.batches.invariant.0 (omega (arith, clean, c.walk_batch-in-batches.ensures.kept.clean)) layout records laid index start begun in
    let last = c.as_slice.result.now in
    let up = ascends_records index in
    let passed = subst (λ f. HasPassed t.Has start records f c.batches.sink all) (sym c.as_slice.ensures.value) was in
    let there = subst (λ n. IsIndex (record_order order) n layout c.args.root records) (sym c.batches.invariant.1.same_size) index in
    let left = left_behind t.Has t.Ends start records c.batches.batch c.batches.sink c.batches.sink all order up last passed in
    let took = subst (TookBatch t.Has t.Ends start c.walk_batch-in-batches.new.sink all (behind_record order last) records c.walk_batch-in-batches.new.batch) c.if-not-branch-2.false
    (c.in_ok-walk_batch-2.ensures.done clean order (probe_after order (decode last)) layout records (subst (IsLaidIn layout) (sym c.batches.invariant.2) laid) there start all left) in
    let risen = rises_next t.Has t.Ends start records c.walk_batch-in-batches.new.batch c.batches.sink c.walk_batch-in-batches.new.sink all order up last passed took in
    let seen = ap₂ (λ p l. is_gt (entry_cmp order (decode p) (decode l))) c.payload-in-batches.ensures (c.as_slice-in-batches.ensures.value ∙ sym c.as_slice.ensures.value) in
    absurd (true≢false (sym (c.rises.ensures ∙ seen ∙ risen) ∙ c.if-not-rises.true))

pub returns-then-not-rises-clause-kept : goal.returns-then-not-rises-clause-kept
returns-then-not-rises-clause-kept g c = Continues-trans g.P.Pages g.met.P.Pages.follows_trans c.batches.invariant.1 c.walk_batch-in-batches.ensures.kept

pub returns-in_err-keep-2-clause-done : goal.returns-in_err-keep-2-clause-done
returns-in_err-keep-2-clause-done g c clean has = λ start begun.
    let p = err_from_is_err_and c.from_residual-in_err-keep-2.result c.from_residual-in_err-keep-2.ensures.1 in
    rw (p.1, p.2, c.in_err-keep-2.ensures.cause) tt

pub returns-in_err-keep-2-clause-kept : goal.returns-in_err-keep-2-clause-kept
returns-in_err-keep-2-clause-kept g c = Continues-trans g.P.Pages g.met.P.Pages.follows_trans c.batches.invariant.1 c.walk_batch-in-batches.ensures.kept

pub batches-preserved : goal.batches-preserved
batches-preserved g c = (
  (λ clean layout records laid index start begun.
      let t = g.T.EntrySink in
      let order = c.args.order in
      let from = c.args.from.now in
      let all = map decode (from_cut (at_row order from) records) in
      let was = c.batches.invariant.0 (omega (arith, clean, c.walk_batch-in-batches.ensures.kept.clean)) layout records laid index start begun in
      let last = c.as_slice.result.now in
      let up = ascends_records index in
      let passed = subst (λ f. HasPassed t.Has start records f c.batches.sink all) (sym c.as_slice.ensures.value) was in
      let there = subst (λ n. IsIndex (record_order order) n layout c.args.root records) (sym c.batches.invariant.1.same_size) index in
      let left = left_behind t.Has t.Ends start records c.batches.batch c.batches.sink c.batches.sink all order up last passed in
      let took = subst (TookBatch t.Has t.Ends start c.walk_batch-in-batches.new.sink all (behind_record order last) records c.walk_batch-in-batches.new.batch) c.if-not-branch-2.false
      (c.in_ok-walk_batch-2.ensures.done clean order (probe_after order (decode last)) layout records (subst (IsLaidIn layout) (sym c.batches.invariant.2) laid) there start all left) in
      let next = passed_next t.Has t.Ends start records c.walk_batch-in-batches.new.batch c.batches.sink c.walk_batch-in-batches.new.sink all order up last passed took in
      subst (λ f. HasPassed t.Has start records f c.walk_batch-in-batches.new.sink all) (sym (c.in_ok-keep-2.ensures.copied ∙ c.payload-in-batches-2.ensures)) next),
  Continues-trans g.P.Pages g.met.P.Pages.follows_trans c.batches.invariant.1 c.walk_batch-in-batches.ensures.kept,
  c.walk_batch-in-batches.ensures.pages ∙ c.batches.invariant.2,
)

pub returns-in_err-walk_batch-clause-kept : goal.returns-in_err-walk_batch-clause-kept
returns-in_err-walk_batch-clause-kept g c = c.walk_batch.ensures.kept

pub returns-in_err-walk_batch-clause-pages : goal.returns-in_err-walk_batch-clause-pages
returns-in_err-walk_batch-clause-pages g c = c.walk_batch.ensures.pages

pub returns-then-not-branch-clause-kept : goal.returns-then-not-branch-clause-kept
returns-then-not-branch-clause-kept g c = c.walk_batch.ensures.kept

pub returns-then-not-branch-clause-pages : goal.returns-then-not-branch-clause-pages
returns-then-not-branch-clause-pages g c = c.walk_batch.ensures.pages

pub returns-in_err-keep-clause-kept : goal.returns-in_err-keep-clause-kept
returns-in_err-keep-clause-kept g c = c.walk_batch.ensures.kept

pub returns-in_err-keep-clause-pages : goal.returns-in_err-keep-clause-pages
returns-in_err-keep-clause-pages g c = c.walk_batch.ensures.pages

pub returns-in_err-walk_batch-2-clause-kept : goal.returns-in_err-walk_batch-2-clause-kept
returns-in_err-walk_batch-2-clause-kept g c = Continues-trans g.P.Pages g.met.P.Pages.follows_trans c.batches.invariant.1 c.walk_batch-in-batches.ensures.kept

pub returns-in_err-walk_batch-2-clause-pages : goal.returns-in_err-walk_batch-2-clause-pages
returns-in_err-walk_batch-2-clause-pages g c = c.walk_batch-in-batches.ensures.pages ∙ c.batches.invariant.2

pub returns-then-not-branch-2-clause-pages : goal.returns-then-not-branch-2-clause-pages
returns-then-not-branch-2-clause-pages g c = c.walk_batch-in-batches.ensures.pages ∙ c.batches.invariant.2

pub returns-then-not-rises-clause-pages : goal.returns-then-not-rises-clause-pages
returns-then-not-rises-clause-pages g c = c.walk_batch-in-batches.ensures.pages ∙ c.batches.invariant.2

pub returns-in_err-keep-2-clause-pages : goal.returns-in_err-keep-2-clause-pages
returns-in_err-keep-2-clause-pages g c = c.walk_batch-in-batches.ensures.pages ∙ c.batches.invariant.2

pub returns-clause-kept : goal.returns-clause-kept
returns-clause-kept g c = c.batches.invariant.1

pub returns-clause-pages : goal.returns-clause-pages
returns-clause-pages g c = c.batches.invariant.2

pub returns-clause-done : goal.returns-clause-done
returns-clause-done g c = λ clean has start begun. tt
