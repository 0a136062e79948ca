use Rattle.std.proofs.Common.{arith, ◌≡◌, [], ◌++◌, sym, subst, ◌∙◌, map}
use Rattle.std.proofs.lemmas.Bool.{true≢false}
use Rattle.std.proofs.lemmas.Result.{err_from_is_err_and, MatchResult-weaker}
use Rattle.sqlite_btree.specs.Batch.{left_in, IsBatchOf}
use Rattle.sqlite_btree.specs.Stored.{IsLaidIn}
use Rattle.sqlite_record.specs.Record.{decode}
use Rattle.sqlite_store.proofs.OrderLemmas.{strict}
use Rattle.page_rows.specs.Batches.{shown_of, HandedOn}
use Rattle.page_rows.specs.Walks.{IsBehind}
use Rattle.page_rows.proofs.EntrySteps.{walk_fails_later}
use Rattle.page_rows.proofs.IndexCuts.{left_first, took_none, took_some}
use Rattle.sqlite_store.proofs.Causes.{Continues-trans}
use Rattle.page_rows.proofs.entry_walks.walk_batch.Goals as goal

pub returns-in_err-fill_entries-clause-done : goal.returns-in_err-fill_entries-clause-done
returns-in_err-fill_entries-clause-done g c clean order probe layout records laid index = λ start all is.
    let p = err_from_is_err_and c.from_residual.result c.from_residual.ensures.1 in
    rw (p.1, p.2) (c.in_err-fill_entries.ensures.done clean _ layout records (strict order) probe laid index)

pub returns-then-is_empty-clause-done : goal.returns-then-is_empty-clause-done
returns-then-is_empty-clause-done g c clean order probe layout records laid index = λ start all is.
    let size = g.P.Pages.size c.args.store.now in
    let pages = g.P.Pages.pages c.args.store.now in
    let t = g.T.EntrySink in
    let filled = c.in_ok-fill_entries.ensures.done clean _ layout records (strict order) probe laid index in
    took_none t.Has t.Ends layout size pages (g.C.Probe.side c.args.probe.now) records c.fill_entries.new.batch c.fill_entries.new.batch filled start all c.args.sink.now is
    (c.is_empty.ensures.none c.if-is_empty.true pages)

pub returns-clause-done : goal.returns-clause-done
returns-clause-done g c clean order probe layout records laid index = λ start all is.
    let size = g.P.Pages.size c.args.store.now in
    let pages = g.P.Pages.pages c.args.store.now in
    let t = g.T.EntrySink in
    let side = g.C.Probe.side c.args.probe.now in
    let filled = c.in_ok-fill_entries.ensures.done (omega (arith, clean, c.hand_on.ensures.kept.clean)) _ layout records (strict order) probe laid index in
    let some = λ (none : left_in pages c.fill_entries.new.batch ≡ []). true≢false (sym (c.is_empty.ensures.some layout size pages filled.valid none) ∙ c.if-is_empty.false) in
    let sized = c.fill_entries.ensures.kept.same_size in
    let paged = c.fill_entries.ensures.pages in
    let here = left_first t.Has t.Ends layout size pages side records c.fill_entries.new.batch c.hand_on.new.batch filled start all c.args.sink.now is in
    let valid = subst (λ n. IsBatchOf layout n c.fill_entries.new.batch) (sym sized) filled.valid in
    let handed = c.hand_on.ensures.done clean layout (subst (IsLaidIn layout) (sym paged) laid) valid start (map decode filled.rest) all
    (subst (λ p. IsBehind t.Has start (shown_of (left_in p c.fill_entries.new.batch) ++ map decode filled.rest) c.args.sink.now all) (sym paged) here) in
    MatchResult-weaker c.hand_on.result handed
    (λ more took. took_some t.Has t.Ends layout size pages side records c.fill_entries.new.batch c.hand_on.new.batch filled start all c.args.sink.now is some c.hand_on.new.sink more
    (subst (λ p. HandedOn t.Has t.Ends start c.hand_on.new.sink all (left_in p c.fill_entries.new.batch) (map decode filled.rest) c.hand_on.new.batch more) paged took))
    (λ e cause. walk_fails_later _ _ _ _ e c.fill_entries.ensures.kept.more_faults c.hand_on.ensures.kept.more_faults cause)

pub returns-in_err-fill_entries-clause-kept : goal.returns-in_err-fill_entries-clause-kept
returns-in_err-fill_entries-clause-kept g c = c.fill_entries.ensures.kept

pub returns-in_err-fill_entries-clause-pages : goal.returns-in_err-fill_entries-clause-pages
returns-in_err-fill_entries-clause-pages g c = c.fill_entries.ensures.pages

pub returns-then-is_empty-clause-kept : goal.returns-then-is_empty-clause-kept
returns-then-is_empty-clause-kept g c = c.fill_entries.ensures.kept

pub returns-then-is_empty-clause-pages : goal.returns-then-is_empty-clause-pages
returns-then-is_empty-clause-pages g c = c.fill_entries.ensures.pages

pub returns-clause-kept : goal.returns-clause-kept
returns-clause-kept g c = Continues-trans g.P.Pages g.met.P.Pages.follows_trans c.fill_entries.ensures.kept c.hand_on.ensures.kept

pub returns-clause-pages : goal.returns-clause-pages
returns-clause-pages g c = c.hand_on.ensures.pages ∙ c.fill_entries.ensures.pages
