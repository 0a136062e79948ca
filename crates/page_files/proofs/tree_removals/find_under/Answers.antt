use Rattle.std.proofs.Common.{is_eq, true, false, sym, ap, subst, subst₂, ◌∙◌, arith}
use Rattle.std.proofs.lemmas.Result.{err_from_is_err_and}
use Rattle.sqlite_btree.specs.Batch.{IsBatchOf, TookFirst}
use Rattle.sqlite_btree.specs.Stored.{IsLaidIn}
use Rattle.sqlite_btree.proofs.ViewLemmas.{ascends_records}
use Rattle.sqlite_record.specs.Record.{decode}
use Rattle.sqlite_store.specs.Db.{record_order}
use Rattle.sqlite_store.proofs.Causes.{since}
use Rattle.sqlite_store.proofs.OrderLemmas.{strict, probe_before_key}
use Rattle.sqlite_value.specs.Keys.{prefix_cmp}
use Rattle.page_files.proofs.Seeking.{first_is, none_left}
use Rattle.sqlite_btree.proofs.Results.{steps_on}
use Rattle.page_files.proofs.tree_removals.find_under.Goals as goal

pub returns-in_err-fill_entries-clause-done : goal.returns-in_err-fill_entries-clause-done
returns-in_err-fill_entries-clause-done g c = λ clean layout records laid index.
    let k = c.args.order in
    let p = err_from_is_err_and c.from_residual.result c.from_residual.ensures.1 in
    rw (p.1, p.2) (c.in_err-fill_entries.ensures.done clean (record_order k) layout records (strict k) (probe_before_key k c.args.prefix.now) laid index)

pub returns-in_err-next_row-clause-done : goal.returns-in_err-next_row-clause-done
returns-in_err-next_row-clause-done g c = λ clean layout records laid index.
    let k = c.args.order in
    let filled = c.in_ok-fill_entries.ensures.done (omega (arith, clean, c.next_row.ensures.kept.clean)) (record_order k) layout records (strict k) (probe_before_key k c.args.prefix.now) laid index in
    let now = subst (IsLaidIn layout) (sym c.fill_entries.ensures.pages) laid in
    let valid = subst (λ n. IsBatchOf layout n c.fill_entries.new.batch) (sym c.fill_entries.ensures.kept.same_size) filled.valid in
    let p = err_from_is_err_and c.from_residual-in_err-next_row.result c.from_residual-in_err-next_row.ensures.1 in
    rw (p.1, p.2) (since _ _ _ _ _ c.fill_entries.ensures.kept.more_faults c.next_row.ensures.kept.more_faults (c.in_err-next_row.ensures.done clean layout now valid))

pub returns-then-not-branch-clause-done : goal.returns-then-not-branch-clause-done
returns-then-not-branch-clause-done g c = λ clean layout records laid index.
    let k = c.args.order in
    let size = g.P.Pages.size c.args.store.now in
    let pages = g.P.Pages.pages c.args.store.now in
    let old = c.fill_entries.new.batch in
    let new = c.next_row.new.batch in
    let filled = c.in_ok-fill_entries.ensures.done (omega (arith, clean, c.next_row.ensures.kept.clean)) (record_order k) layout records (strict k) (probe_before_key k c.args.prefix.now) laid index in
    let now = subst (IsLaidIn layout) (sym c.fill_entries.ensures.pages) laid in
    let valid = subst (λ n. IsBatchOf layout n old) (sym c.fill_entries.ensures.kept.same_size) filled.valid in
    none_left k c.args.prefix.now layout size pages records (ascends_records index) old new filled
    (subst₂ (λ n p. TookFirst layout n p old new false) c.fill_entries.ensures.kept.same_size c.fill_entries.ensures.pages
    (subst (TookFirst layout _ _ old new) c.if-not-branch.true (c.in_ok-next_row.ensures.done clean layout now valid)))

pub returns-clause-done : goal.returns-clause-done
returns-clause-done g c = λ clean layout records laid index.
    let k = c.args.order in
    let size = g.P.Pages.size c.args.store.now in
    let pages = g.P.Pages.pages c.args.store.now in
    let old = c.fill_entries.new.batch in
    let new = c.next_row.new.batch in
    let filled = c.in_ok-fill_entries.ensures.done (omega (arith, clean, c.next_row.ensures.kept.clean)) (record_order k) layout records (strict k) (probe_before_key k c.args.prefix.now) laid index in
    let now = subst (IsLaidIn layout) (sym c.fill_entries.ensures.pages) laid in
    let valid = subst (λ n. IsBatchOf layout n old) (sym c.fill_entries.ensures.kept.same_size) filled.valid in
    first_is k c.args.prefix.now layout size pages records (ascends_records index) old new filled
    (subst₂ (λ n p. TookFirst layout n p old new true) c.fill_entries.ensures.kept.same_size c.fill_entries.ensures.pages
    (subst (TookFirst layout _ _ old new) c.if-not-branch.false (c.in_ok-next_row.ensures.done clean layout now valid)))
    c.is_eq.result (c.is_eq.ensures ∙ ap is_eq (c.with_key.ensures ∙ ap (λ b. prefix_cmp k (decode b) c.args.prefix.now) c.payload.ensures))

pub returns-in_err-fill_entries-clause-kept : goal.returns-in_err-fill_entries-clause-kept
returns-in_err-fill_entries-clause-kept g c = c.fill_entries.ensures.kept

pub returns-in_err-fill_entries-clause-pages : goal.returns-in_err-fill_entries-clause-pages
returns-in_err-fill_entries-clause-pages g c = c.fill_entries.ensures.pages

pub returns-in_err-next_row-clause-kept : goal.returns-in_err-next_row-clause-kept
returns-in_err-next_row-clause-kept g c = steps_on g.met.P.Pages.follows_trans c.fill_entries.ensures.kept c.next_row.ensures.kept

pub returns-in_err-next_row-clause-pages : goal.returns-in_err-next_row-clause-pages
returns-in_err-next_row-clause-pages g c = c.next_row.ensures.pages ∙ c.fill_entries.ensures.pages

pub returns-then-not-branch-clause-kept : goal.returns-then-not-branch-clause-kept
returns-then-not-branch-clause-kept g c = steps_on g.met.P.Pages.follows_trans c.fill_entries.ensures.kept c.next_row.ensures.kept

pub returns-then-not-branch-clause-pages : goal.returns-then-not-branch-clause-pages
returns-then-not-branch-clause-pages g c = c.next_row.ensures.pages ∙ c.fill_entries.ensures.pages

pub returns-clause-kept : goal.returns-clause-kept
returns-clause-kept g c = steps_on g.met.P.Pages.follows_trans c.fill_entries.ensures.kept c.next_row.ensures.kept

pub returns-clause-pages : goal.returns-clause-pages
returns-clause-pages g c = c.next_row.ensures.pages ∙ c.fill_entries.ensures.pages
