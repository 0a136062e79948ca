use Rattle.std.proofs.Common.{arith, sym, subst, subst₂, ◌∙◌, to_z-of_z}
use Rattle.std.proofs.Math.Path.{subst₃}
use Rattle.std.proofs.lemmas.Result.{err_from_is_err_and, MatchResult-weaker}
use Rattle.sqlite_btree.specs.Cut.{from_cut}
use Rattle.sqlite_btree.specs.Stored.{as_row, by_rowid, IsTable, IsLaidIn}
use Rattle.sqlite_btree.specs.Batch.{IsBatchOf, IsFilled, TookFirst}
use Rattle.sqlite_store.proofs.Causes.{since}
use Rattle.page_rows.proofs.Steps.{come_within, come_anew}
use Rattle.page_rows.proofs.walks.advance.Goals as goal

pub returns-in_err-next_row-clause-done : goal.returns-in_err-next_row-clause-done
returns-in_err-next_row-clause-done g c clean = λ layout raw laid table at.
    let p = err_from_is_err_and c.from_residual.result c.from_residual.ensures.1 in
    rw (p.1, p.2) (c.in_err-next_row.ensures.done clean layout laid at.0)

pub returns-then-branch-clause-done : goal.returns-then-branch-clause-done
returns-then-branch-clause-done g c clean = λ layout raw laid table at.
    let size = g.P.Pages.size c.args.store.now in
    let pages = g.P.Pages.pages c.args.store.now in
    come_within layout size pages raw c.args.from c.args.batch.now c.next_row.new.batch at
    (subst (TookFirst layout size pages c.args.batch.now c.next_row.new.batch) c.if-branch.true (c.in_ok-next_row.ensures.done clean layout laid at.0))

pub returns-in_err-fill-clause-done : goal.returns-in_err-fill-clause-done
returns-in_err-fill-clause-done g c clean = λ layout raw laid table at.
    let p = err_from_is_err_and c.from_residual-in_err-fill.result c.from_residual-in_err-fill.ensures.1 in
    let now = subst (IsLaidIn layout) (sym c.next_row.ensures.pages) laid in
    let there = subst (λ n. IsTable n layout c.args.root raw) (sym c.next_row.ensures.kept.same_size) table in
    rw (p.1, p.2) (since _ _ _ _ _ c.next_row.ensures.kept.more_faults c.fill.ensures.kept.more_faults (c.in_err-fill.ensures.done clean layout raw now there))

pub returns-clause-done : goal.returns-clause-done
returns-clause-done g c clean = λ layout raw laid table at.
    let size = g.P.Pages.size c.args.store.now in
    let pages = g.P.Pages.pages c.args.store.now in
    let sized = c.next_row.ensures.kept.same_size in
    let paged = c.next_row.ensures.pages in
    let old = c.fill.new.batch in
    let new = c.next_row-2.new.batch in
    let filled = subst₃ (λ n p id. IsFilled as_row (from_cut (by_rowid id) raw) layout n p old) sized paged (to_z-of_z c.ranges.from)
    (c.in_ok-fill.ensures.done (omega (arith, clean, c.next_row-2.ensures.kept.clean)) layout raw (subst (IsLaidIn layout) (sym paged) laid)
    (subst (λ n. IsTable n layout c.args.root raw) (sym sized) table)) in
    let sized2 = c.fill.ensures.kept.same_size ∙ sized in
    let paged2 = c.fill.ensures.pages ∙ paged in
    let took = c.next_row-2.ensures.done clean layout (subst (IsLaidIn layout) (sym paged2) laid) (subst (λ n. IsBatchOf layout n old) (sym sized2) filled.valid) in
    MatchResult-weaker c.next_row-2.result took
    (λ more took. come_anew layout size pages raw c.args.from old new filled more (subst₂ (λ n p. TookFirst layout n p old new more) sized2 paged2 took))
    (λ e cause. since _ _ _ _ _ (omega (arith, c.next_row.ensures.kept.more_faults, c.fill.ensures.kept.more_faults)) c.next_row-2.ensures.kept.more_faults cause)
