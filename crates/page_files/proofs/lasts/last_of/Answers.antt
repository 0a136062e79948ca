use Rattle.std.proofs.Common.{rules, ◌≡◌, to_z-of_z, to_z, of_z, w64, arith, true, false, Some, None, sym, subst, subst₂, ◌∙◌}
use Rattle.std.proofs.lemmas.Result.{err_from_is_err_and}
use Rattle.sqlite_btree.specs.Batch.{IsBatchOf, IsFilledBack, TookLast}
use Rattle.sqlite_btree.specs.Stored.{as_row, IsLaidIn}
use Rattle.sqlite_store.proofs.Causes.{since}
use Rattle.sqlite_store.proofs.DbLemmas.{all_fit, table_reads}
use Rattle.sqlite_store.proofs.RowLemmas.{up_to_most}
use Rattle.page_files.specs.Lasts.{IsLastRowid}
use Rattle.page_files.proofs.LastRows.{last_there, none_there}
use Rattle.sqlite_btree.proofs.Results.{steps_on}
use Rattle.page_files.proofs.lasts.last_of.Goals as goal

pub returns-in_err-fill_back-clause-done : goal.returns-in_err-fill_back-clause-done
returns-in_err-fill_back-clause-done g c clean has =
    let (layout, raw, laid, table) = has in
    let p = err_from_is_err_and c.from_residual.result c.from_residual.ensures.1 in
    rw (p.1, p.2) (c.in_err-fill_back.ensures.done clean layout raw laid table)

pub returns-in_err-last_row-clause-done : goal.returns-in_err-last_row-clause-done
returns-in_err-last_row-clause-done g c clean has =
    let (layout, raw, laid, table) = has in
    let filled = c.in_ok-fill_back.ensures.done (omega (arith, clean, c.last_row.ensures.kept.clean)) layout raw laid table in
    let now = subst (IsLaidIn layout) (sym c.fill_back.ensures.pages) laid in
    let valid = subst (λ n. IsBatchOf layout n c.fill_back.new.batch) (sym c.fill_back.ensures.kept.same_size) filled.valid in
    let p = err_from_is_err_and c.from_residual-in_err-last_row.result c.from_residual-in_err-last_row.ensures.1 in
    rw (p.1, p.2) (since _ _ _ _ _ c.fill_back.ensures.kept.more_faults c.last_row.ensures.kept.more_faults (c.in_err-last_row.ensures.done clean layout now valid))

pub returns-then-branch-clause-done : goal.returns-then-branch-clause-done
returns-then-branch-clause-done g c clean has =
    let same : to_z w64 (of_z w64 c.rowid.result) ≡ c.rowid.result = search (rules, to_z-of_z) in
    let (layout, raw, laid, table) = has in
    let size = g.P.Pages.size c.args.store.now in
    let pages = g.P.Pages.pages c.args.store.now in
    let old = c.fill_back.new.batch in
    let new = c.last_row.new.batch in
    let filled = c.in_ok-fill_back.ensures.done (omega (arith, clean, c.last_row.ensures.kept.clean)) layout raw laid table in
    let all = subst (λ l. IsFilledBack as_row l layout size pages old) (up_to_most raw (all_fit table)) filled in
    let now = subst (IsLaidIn layout) (sym c.fill_back.ensures.pages) laid in
    let valid = subst (λ n. IsBatchOf layout n old) (sym c.fill_back.ensures.kept.same_size) filled.valid in
    let took = subst₂ (λ n p. TookLast layout n p old new true) c.fill_back.ensures.kept.same_size c.fill_back.ensures.pages
    (subst (TookLast layout _ _ old new) c.if-branch.true (c.in_ok-last_row.ensures.done clean layout now valid)) in
    subst₂ (λ rows id. IsLastRowid rows (Some id)) (sym (table_reads pages laid table)) (sym c.rowid.ensures ∙ sym same) (last_there layout size pages raw old new all took)

pub returns-clause-done : goal.returns-clause-done
returns-clause-done g c clean has =
    let (layout, raw, laid, table) = has in
    let size = g.P.Pages.size c.args.store.now in
    let pages = g.P.Pages.pages c.args.store.now in
    let old = c.fill_back.new.batch in
    let new = c.last_row.new.batch in
    let filled = c.in_ok-fill_back.ensures.done (omega (arith, clean, c.last_row.ensures.kept.clean)) layout raw laid table in
    let all = subst (λ l. IsFilledBack as_row l layout size pages old) (up_to_most raw (all_fit table)) filled in
    let now = subst (IsLaidIn layout) (sym c.fill_back.ensures.pages) laid in
    let valid = subst (λ n. IsBatchOf layout n old) (sym c.fill_back.ensures.kept.same_size) filled.valid in
    let took = subst₂ (λ n p. TookLast layout n p old new false) c.fill_back.ensures.kept.same_size c.fill_back.ensures.pages
    (subst (TookLast layout _ _ old new) c.if-branch.false (c.in_ok-last_row.ensures.done clean layout now valid)) in
    subst (λ rows. IsLastRowid rows None) (sym (table_reads pages laid table)) (none_there layout size pages raw old new all took)

pub returns-in_err-fill_back-clause-kept : goal.returns-in_err-fill_back-clause-kept
returns-in_err-fill_back-clause-kept g c = c.fill_back.ensures.kept

pub returns-in_err-fill_back-clause-pages : goal.returns-in_err-fill_back-clause-pages
returns-in_err-fill_back-clause-pages g c = c.fill_back.ensures.pages

pub returns-in_err-last_row-clause-kept : goal.returns-in_err-last_row-clause-kept
returns-in_err-last_row-clause-kept g c = steps_on g.met.P.Pages.follows_trans c.fill_back.ensures.kept c.last_row.ensures.kept

pub returns-in_err-last_row-clause-pages : goal.returns-in_err-last_row-clause-pages
returns-in_err-last_row-clause-pages g c = c.last_row.ensures.pages ∙ c.fill_back.ensures.pages

pub returns-then-branch-clause-kept : goal.returns-then-branch-clause-kept
returns-then-branch-clause-kept g c = steps_on g.met.P.Pages.follows_trans c.fill_back.ensures.kept c.last_row.ensures.kept

pub returns-then-branch-clause-pages : goal.returns-then-branch-clause-pages
returns-then-branch-clause-pages g c = c.last_row.ensures.pages ∙ c.fill_back.ensures.pages

pub returns-clause-kept : goal.returns-clause-kept
returns-clause-kept g c = steps_on g.met.P.Pages.follows_trans c.fill_back.ensures.kept c.last_row.ensures.kept

pub returns-clause-pages : goal.returns-clause-pages
returns-clause-pages g c = c.last_row.ensures.pages ∙ c.fill_back.ensures.pages
