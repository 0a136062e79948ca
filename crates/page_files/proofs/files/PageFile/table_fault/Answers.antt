use Rattle.std.proofs.Common.{arith, ap, not, sym, subst, ◌∙◌, ◌≡◌, false, slice_index_or, true}
use Rattle.sqlite_pages.proofs.Doubt.{clean_of, no_doubt}
use Rattle.sqlite_pool.specs.Pool.{state}
use Rattle.sqlite_wal.proofs.StateLemmas.{open_from}
use Rattle.page_rows.proofs.FileTables.{table_there}
use Rattle.page_files.proofs.files.PageFile.table_fault.Goals as goal

pub returns-clause-done : goal.returns-clause-done
returns-clause-done g c faithful = λ wanted t shows.
    let now = state c.args.self.now.pool in
    let clean = no_doubt _ faithful in
    let is_open = open_from now (sym c.is_open.ensures ∙ c.if-not-is_open.false) (clean_of now.is_clean (omega (arith, clean, c.fault_under.ensures.kept.clean))) in
    c.fault_under.ensures.done clean
    (λ n there. subst (λ marks. slice_index_or marks n true ≡ false) (sym c.as_mut_slice.ensures.value) (c.in-Ok.ensures is_open n ∙ ap not there))
    (table_there shows.is_db shows.rooted)
