use Rattle.std.proofs.Common.{subst}
use Rattle.std.proofs.lemmas.Result.{err_from_is_err_and}
use Rattle.sqlite_pages.proofs.Doubt.{no_doubt}
use Rattle.page_rows.specs.Indexes.{from_entry}
use Rattle.page_rows.specs.Walks.{HasWalked, FailsToWalk, MayRefuse}
use Rattle.page_rows.proofs.FileIndexes.{index_there, index_shown}
use Rattle.page_files.specs.Files.{FailsToRead}
use Rattle.page_files.proofs.files.PageFile.walk_entries.Goals as goal

pub returns-in_err-walk_entries-clause-done : goal.returns-in_err-walk_entries-clause-done
returns-in_err-walk_entries-clause-done g c faithful = λ wanted t shows start begun.
    let s = g.T.EntrySink in
    let p = err_from_is_err_and c.from_residual.result c.from_residual.ensures.1 in
    let here = index_there shows.is_db shows.rooted in
    rw (p.1, p.2) (subst (λ entries. FailsToWalk (FailsToRead c.args.self.now (record { pool = c.walk_entries.new.store; scratch = c.args.self.now.scratch }))
    (MayRefuse s.Refuses (from_entry c.args.order c.args.from.now entries)) c.in_err-walk_entries.field-0.0)
    (index_shown shows.is_db shows.rooted) (c.in_err-walk_entries.ensures.done (no_doubt _ faithful) here start begun))

pub returns-clause-done : goal.returns-clause-done
returns-clause-done g c faithful = λ wanted t shows start begun.
    let s = g.T.EntrySink in
    subst (λ entries. HasWalked s.Has s.Ends start (from_entry c.args.order c.args.from.now entries) c.walk_entries.new.sink) (index_shown shows.is_db shows.rooted)
    (c.in_ok-walk_entries.ensures.done (no_doubt _ faithful) (index_there shows.is_db shows.rooted) start begun)
