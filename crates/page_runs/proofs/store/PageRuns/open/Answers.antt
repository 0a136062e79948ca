use Rattle.std.proofs.Common.{sym, subst, subst₂}
use Rattle.sqlite_pool.specs.StoredLaws.{AddsNothing-trans}
use Rattle.sqlite_wal.specs.Files.{outcomes, seen_image}
use Rattle.sqlite_pool.specs.Stored.{AddsNothing}
use Rattle.page_files.specs.Files.{page_size, may_leave}
use Rattle.page_files.proofs.Reading.{rests_after}
use Rattle.page_files.specs.Held.{Has}
use Rattle.sqlite_pool.specs.Stored.{Recovers}
use Rattle.page_places.proofs.Rooting.{store_resting}
use Rattle.page_runs.specs.declared.store.PageRuns.{PageRuns}
use Rattle.prof_store.proofs.Told.{held_said, said}
use Rattle.page_runs.proofs.Taken.{reads_as, represents_as}
use Rattle.std.proofs.lemmas.Result.{IfOk-from_err}
use Rattle.page_lists.specs.Sizes.{IsSizeOf}
use Rattle.page_lists.specs.Entries.{AreOpened}
use Rattle.page_rows.specs.Rows.{HasTable, rows_of}
use Rattle.page_runs.proofs.store.PageRuns.open.Goals as goal

pub returns-clause-represents : goal.returns-clause-represents
returns-clause-represents g c = λ faithful t is.
    let reads = c.in_ok-file.ensures.reads in
    let size = reads.keeps.stays.size in
    let opened = c.in_ok-opened.opened in
    let store : PageRuns g.row.D.Denot g.D.Disk =
    record { file = c.in_ok-file.file; alloc = c.args.alloc; roots = c.in_ok-file.roots; lists = c.in_ok-file.lists; is_alone = c.in_ok-file.is_alone; hints = c.new.result; kept_cells = c.new-2.result } in
    let has : Has (page_size opened) is.at.wanted is.db is.at.pages = subst (λ n. Has n is.at.wanted is.db is.at.pages) size (record { ours = is.at.ours; reads = is.at.reads }) in
    let rests = c.in_ok-opened.ensures.rests (reads.keeps.stays.clean faithful) is.at.wanted is.db is.at.pages (subst (λ n. Recovers n (seen_image g.D.Disk c.args.files.log c.args.files.db) is.at.pages) size is.at.found) has in
    let (roots, listed) = c.in_ok-file.ensures.opened faithful is.db _ (store_resting opened is.db _ _ rests is.holds.contain.sound) in
    represents_as t store is.db _ (rests_after opened c.in_ok-file.file reads faithful c.in_ok-file.ensures.usable rests) is.holds is.ordered roots (listed t (held_said t is.db is.holds))
    (c.new-2.ensures.nothing t) c.in_ok-file.ensures.usable

pub returns-clause-reads : goal.returns-clause-reads
returns-clause-reads g c = λ faithful t is.
    let reads = c.in_ok-file.ensures.reads in
    let size = reads.keeps.stays.size in
    let opened = c.in_ok-opened.opened in
    let store : PageRuns g.row.D.Denot g.D.Disk =
    record { file = c.in_ok-file.file; alloc = c.args.alloc; roots = c.in_ok-file.roots; lists = c.in_ok-file.lists; is_alone = c.in_ok-file.is_alone; hints = c.new.result; kept_cells = c.new-2.result } in
    let has : Has (page_size opened) is.at.wanted is.db is.at.pages = subst (λ n. Has n is.at.wanted is.db is.at.pages) size (record { ours = is.at.ours; reads = is.at.reads }) in
    let rests = c.in_ok-opened.ensures.rests (reads.keeps.stays.clean faithful) is.at.wanted is.db is.at.pages (subst (λ n. Recovers n (seen_image g.D.Disk c.args.files.log c.args.files.db) is.at.pages) size is.at.found) has in
    let (roots, listed) = c.in_ok-file.ensures.opened faithful is.db _ (store_resting opened is.db _ _ rests (said t is.db is.says.says).sound) in
    reads_as t store is.db _ (rests_after opened c.in_ok-file.file reads faithful c.in_ok-file.ensures.usable rests) is.says roots (listed t is.says.says)
    (c.new-2.ensures.nothing t) c.in_ok-file.ensures.usable

pub returns-clause-tables : goal.returns-clause-tables
returns-clause-tables g c = λ faithful has.
    let reads = c.in_ok-file.ensures.reads in
    let size = reads.keeps.stays.size in
    subst₂ (λ n p. AreOpened (rows_of n p 1) c.in_ok-file.is_alone) (sym size) (sym reads.pages)
    (c.in_ok-file.ensures.tables faithful (subst₂ (λ n p. HasTable n p 1) size reads.pages has))

pub returns-clause-crash : goal.returns-clause-crash
returns-clause-crash g c =
    let reads = c.in_ok-file.ensures.reads in
    let opened = c.in_ok-opened.opened in
    subst (λ n. AddsNothing n (outcomes g.D.Disk c.args.files.log c.args.files.db) (may_leave c.in_ok-file.file)) (sym reads.keeps.stays.size)
    (AddsNothing-trans (page_size opened) _ _ _ c.in_ok-opened.ensures.crash reads.keeps.crash)

pub returns-in_err-opened-clause-honest : goal.returns-in_err-opened-clause-honest
returns-in_err-opened-clause-honest g c = IfOk-from_err c.from_residual.result _ c.from_residual.ensures.0

pub returns-in_err-opened-clause-size : goal.returns-in_err-opened-clause-size
returns-in_err-opened-clause-size g c = IfOk-from_err c.from_residual.result _ c.from_residual.ensures.0

pub returns-in_err-opened-clause-represents : goal.returns-in_err-opened-clause-represents
returns-in_err-opened-clause-represents g c = IfOk-from_err c.from_residual.result _ c.from_residual.ensures.0

pub returns-in_err-opened-clause-crash : goal.returns-in_err-opened-clause-crash
returns-in_err-opened-clause-crash g c = IfOk-from_err c.from_residual.result _ c.from_residual.ensures.0

pub returns-in_err-opened-clause-keeps : goal.returns-in_err-opened-clause-keeps
returns-in_err-opened-clause-keeps g c = IfOk-from_err c.from_residual.result _ c.from_residual.ensures.0

pub returns-in_err-file-clause-honest : goal.returns-in_err-file-clause-honest
returns-in_err-file-clause-honest g c = IfOk-from_err c.from_residual-in_err-file.result _ c.from_residual-in_err-file.ensures.0

pub returns-in_err-file-clause-size : goal.returns-in_err-file-clause-size
returns-in_err-file-clause-size g c = IfOk-from_err c.from_residual-in_err-file.result _ c.from_residual-in_err-file.ensures.0

pub returns-in_err-file-clause-represents : goal.returns-in_err-file-clause-represents
returns-in_err-file-clause-represents g c = IfOk-from_err c.from_residual-in_err-file.result _ c.from_residual-in_err-file.ensures.0

pub returns-in_err-file-clause-crash : goal.returns-in_err-file-clause-crash
returns-in_err-file-clause-crash g c = IfOk-from_err c.from_residual-in_err-file.result _ c.from_residual-in_err-file.ensures.0

pub returns-in_err-file-clause-keeps : goal.returns-in_err-file-clause-keeps
returns-in_err-file-clause-keeps g c = IfOk-from_err c.from_residual-in_err-file.result _ c.from_residual-in_err-file.ensures.0

pub returns-clause-honest : goal.returns-clause-honest
returns-clause-honest g c = λ faithful. c.in_ok-opened.ensures.honest (c.in_ok-file.ensures.reads.keeps.stays.clean faithful)

pub returns-clause-size : goal.returns-clause-size
returns-clause-size g c = λ faithful.
    let reads = c.in_ok-file.ensures.reads in
    subst (IsSizeOf (seen_image g.D.Disk c.args.files.log c.args.files.db)) (sym reads.keeps.stays.size) (c.in_ok-opened.ensures.size (reads.keeps.stays.clean faithful))

pub returns-clause-keeps : goal.returns-clause-keeps
returns-clause-keeps g c = c.new-2.ensures.limit

pub returns-in_err-opened-clause-reads : goal.returns-in_err-opened-clause-reads
returns-in_err-opened-clause-reads g c = IfOk-from_err c.from_residual.result _ c.from_residual.ensures.0

pub returns-in_err-file-clause-reads : goal.returns-in_err-file-clause-reads
returns-in_err-file-clause-reads g c = IfOk-from_err c.from_residual-in_err-file.result _ c.from_residual-in_err-file.ensures.0

pub returns-in_err-opened-clause-tables : goal.returns-in_err-opened-clause-tables
returns-in_err-opened-clause-tables g c = IfOk-from_err c.from_residual.result _ c.from_residual.ensures.0

pub returns-in_err-file-clause-tables : goal.returns-in_err-file-clause-tables
returns-in_err-file-clause-tables g c = IfOk-from_err c.from_residual-in_err-file.result _ c.from_residual-in_err-file.ensures.0
