use Rattle.std.proofs.lemmas.Result.{err_from_is_err_and}
use Rattle.sqlite_pool.specs.Pool.{state}
use Rattle.sqlite_wal.proofs.StateLemmas.{open_from, ready_of}
use Rattle.page_files.specs.declared.files.PageFile.{PageFile}
use Rattle.page_files.proofs.Causes.{fails_for_good, fails_to_read}
use Rattle.page_files.proofs.Reading.{rests_after}
use Rattle.page_files.proofs.Results.{if_err, on_ok}
use Rattle.page_files.proofs.files.PageFile.checkpoint.Goals as goal

pub returns-in_err-checkpoint-clause-cause : goal.returns-in_err-checkpoint-clause-cause
returns-in_err-checkpoint-clause-cause g c faithful is_open =
    let old = c.args.self.now in
    let new : PageFile g.row.D.Denot g.D.Disk = record { pool = c.checkpoint.new.self; scratch = c.args.self.now.scratch } in
    let p = err_from_is_err_and c.from_residual.result c.from_residual.ensures.1 in
    rw (p.1, p.2) (fails_to_read old new _ c.checkpoint.ensures.keeps is_open faithful (c.in_err-checkpoint.ensures.cause faithful))

pub returns-in_err-checkpoint-clause-rests : goal.returns-in_err-checkpoint-clause-rests
returns-in_err-checkpoint-clause-rests g c faithful usable = λ wanted roots db r.
    let new : PageFile g.row.D.Denot g.D.Disk = record { pool = c.checkpoint.new.self; scratch = c.args.self.now.scratch } in
    let done = c.checkpoint.ensures in
    rests_after c.args.self.now new (record { keeps = done.keeps; marks = done.marks; pages = done.pages (open_from (state new.pool) usable faithful) }) faithful usable r

pub returns-clause-cause : goal.returns-clause-cause
returns-clause-cause g c faithful is_open =
    let old = c.args.self.now in
    let new : PageFile g.row.D.Denot g.D.Disk = record { pool = c.checkpoint.new.self; scratch = c.args.self.now.scratch } in
    if_err c.if_usable.result (λ e stops. fails_for_good old new e c.checkpoint.ensures.keeps (ready_of (state old.pool) is_open) stops.0 stops.1) c.if_usable.ensures.cause

pub returns-clause-rests : goal.returns-clause-rests
returns-clause-rests g c faithful usable = λ wanted roots db r.
    let new : PageFile g.row.D.Denot g.D.Disk = record { pool = c.checkpoint.new.self; scratch = c.args.self.now.scratch } in
    let done = c.checkpoint.ensures in
    rests_after c.args.self.now new (record { keeps = done.keeps; marks = done.marks; pages = done.pages (open_from (state new.pool) usable faithful) }) faithful usable r

pub returns-clause-moved : goal.returns-clause-moved
returns-clause-moved g c = on_ok c.if_usable.result (λ usable. c.in_ok-checkpoint.ensures.moved) c.if_usable.ensures.usable
