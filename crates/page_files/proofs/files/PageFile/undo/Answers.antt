use Rattle.page_files.specs.declared.files.PageFile.{PageFile}
use Rattle.sqlite_pool.specs.Pool.{state}
use Rattle.sqlite_wal.proofs.StateLemmas.{open_from}
use Rattle.page_files.proofs.Steps.{rests_again}
use Rattle.page_files.proofs.files.PageFile.undo.Goals as goal

pub returns-clause-done : goal.returns-clause-done
returns-clause-done g c faithful usable = λ wanted roots was s.
    let old = c.args.self.now in
    let new : PageFile g.row.D.Denot g.D.Disk = record { pool = c.rollback.new.self; scratch = c.args.self.now.scratch } in
    let k = c.rollback.ensures.keeps in
    let is_open = open_from (state new.pool) usable faithful in
    let was_open = k.stays.was_open is_open in
    rests_again old new g.met.D.Disk.seen_may_stay was_open k.stays.size (record { clean = c.rollback.ensures.clean was_open; committed = k.committed is_open }) s
