use Rattle.std.proofs.Common.{sym, subst}
use Rattle.sqlite_pool.specs.Pool.{state}
use Rattle.sqlite_pool.specs.Opening.{image}
use Rattle.sqlite_pool.specs.Stored.{Recovers}
use Rattle.sqlite_pool.specs.StoredLaws.{recovers_once}
use Rattle.page_files.proofs.Opened.{opened}
use Rattle.page_files.proofs.files.PageFile.open.Goals as goal

pub returns-in-Ok-clause-rests : goal.returns-in-Ok-clause-rests
returns-in-Ok-clause-rests g c faithful = λ wanted db pages found has.
    let it = state c.recover.new.self in
    let here = subst (λ n. Recovers n (image c.args.pool) it.committed) (sym c.recover.ensures.kept.size) (c.in-Ok.ensures.found faithful) in
    opened (record { pool = c.recover.new.self; scratch = c.new.result }) g.met.D.Disk.seen_may_stay (c.in-Ok.ensures.clean faithful)
    (recovers_once it.page_size (image c.args.pool) it.committed pages here found) has
