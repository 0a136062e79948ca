use Rattle.std.proofs.Common.{◌≡◌, Err, ap, subst, ◌∙◌}
use Rattle.sqlite_pages.specs.declared.error.Error.TheVariants.{Io}
use Rattle.sqlite_pool.specs.File.{SameButHeader}
use Rattle.sqlite_pool.specs.Pool.{state, usable}
use Rattle.sqlite_wal.proofs.StateLemmas.{open_from, ready_of, StaysOrFails-trans}
use Rattle.page_files.specs.declared.files.PageFile.{PageFile}
use Rattle.page_files.specs.Files.{pages_of}
use Rattle.page_files.specs.Held.{Rests}
use Rattle.page_files.specs.Writes.{FailsToWrite, Forgets}
use Rattle.page_files.proofs.Causes.{commit_fails}
use Rattle.page_files.proofs.Results.{if_usable_still, unless_usable}
use Rattle.page_files.proofs.Steps.{committed, may_commit, may_commit_then, rests_again}
use Rattle.page_files.proofs.files.PageFile.commit.Goals as goal

pub returns-in-Err-clause-done : goal.returns-in-Err-clause-done
returns-in-Err-clause-done g c faithful = λ wanted roots was now w.
    let old = c.args.self.now in
    let new : PageFile g.row.D.Denot g.D.Disk = record { pool = c.rollback.new.self; scratch = old.scratch } in
    let here = c.rollback.ensures.keeps.stays.clean faithful in
    commit_fails old new c.set_version.new.self c.commit.new.self c.in-Err.error c.set_version.ensures.keeps c.commit.ensures.crash.stays c.rollback.ensures.keeps
    (c.set_version.ensures.open ∙ w.is_open) here (c.in-Err.ensures.cause here) (λ full. c.set_version.ensures.long (c.commit.ensures.long here (c.in-Err.is ∙ ap Err full)))

pub returns-in-Err-clause-forgets : goal.returns-in-Err-clause-forgets
returns-in-Err-clause-forgets g c faithful usable =
    let is_open = open_from (state c.rollback.new.self) usable faithful in
    let made_open = c.rollback.ensures.keeps.stays.was_open is_open in
    let mid_open = c.commit.ensures.crash.stays.was_open made_open in
    record {
      clean = c.rollback.ensures.clean made_open;
      committed = c.rollback.ensures.keeps.committed is_open ∙ c.in-Err.ensures.err made_open ∙ c.set_version.ensures.keeps.committed mid_open;
    }

pub returns-in-Err-clause-failed : goal.returns-in-Err-clause-failed
returns-in-Err-clause-failed g c faithful = λ wanted roots was s usable.
    let old = c.args.self.now in
    let new : PageFile g.row.D.Denot g.D.Disk = record { pool = c.rollback.new.self; scratch = old.scratch } in
    let is_open = open_from (state new.pool) usable faithful in
    let was_open = c.set_version.ensures.keeps.stays.was_open (c.commit.ensures.crash.stays.was_open (c.rollback.ensures.keeps.stays.was_open is_open)) in
    rests_again old new g.met.D.Disk.seen_may_stay was_open (c.rollback.ensures.keeps.stays.size ∙ c.commit.ensures.crash.stays.size ∙ c.set_version.ensures.keeps.stays.size)
    (returns-in-Err-clause-forgets g c faithful usable) s

pub returns-in-Err-clause-crash : goal.returns-in-Err-clause-crash
returns-in-Err-clause-crash g c =
    let old = c.args.self.now in
    let made : PageFile g.row.D.Denot g.D.Disk = record { pool = c.commit.new.self; scratch = old.scratch } in
    let new : PageFile g.row.D.Denot g.D.Disk = record { pool = c.rollback.new.self; scratch = old.scratch } in
    let set = c.set_version.ensures in
    let m = c.commit.ensures.crash in
    may_commit_then old made new c.rollback.ensures.keeps (m.stays.size ∙ set.keeps.stays.size)
    (may_commit old made c.set_version.new.self set.keeps set.pages (λ is_open. set.version ∙ c.stored_version-version.ensures is_open) m)

pub returns-in-Err-clause-stays : goal.returns-in-Err-clause-stays
returns-in-Err-clause-stays g c =
    StaysOrFails-trans _ _ _ c.set_version.ensures.keeps.stays (StaysOrFails-trans _ _ _ c.commit.ensures.crash.stays c.rollback.ensures.keeps.stays)

pub returns-clause-done : goal.returns-clause-done
returns-clause-done g c faithful = λ wanted roots was now w.
    let old = c.args.self.now in
    let new : PageFile g.row.D.Denot g.D.Disk = record { pool = c.commit.new.self; scratch = old.scratch } in
    let set = c.set_version.ensures in
    let done = c.in_default.ensures in
    let tidy = done.clean faithful in
    unless_usable c.if_usable.result (state new.pool).is_ready (λ e. e ≡ Io) (FailsToWrite old new) (Rests wanted roots now new) (ready_of (state new.pool) tidy.is_open) c.if_usable.ensures.cause
    (committed old new g.met.D.Disk.seen_may_stay w (c.commit.ensures.crash.stays.size ∙ set.keeps.stays.size) tidy (subst (λ u. SameButHeader u (pages_of new)) set.pages (done.durable faithful))
    (done.version faithful ∙ set.version ∙ c.stored_version-version.ensures w.is_open))

pub returns-clause-failed : goal.returns-clause-failed
returns-clause-failed g c faithful = λ wanted roots was s.
    let new : PageFile g.row.D.Denot g.D.Disk = record { pool = c.commit.new.self; scratch = c.args.self.now.scratch } in
    if_usable_still c.if_usable.result (state new.pool).is_ready (λ e. e ≡ Io) (Rests wanted roots was new) c.if_usable.ensures.cause

pub returns-clause-crash : goal.returns-clause-crash
returns-clause-crash g c =
    let old = c.args.self.now in
    let new : PageFile g.row.D.Denot g.D.Disk = record { pool = c.commit.new.self; scratch = old.scratch } in
    let set = c.set_version.ensures in
    may_commit old new c.set_version.new.self set.keeps set.pages (λ is_open. set.version ∙ c.stored_version-version.ensures is_open) c.commit.ensures.crash

pub returns-in-Err-clause-usable : goal.returns-in-Err-clause-usable
returns-in-Err-clause-usable g c = tt

pub returns-clause-usable : goal.returns-clause-usable
returns-clause-usable g c = c.if_usable.ensures.usable

pub returns-clause-forgets : goal.returns-clause-forgets
returns-clause-forgets g c = λ faithful.
    let new : PageFile g.row.D.Denot g.D.Disk = record { pool = c.commit.new.self; scratch = c.args.self.now.scratch } in
    if_usable_still c.if_usable.result (state new.pool).is_ready (λ e. e ≡ Io) (Forgets c.args.self.now new) c.if_usable.ensures.cause

pub returns-clause-stays : goal.returns-clause-stays
returns-clause-stays g c = StaysOrFails-trans _ _ _ c.set_version.ensures.keeps.stays c.commit.ensures.crash.stays
