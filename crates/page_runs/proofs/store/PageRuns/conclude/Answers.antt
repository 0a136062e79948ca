use Rattle.std.proofs.Common.{refl}
use Rattle.sqlite_pool.specs.StoredLaws.{Keeps-trans}
use Rattle.prof_store.proofs.Told.{held_said}
use Rattle.page_runs.specs.declared.store.PageRuns.{PageRuns}
use Rattle.page_runs.proofs.Concluding.{commits_nothing, concluded, undone_behind}
use Rattle.page_runs.proofs.store.PageRuns.conclude.Goals as goal

pub returns-in-Ok : goal.returns-in-Ok
returns-in-Ok g c =
    let old = c.args.self.now in
    let mid : PageRuns g.row.D.Denot g.D.Disk = record old { file = c.read_lists.new.file } in
    concluded old mid _ c.read_lists.ensures.reads refl refl refl _ _ c.in-Ok.ensures.usable (λ faithful t db holds roots. c.in-Ok.ensures.listed faithful t db (held_said t db holds) roots) c.commit.ensures

pub returns-in-Err : goal.returns-in-Err
returns-in-Err g c =
    let old = c.args.self.now in
    let mid : PageRuns g.row.D.Denot g.D.Disk = record old { file = c.read_lists.new.file } in
    let new : PageRuns g.row.D.Denot g.D.Disk = record old { file = c.undo.new.self } in
    let keeps = Keeps-trans _ _ _ c.read_lists.ensures.reads.keeps c.undo.ensures.keeps in
    record {
      stays = keeps.stays;
      usable = tt;
      wrote = λ done. refl;
      made = λ faithful wanted known was next t writes roots holds order. tt;
      undone = λ faithful usable. undone_behind old mid new c.read_lists.ensures.reads refl refl refl c.undo.ensures.keeps.stays (record {
        lists = refl;
        roots = refl;
        kept_cells = refl;
        forgets = c.undo.ensures.forgets faithful usable;
        rests = λ wanted known was stands. c.undo.ensures.done faithful usable wanted known was stands;
      });
      crash = commits_nothing old.file new.file keeps;
      unwritten = tt;
    }
