use Rattle.std.proofs.Common.{Err, refl, sym, subst}
use Rattle.page_runs.specs.Finished.{Finishes}
use Rattle.page_runs.specs.declared.store.PageRuns.{PageRuns}
use Rattle.page_runs.proofs.Concluding.{commits_nothing}
use Rattle.page_runs.proofs.store.PageRuns.finish.Goals as goal

pub returns-in-Err : goal.returns-in-Err
returns-in-Err g c =
    let old = c.args.self.now in
    let new : PageRuns g.row.D.Denot g.D.Disk = record old { file = c.undo.new.self } in
    let refused : Finishes (Err c.in-Err.error) (Err c.in-Err.error) old new = record {
      stays = c.undo.ensures.keeps.stays;
      usable = tt;
      wrote = λ done. done;
      made = λ faithful wanted known was next t writes roots holds order. tt;
      undone = λ faithful usable. record {
        lists = refl;
        roots = refl;
        kept_cells = refl;
        forgets = c.undo.ensures.forgets faithful usable;
        rests = λ wanted known was stands. c.undo.ensures.done faithful usable wanted known was stands;
      };
      crash = commits_nothing old.file new.file c.undo.ensures.keeps;
      unwritten = c.undo.ensures.keeps;
    } in
    subst (λ w. Finishes w (Err c.in-Err.error) old new) (sym c.in-Err.is) refused
