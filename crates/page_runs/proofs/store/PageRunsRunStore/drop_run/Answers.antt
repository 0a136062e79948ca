use Rattle.std.specs.Prelude.{◌≡◌, true}
use Rattle.std.proofs.Common.{refl}
use Rattle.plain_tables.specs.Changes.{has_run, without_run}
use Rattle.run_stores.proofs.Ordered.{without_run_in_order}
use Rattle.page_runs.specs.declared.store.PageRuns.{PageRuns}
use Rattle.page_runs.proofs.Changes.{changed, kept_shut}
use Rattle.page_runs.proofs.Making.{listed_done}
use Rattle.page_runs.proofs.store.PageRunsRunStore.drop_run.Goals as goal

pub returns-clause-changes : goal.returns-clause-changes
returns-clause-changes g c faithful =
    let old = c.args.self.now in
    let mid : PageRuns g.row.D.Denot g.D.Disk = record old { file = c.drop_run-written.new.file } in
    changed (λ t. has_run t c.args.run ≡ true) (without_run c.args.run) old mid _ c.drop_run-written.ensures.leaves.keeps refl refl refl c.drop_run-written.result _ c.finish.ensures
    (λ clean t given was. listed_done old mid (without_run c.args.run) c.drop_run-written.result _ c.drop_run-written.ensures.done clean t was) (λ t given sound. without_run_in_order c.args.run t) faithful

pub returns-clause-shut : goal.returns-clause-shut
returns-clause-shut g c faithful =
    let old = c.args.self.now in
    let mid : PageRuns g.row.D.Denot g.D.Disk = record old { file = c.drop_run-written.new.file } in
    kept_shut (λ t. has_run t c.args.run ≡ true) (without_run c.args.run) old mid _ c.drop_run-written.ensures.leaves.keeps refl refl refl c.drop_run-written.result _ c.finish.ensures
    (λ clean t given was. listed_done old mid (without_run c.args.run) c.drop_run-written.result _ c.drop_run-written.ensures.done clean t was) (λ t given sound. without_run_in_order c.args.run t) faithful c.drop_run-written.ensures.leaves.usable
