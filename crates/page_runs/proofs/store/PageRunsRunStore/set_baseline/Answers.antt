use Rattle.std.specs.Prelude.{⊤}
use Rattle.std.proofs.Common.{refl}
use Rattle.plain_tables.specs.Changes.{with_baseline}
use Rattle.run_stores.proofs.Ordered.{with_baseline_in_order}
use Rattle.page_runs.specs.declared.store.PageRuns.{PageRuns}
use Rattle.page_runs.proofs.Changes.{changed_any, kept_shut}
use Rattle.page_runs.proofs.Making.{group_made}
use Rattle.page_runs.proofs.store.PageRunsRunStore.set_baseline.Goals as goal

pub returns-clause-changes : goal.returns-clause-changes
returns-clause-changes g c faithful =
    let old = c.args.self.now in
    let mid : PageRuns g.row.D.Denot g.D.Disk = record old { file = c.set_baseline-written.new.file } in
    changed_any (λ _. ⊤) (with_baseline c.args.name.now c.args.run) old mid _ c.set_baseline-written.ensures.leaves.keeps refl refl refl c.set_baseline-written.result _ c.finish.ensures
    (λ clean t given was. group_made old mid (with_baseline c.args.name.now c.args.run) c.set_baseline-written.result c.set_baseline-written.ensures.done clean t was) (λ t given sound. with_baseline_in_order c.args.name.now c.args.run t) faithful (λ t. tt)

pub returns-clause-shut : goal.returns-clause-shut
returns-clause-shut g c faithful =
    let old = c.args.self.now in
    let mid : PageRuns g.row.D.Denot g.D.Disk = record old { file = c.set_baseline-written.new.file } in
    kept_shut (λ _. ⊤) (with_baseline c.args.name.now c.args.run) old mid _ c.set_baseline-written.ensures.leaves.keeps refl refl refl c.set_baseline-written.result _ c.finish.ensures
    (λ clean t given was. group_made old mid (with_baseline c.args.name.now c.args.run) c.set_baseline-written.result c.set_baseline-written.ensures.done clean t was) (λ t given sound. with_baseline_in_order c.args.name.now c.args.run t) faithful c.set_baseline-written.ensures.leaves.usable
