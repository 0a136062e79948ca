use Rattle.std.specs.Prelude.{⊤}
use Rattle.std.proofs.Common.{refl}
use Rattle.plain_tables.specs.Changes.{joined}
use Rattle.run_stores.proofs.Ordered.{joined_in_order}
use Rattle.page_runs.specs.declared.store.PageRuns.{PageRuns}
use Rattle.page_runs.proofs.Changes.{changed_any, kept_shut}
use Rattle.page_runs.proofs.Making.{group_made}
use Rattle.page_runs.proofs.store.PageRunsRunStore.join.Goals as goal

pub returns-clause-changes : goal.returns-clause-changes
returns-clause-changes g c faithful =
    let old = c.args.self.now in
    let mid : PageRuns g.row.D.Denot g.D.Disk = record old { file = c.join-written.new.file } in
    changed_any (λ _. ⊤) (joined c.args.name.now c.args.run) old mid _ c.join-written.ensures.leaves.keeps refl refl refl c.join-written.result _ c.finish.ensures
    (λ clean t given was. group_made old mid (joined c.args.name.now c.args.run) c.join-written.result c.join-written.ensures.done clean t was) (λ t given sound. joined_in_order c.args.name.now c.args.run t) faithful (λ t. tt)

pub returns-clause-shut : goal.returns-clause-shut
returns-clause-shut g c faithful =
    let old = c.args.self.now in
    let mid : PageRuns g.row.D.Denot g.D.Disk = record old { file = c.join-written.new.file } in
    kept_shut (λ _. ⊤) (joined c.args.name.now c.args.run) old mid _ c.join-written.ensures.leaves.keeps refl refl refl c.join-written.result _ c.finish.ensures
    (λ clean t given was. group_made old mid (joined c.args.name.now c.args.run) c.join-written.result c.join-written.ensures.done clean t was) (λ t given sound. joined_in_order c.args.name.now c.args.run t) faithful c.join-written.ensures.leaves.usable
