use Rattle.std.specs.Prelude.{⊤}
use Rattle.std.proofs.Common.{refl}
use Rattle.plain_tables.specs.Changes.{with_group}
use Rattle.run_stores.proofs.Ordered.{with_group_in_order}
use Rattle.page_runs.specs.declared.store.PageRuns.{PageRuns}
use Rattle.page_runs.proofs.Changes.{changed_any, kept_shut}
use Rattle.page_runs.proofs.Making.{group_made}
use Rattle.page_runs.proofs.store.PageRunsRunStore.put_group.Goals as goal

pub returns-clause-changes : goal.returns-clause-changes
returns-clause-changes g c faithful =
    let old = c.args.self.now in
    let mid : PageRuns g.row.D.Denot g.D.Disk = record old { file = c.put_group-written.new.file } in
    changed_any (λ _. ⊤) (with_group c.args.name.now) old mid _ c.put_group-written.ensures.leaves.keeps refl refl refl c.put_group-written.result _ c.finish.ensures
    (λ clean t given was. group_made old mid (with_group c.args.name.now) c.put_group-written.result c.put_group-written.ensures.done clean t was) (λ t given sound. with_group_in_order c.args.name.now t) faithful (λ t. tt)

pub returns-clause-shut : goal.returns-clause-shut
returns-clause-shut g c faithful =
    let old = c.args.self.now in
    let mid : PageRuns g.row.D.Denot g.D.Disk = record old { file = c.put_group-written.new.file } in
    kept_shut (λ _. ⊤) (with_group c.args.name.now) old mid _ c.put_group-written.ensures.leaves.keeps refl refl refl c.put_group-written.result _ c.finish.ensures
    (λ clean t given was. group_made old mid (with_group c.args.name.now) c.put_group-written.result c.put_group-written.ensures.done clean t was) (λ t given sound. with_group_in_order c.args.name.now t) faithful c.put_group-written.ensures.leaves.usable
