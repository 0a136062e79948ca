use Rattle.std.specs.Prelude.{◌≡◌, true}
use Rattle.std.proofs.Common.{refl}
use Rattle.plain_tables.specs.Changes.{has_group, without_group}
use Rattle.run_stores.proofs.Ordered.{without_group_in_order}
use Rattle.page_runs.specs.declared.store.PageRuns.{PageRuns}
use Rattle.page_runs.proofs.Changes.{changed, kept_shut}
use Rattle.page_runs.proofs.Making.{group_made}
use Rattle.page_runs.proofs.store.PageRunsRunStore.drop_group.Goals as goal

pub returns-clause-changes : goal.returns-clause-changes
returns-clause-changes g c faithful =
    let old = c.args.self.now in
    let mid : PageRuns g.row.D.Denot g.D.Disk = record old { file = c.drop_group-written.new.file } in
    changed (λ t. has_group t c.args.name.now ≡ true) (without_group c.args.name.now) old mid _ c.drop_group-written.ensures.leaves.keeps refl refl refl c.drop_group-written.result _ c.finish.ensures
    (λ clean t given was. group_made old mid (without_group c.args.name.now) c.drop_group-written.result c.drop_group-written.ensures.done clean t was) (λ t given sound. without_group_in_order c.args.name.now t) faithful

pub returns-clause-shut : goal.returns-clause-shut
returns-clause-shut g c faithful =
    let old = c.args.self.now in
    let mid : PageRuns g.row.D.Denot g.D.Disk = record old { file = c.drop_group-written.new.file } in
    kept_shut (λ t. has_group t c.args.name.now ≡ true) (without_group c.args.name.now) old mid _ c.drop_group-written.ensures.leaves.keeps refl refl refl c.drop_group-written.result _ c.finish.ensures
    (λ clean t given was. group_made old mid (without_group c.args.name.now) c.drop_group-written.result c.drop_group-written.ensures.done clean t was) (λ t given sound. without_group_in_order c.args.name.now t) faithful c.drop_group-written.ensures.leaves.usable
