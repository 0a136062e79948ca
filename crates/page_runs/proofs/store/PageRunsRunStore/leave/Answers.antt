use Rattle.std.specs.Prelude.{⊤}
use Rattle.std.proofs.Common.{refl}
use Rattle.plain_tables.specs.Changes.{without_member}
use Rattle.run_stores.proofs.Ordered.{without_member_in_order}
use Rattle.page_runs.specs.declared.store.PageRuns.{PageRuns}
use Rattle.page_runs.proofs.Changes.{changed_any, kept_shut}
use Rattle.page_runs.proofs.Making.{group_made}
use Rattle.page_runs.proofs.store.PageRunsRunStore.leave.Goals as goal

pub returns-clause-changes : goal.returns-clause-changes
returns-clause-changes g c faithful =
    let old = c.args.self.now in
    let mid : PageRuns g.row.D.Denot g.D.Disk = record old { file = c.leave-written.new.file } in
    changed_any (λ _. ⊤) (without_member c.args.name.now c.args.run) old mid _ c.leave-written.ensures.leaves.keeps refl refl refl c.leave-written.result _ c.finish.ensures
    (λ clean t given was. group_made old mid (without_member c.args.name.now c.args.run) c.leave-written.result c.leave-written.ensures.done clean t was) (λ t given sound. without_member_in_order c.args.name.now c.args.run t) faithful (λ t. tt)

pub returns-clause-shut : goal.returns-clause-shut
returns-clause-shut g c faithful =
    let old = c.args.self.now in
    let mid : PageRuns g.row.D.Denot g.D.Disk = record old { file = c.leave-written.new.file } in
    kept_shut (λ _. ⊤) (without_member c.args.name.now c.args.run) old mid _ c.leave-written.ensures.leaves.keeps refl refl refl c.leave-written.result _ c.finish.ensures
    (λ clean t given was. group_made old mid (without_member c.args.name.now c.args.run) c.leave-written.result c.leave-written.ensures.done clean t was) (λ t given sound. without_member_in_order c.args.name.now c.args.run t) faithful c.leave-written.ensures.leaves.usable
