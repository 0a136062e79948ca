use Rattle.std.specs.Prelude.{◌≡◌}
use Rattle.std.proofs.Common.{refl, sym}
use Rattle.cost_rows.specs.Rows.{content_of}
use Rattle.plain_tables.specs.Sound.{AreSound}
use Rattle.plain_tables.specs.Tables.{Tables}
use Rattle.run_stores.specs.BookRuns.{filed}
use Rattle.run_stores.specs.Order.{AreInOrder}
use Rattle.run_stores.proofs.Ordered.{filed_in_order}
use Rattle.run_stores.specs.Runs.{with_summed}
use Rattle.page_runs.specs.declared.store.PageRuns.{PageRuns}
use Rattle.page_runs.proofs.Changes.{changed, kept_shut}
use Rattle.page_runs.proofs.Making.{listed_made}
use Rattle.page_runs.proofs.store.PageRunsRunStore.put_run.Goals as goal

pub returns-clause-changes : goal.returns-clause-changes
returns-clause-changes g c faithful =
    let a = c.args in
    let old = a.self.now in
    let mid : PageRuns g.row.D.Denot g.D.Disk = record old { file = c.put_run-written.new.file } in
    let change : Tables → Tables = with_summed a.number a.kind a.digest.now a.label.now a.file.now in
    let ordered : (t : Tables) → t.next ≡ a.number → AreSound t → AreInOrder t → AreInOrder (change t) =
    λ t given sound order. filed_in_order (filed a.number a.kind a.digest.now a.label.now a.file.now.head.now (content_of a.file.now.rows.now)) t (sym given) sound order in
    changed (λ t. t.next ≡ a.number) change old mid _ c.put_run-written.ensures.leaves.keeps refl refl refl c.put_run-written.result _ c.finish.ensures
    (λ clean t given was. listed_made old mid change c.put_run-written.result c.put_run-written.ensures.done clean t was) ordered faithful

pub returns-clause-shut : goal.returns-clause-shut
returns-clause-shut g c faithful =
    let a = c.args in
    let old = a.self.now in
    let mid : PageRuns g.row.D.Denot g.D.Disk = record old { file = c.put_run-written.new.file } in
    let change : Tables → Tables = with_summed a.number a.kind a.digest.now a.label.now a.file.now in
    let ordered : (t : Tables) → t.next ≡ a.number → AreSound t → AreInOrder t → AreInOrder (change t) =
    λ t given sound order. filed_in_order (filed a.number a.kind a.digest.now a.label.now a.file.now.head.now (content_of a.file.now.rows.now)) t (sym given) sound order in
    kept_shut (λ t. t.next ≡ a.number) change old mid _ c.put_run-written.ensures.leaves.keeps refl refl refl c.put_run-written.result _ c.finish.ensures
    (λ clean t given was. listed_made old mid change c.put_run-written.result c.put_run-written.ensures.done clean t was) ordered faithful c.put_run-written.ensures.leaves.usable
