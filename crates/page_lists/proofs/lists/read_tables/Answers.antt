use Rattle.prof_store.proofs.Told.{said}
use Rattle.page_lists.proofs.Columns.{coefs_told, derived_told, events_told, groups_told, members_told, next_told, runs_told}
use Rattle.std.proofs.Common.{map, ap, ◌∙◌}
use Rattle.std.proofs.lemmas.Result.{IfOk-from_err}
use Rattle.run_lists.specs.Listed.{coef_row, derived_row, event_row}
use Rattle.page_lists.proofs.Chains.{◌⊳◌}
use Rattle.page_lists.proofs.Shows.{shows_after}
use Rattle.page_lists.proofs.lists.read_tables.Goals as goal

pub returns-in_err-runs-clause-reads : goal.returns-in_err-runs-clause-reads
returns-in_err-runs-clause-reads g c = c.next_run.ensures.reads ⊳ c.all_rows.ensures.reads

pub returns-in_err-events-clause-reads : goal.returns-in_err-events-clause-reads
returns-in_err-events-clause-reads g c = c.next_run.ensures.reads ⊳ c.all_rows.ensures.reads ⊳ c.all_rows-2.ensures.reads

pub returns-in_err-derived-clause-reads : goal.returns-in_err-derived-clause-reads
returns-in_err-derived-clause-reads g c = c.next_run.ensures.reads ⊳ c.all_rows.ensures.reads ⊳ c.all_rows-2.ensures.reads ⊳ c.all_rows-3.ensures.reads

pub returns-in_err-coefs-clause-reads : goal.returns-in_err-coefs-clause-reads
returns-in_err-coefs-clause-reads g c = c.next_run.ensures.reads ⊳ c.all_rows.ensures.reads ⊳ c.all_rows-2.ensures.reads ⊳ c.all_rows-3.ensures.reads ⊳ c.all_rows-4.ensures.reads

pub returns-in_err-groups-clause-reads : goal.returns-in_err-groups-clause-reads
returns-in_err-groups-clause-reads g c = c.next_run.ensures.reads ⊳ c.all_rows.ensures.reads ⊳ c.all_rows-2.ensures.reads ⊳ c.all_rows-3.ensures.reads ⊳ c.all_rows-4.ensures.reads ⊳ c.all_rows-5.ensures.reads

pub returns-in_err-members-clause-reads : goal.returns-in_err-members-clause-reads
returns-in_err-members-clause-reads g c =
    c.next_run.ensures.reads ⊳ c.all_rows.ensures.reads ⊳ c.all_rows-2.ensures.reads ⊳ c.all_rows-3.ensures.reads ⊳ c.all_rows-4.ensures.reads ⊳ c.all_rows-5.ensures.reads ⊳ c.all_rows-6.ensures.reads

pub returns-clause-reads : goal.returns-clause-reads
returns-clause-reads g c =
    c.next_run.ensures.reads ⊳ c.all_rows.ensures.reads ⊳ c.all_rows-2.ensures.reads ⊳ c.all_rows-3.ensures.reads ⊳ c.all_rows-4.ensures.reads ⊳ c.all_rows-5.ensures.reads ⊳ c.all_rows-6.ensures.reads

pub returns-clause-listed : goal.returns-clause-listed
returns-clause-listed g c members = λ t db says roots.
    let was = said t db says in
    let groups = c.all_rows-6.ensures.reads.keeps.stays.clean members in
    let coefs = c.all_rows-5.ensures.reads.keeps.stays.clean groups in
    let derived = c.all_rows-4.ensures.reads.keeps.stays.clean coefs in
    let events = c.all_rows-3.ensures.reads.keeps.stays.clean derived in
    let runs = c.all_rows-2.ensures.reads.keeps.stays.clean events in
    let next = c.all_rows.ensures.reads.keeps.stays.clean runs in
    let to_runs = c.next_run.ensures.reads in
    let to_events = to_runs ⊳ c.all_rows.ensures.reads in
    let to_derived = to_events ⊳ c.all_rows-2.ensures.reads in
    let to_coefs = to_derived ⊳ c.all_rows-3.ensures.reads in
    let to_groups = to_coefs ⊳ c.all_rows-4.ensures.reads in
    let to_members = to_groups ⊳ c.all_rows-5.ensures.reads in
    record {
      next = next_told t db was _ (c.in_ok-next.ensures.next next _ roots.meta);
      runs = runs_told t db was _ (c.in_ok-runs.ensures.read runs _ (shows_after _ _ _ _ to_runs roots.runs));
      events = ap (map event_row) c.new.ensures ∙ events_told t db was _ (c.in_ok-events.ensures.read events _ (shows_after _ _ _ _ to_events roots.events));
      derived = ap (map derived_row) c.new-2.ensures ∙ derived_told t db was _ (c.in_ok-derived.ensures.read derived _ (shows_after _ _ _ _ to_derived roots.derived));
      coefs = ap (map coef_row) c.new-3.ensures ∙ coefs_told t db was _ (c.in_ok-coefs.ensures.read coefs _ (shows_after _ _ _ _ to_coefs roots.coefs));
      groups = groups_told t db was _ (c.in_ok-groups.ensures.read groups _ (shows_after _ _ _ _ to_groups roots.groups));
      members = members_told t db was _ (c.in_ok-members.ensures.read members _ (shows_after _ _ _ _ to_members roots.members));
    }

pub returns-in_err-next-clause-listed : goal.returns-in_err-next-clause-listed
returns-in_err-next-clause-listed g c = λ faithful t db holds roots. IfOk-from_err c.from_residual.result _ c.from_residual.ensures.0

pub returns-in_err-next-clause-usable : goal.returns-in_err-next-clause-usable
returns-in_err-next-clause-usable g c = IfOk-from_err c.from_residual.result _ c.from_residual.ensures.0

pub returns-in_err-runs-clause-listed : goal.returns-in_err-runs-clause-listed
returns-in_err-runs-clause-listed g c = λ faithful t db holds roots. IfOk-from_err c.from_residual-in_err-runs.result _ c.from_residual-in_err-runs.ensures.0

pub returns-in_err-runs-clause-usable : goal.returns-in_err-runs-clause-usable
returns-in_err-runs-clause-usable g c = IfOk-from_err c.from_residual-in_err-runs.result _ c.from_residual-in_err-runs.ensures.0

pub returns-in_err-events-clause-listed : goal.returns-in_err-events-clause-listed
returns-in_err-events-clause-listed g c = λ faithful t db holds roots. IfOk-from_err c.from_residual-in_err-events.result _ c.from_residual-in_err-events.ensures.0

pub returns-in_err-events-clause-usable : goal.returns-in_err-events-clause-usable
returns-in_err-events-clause-usable g c = IfOk-from_err c.from_residual-in_err-events.result _ c.from_residual-in_err-events.ensures.0

pub returns-in_err-derived-clause-listed : goal.returns-in_err-derived-clause-listed
returns-in_err-derived-clause-listed g c = λ faithful t db holds roots. IfOk-from_err c.from_residual-in_err-derived.result _ c.from_residual-in_err-derived.ensures.0

pub returns-in_err-derived-clause-usable : goal.returns-in_err-derived-clause-usable
returns-in_err-derived-clause-usable g c = IfOk-from_err c.from_residual-in_err-derived.result _ c.from_residual-in_err-derived.ensures.0

pub returns-in_err-coefs-clause-listed : goal.returns-in_err-coefs-clause-listed
returns-in_err-coefs-clause-listed g c = λ faithful t db holds roots. IfOk-from_err c.from_residual-in_err-coefs.result _ c.from_residual-in_err-coefs.ensures.0

pub returns-in_err-coefs-clause-usable : goal.returns-in_err-coefs-clause-usable
returns-in_err-coefs-clause-usable g c = IfOk-from_err c.from_residual-in_err-coefs.result _ c.from_residual-in_err-coefs.ensures.0

pub returns-in_err-groups-clause-listed : goal.returns-in_err-groups-clause-listed
returns-in_err-groups-clause-listed g c = λ faithful t db holds roots. IfOk-from_err c.from_residual-in_err-groups.result _ c.from_residual-in_err-groups.ensures.0

pub returns-in_err-groups-clause-usable : goal.returns-in_err-groups-clause-usable
returns-in_err-groups-clause-usable g c = IfOk-from_err c.from_residual-in_err-groups.result _ c.from_residual-in_err-groups.ensures.0

pub returns-in_err-members-clause-listed : goal.returns-in_err-members-clause-listed
returns-in_err-members-clause-listed g c = λ faithful t db holds roots. IfOk-from_err c.from_residual-in_err-members.result _ c.from_residual-in_err-members.ensures.0

pub returns-in_err-members-clause-usable : goal.returns-in_err-members-clause-usable
returns-in_err-members-clause-usable g c = IfOk-from_err c.from_residual-in_err-members.result _ c.from_residual-in_err-members.ensures.0

pub returns-in_err-next-clause-reads : goal.returns-in_err-next-clause-reads
returns-in_err-next-clause-reads g c = c.next_run.ensures.reads

pub returns-clause-usable : goal.returns-clause-usable
returns-clause-usable g c = c.in_ok-members.ensures.usable
