use Rattle.std.proofs.lemmas.Result.{err_from_is_err_and, on_ok_weaker}
use Rattle.page_lists.proofs.Chains.{◌⊳◌}
use Rattle.page_lists.proofs.Indexed.{derived_before, groups_before}
use Rattle.page_lists.proofs.indexes.check_indexes.Goals as goal

pub returns-in_err-check_derived-clause-reads : goal.returns-in_err-check_derived-clause-reads
returns-in_err-check_derived-clause-reads g c = c.check_events.ensures.reads ⊳ c.check_derived.ensures.reads

pub returns-clause-reads : goal.returns-clause-reads
returns-clause-reads g c = c.check_events.ensures.reads ⊳ c.check_derived.ensures.reads ⊳ c.check_groups.ensures.reads

pub returns-clause-same : goal.returns-clause-same
returns-clause-same g c =
    let first = c.check_events.ensures in
    let next = c.check_derived.ensures in
    let last = c.check_groups.ensures in
    on_ok_weaker c.check_groups.result (λ same faithful.
    let earlier = last.reads.keeps.stays.clean faithful in
    record {
      events = c.in_ok-check_events.ensures.same (next.reads.keeps.stays.clean earlier);
      derived = derived_before _ _ first.reads (c.in_ok-check_derived.ensures.same earlier);
      groups = groups_before _ _ (first.reads ⊳ next.reads) (same faithful);
    }) last.same

pub returns-in_err-check_events-clause-same : goal.returns-in_err-check_events-clause-same
returns-in_err-check_events-clause-same g c = rw (err_from_is_err_and c.from_residual.result c.from_residual.ensures.1).1 tt

pub returns-in_err-check_events-clause-usable : goal.returns-in_err-check_events-clause-usable
returns-in_err-check_events-clause-usable g c = rw (err_from_is_err_and c.from_residual.result c.from_residual.ensures.1).1 tt

pub returns-in_err-check_derived-clause-same : goal.returns-in_err-check_derived-clause-same
returns-in_err-check_derived-clause-same g c = rw (err_from_is_err_and c.from_residual-in_err-check_derived.result c.from_residual-in_err-check_derived.ensures.1).1 tt

pub returns-in_err-check_derived-clause-usable : goal.returns-in_err-check_derived-clause-usable
returns-in_err-check_derived-clause-usable g c = rw (err_from_is_err_and c.from_residual-in_err-check_derived.result c.from_residual-in_err-check_derived.ensures.1).1 tt

pub returns-in_err-check_events-clause-reads : goal.returns-in_err-check_events-clause-reads
returns-in_err-check_events-clause-reads g c = c.check_events.ensures.reads

pub returns-clause-usable : goal.returns-clause-usable
returns-clause-usable g c = c.check_groups.ensures.usable
