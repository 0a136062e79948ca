use Rattle.std.proofs.Common.{◌≡◌, ◌∙◌, [], length, map, sym, ap, subst}
use Rattle.std.specs.Prelude.{unwrap_or}
use Rattle.std.specs.List.{AllByRecursion}
use Rattle.plain_tables.specs.RunRows.{cells_in}
use Rattle.run_stores.specs.Walks.{IsOfAnEvent, cell_numbers}
use Rattle.store_reports.specs.Reported.{numbers_with}
use Rattle.store_reports.proofs.MergeLemmas.{cells_taken, none_taken}
use Rattle.store_reports.proofs.merging.add_cells.Goals as goal

pub returns-in_ok-all-in-Some-clause-told : goal.returns-in_ok-all-in-Some-clause-told
returns-in_ok-all-in-Some-clause-told g c clean t represents =
    let number = c.args.run.now.number in
    let counts = c.as_slice-counts.result.now in
    ap (λ m. m.1) ((c.in_ok-all-in-Some.ensures.told clean t represents).comes ∙ cells_taken counts c.args.sums (map cell_numbers (cells_in number t)))
    ∙ ap (λ cs. numbers_with t number cs c.args.sums) c.as_slice-counts.ensures
    ∙ sym (ap (λ cs. numbers_with t number (unwrap_or cs []) c.args.sums) c.in-Some.is)

pub returns-in_ok-all-in-Some-clause-of_events : goal.returns-in_ok-all-in-Some-clause-of_events
returns-in_ok-all-in-Some-clause-of_events g c clean t represents counts is =
    let here : c.as_slice-counts.result.now ≡ counts = cc in
    subst (λ cs. AllByRecursion (IsOfAnEvent (length cs)) (cells_in c.args.run.now.number t)) here (c.in_ok-all-in-Some.ensures.told clean t represents).of_events

pub returns-in-None-clause-told : goal.returns-in-None-clause-told
returns-in-None-clause-told g c clean t represents =
    let number = c.args.run.now.number in
    sym (ap (λ counts. numbers_with t number (unwrap_or counts []) c.args.sums) c.in-None.is ∙ none_taken c.args.sums (map cell_numbers (cells_in number t)))
