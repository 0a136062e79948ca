use Rattle.std.proofs.Common.{map, fold, refl, subst, ap, ◌++◌, ◌∙◌}
use Rattle.run_stores.proofs.Calls.{asked_reads_yet}
use Rattle.run_stores.specs.Names.{named_call}
use Rattle.plain_tables.specs.RunRows.{calls_in, cells_in}
use Rattle.run_stores.specs.Book.{cell_held}
use Rattle.store_calls.specs.InclusiveParts.{Counting, AreHeld, costs_named, sums_in, with_call_row}
use Rattle.store_calls.specs.InclusiveRuns.{call_rows, self_rows}
use Rattle.selected_runs.proofs.NamedRowLemmas.{parts_named}
use Rattle.store_calls.proofs.InclusiveLemmas.{both_taken}
use Rattle.store_calls.proofs.including.add_callgrind.Goals as goal

pub returns-clause-told : goal.returns-clause-told
returns-clause-told g c clean t represents apart held =
    let counts = c.args.counts.now in
    let lines = cells_in c.args.run.now.number t in
    let start : Counting = record { counts = counts; sums = sums_in c.args.parts } in
    let early = (c.in_ok-all.ensures.asks clean).stays.was_faithful in
    let own = (c.in_ok-own.ensures.told early t represents).comes in
    let mid = asked_reads_yet g.S.StoreState t _ _ (c.in_ok-own.ensures.asks early) represents in
    let walk = c.in_ok-all.ensures.told clean t mid in
    let calls = map (named_call t.names) walk.rows in
    let came = ap (λ (m : Counting). m.sums) (walk.comes ∙ ap (λ m. fold with_call_row m walk.rows) own) in
    let taken = both_taken t.names apart start lines walk.rows (subst (AreHeld t.names) came held) in (
      taken.0,
      (
        self_rows counts (map (cell_held t.names) lines) ++ call_rows counts calls,
        (calls, parts_named t.names (calls_in c.args.run.now.number t) walk.rows walk.parts_are, refl),
        ap (costs_named t.names) came ∙ taken.1,
      ),
    )

pub returns-clause-of_events : goal.returns-clause-of_events
returns-clause-of_events g c clean t represents = (c.in_ok-own.ensures.told (c.in_ok-all.ensures.asks clean).stays.was_faithful t represents).of_events
