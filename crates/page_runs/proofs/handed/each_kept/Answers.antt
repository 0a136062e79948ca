use Rattle.std.proofs.Common.{◌≡◌, ◌<◌, ◌∷◌, [], ℕ, List, fold, map, take, ap, subst, ◌∙◌, arith}
use Rattle.std.proofs.lemmas.List.{take_all}
use Rattle.std.specs.List.{AllByRecursion}
use Rattle.cost_rows.specs.declared.rows.CellRow.{CellRow}
use Rattle.plain_tables.specs.Tables.{StoredCell}
use Rattle.run_stores.specs.Walks.{IsOfAnEvent, cell_numbers}
use Rattle.page_runs.proofs.handed.each_kept.Goals as goal

-- the lines of cells that are of the events
of_events : (events : ℕ) (lines : List StoredCell) → AllByRecursion (λ (c : CellRow ℕ). c.event < events) (map cell_numbers lines) → AllByRecursion (IsOfAnEvent events) lines
of_events events [] all = tt
of_events events (line ∷ lines) all = (all.0, of_events events lines all.1)

pub returns : goal.returns
returns g c lines same =
    let sink = g.T.CellSink in
    let i = c.loop-cell.invariant in
    let all : take c.loop-cell.cell-index c.args.cells.now ≡ c.args.cells.now = take_all _ _ (omega (arith, c.loop-cell.auto.cell-index-end, c.loop-cell-test.false)) in
    let whole = all ∙ same in
    record {
      of_events = of_events c.args.events lines (subst (AllByRecursion (λ (r : CellRow ℕ). r.event < c.args.events)) whole i.of_events);
      comes = i.taken ∙ ap (fold sink.step (sink.meaning c.args.sink)) whole;
    }
