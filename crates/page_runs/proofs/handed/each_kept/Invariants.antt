use Rattle.std.proofs.Common.{◌≡◌, ◌<◌, ℕ, fold, take}
use Rattle.std.specs.List.{AllByRecursion}
use Rattle.cost_rows.specs.declared.rows.CellRow.{CellRow}
use Rattle.page_runs.proofs.handed.each_kept.Given as goal

-- the cells so far are of the events, and were taken
abbrev pub invariant-loop-cell : goal.invariant-loop-cell
invariant-loop-cell g l = record {
  of_events : AllByRecursion (λ (c : CellRow ℕ). c.event < l.events) (take l.cell-index l.cells);
  taken : g.T.CellSink.meaning l.sink ≡ fold g.T.CellSink.step (g.T.CellSink.meaning l.fn.sink) (take l.cell-index l.cells);
}
