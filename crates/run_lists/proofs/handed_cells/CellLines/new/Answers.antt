use Rattle.std.proofs.Common.{refl}
use Rattle.run_lists.proofs.RowSteps.{no_cell}
use Rattle.run_lists.proofs.handed_cells.CellLines.new.Goals as goal

pub returns : goal.returns
returns g c = record { events_same = refl; folded = no_cell c.args.events g.T.CellSink.step (g.T.CellSink.meaning c.args.sink) }
