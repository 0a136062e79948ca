use Rattle.std.proofs.Common.{refl}
use Rattle.plain_tables.specs.RunRows.{cells_in}
use Rattle.selected_runs.proofs.NamedRowLemmas.{cells_named}
use Rattle.selected_runs.proofs.cells.each_named_cell.Goals as goal

pub returns-clause-told : goal.returns-clause-told
returns-clause-told g c clean t represents =
    cells_named (g.S.Names.NameTable.name_rows c.args.names.now) g.T.NamedCellSink.step _ _ c.args.events (cells_in c.args.run t) refl (c.in_ok-all.ensures.told clean t represents)
