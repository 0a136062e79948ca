use Rattle.std.proofs.Common.{◌<◌, subst}
use Rattle.prof_store.specs.Lines.{cell_row}
use Rattle.run_lists.proofs.RowSteps.{one_cell}
use Rattle.run_lists.proofs.Steps.{on_ok_then}
use Rattle.run_lists.proofs.handed_cells.CellLines.take_line.Goals as goal

pub returns : goal.returns
returns g c =
    let row = c.in_ok-row.row in
    let r = c.in_ok-row.ensures in
    on_ok_then c.take.result _ _ c.take.ensures (λ steps events start lines was. record {
      events_same = was.events_same;
      folded = one_cell events g.T.CellSink.step start _ _ lines (cell_row c.args.line) row was.folded r.row (subst (λ n. row.event < n) was.events_same r.counted) steps;
    })
