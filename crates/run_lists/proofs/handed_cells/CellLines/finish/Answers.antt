use Rattle.run_lists.proofs.handed_cells.CellLines.finish.Goals as goal

pub returns : goal.returns
returns g c events start lines was = was.folded
