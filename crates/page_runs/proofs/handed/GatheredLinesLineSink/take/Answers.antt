use Rattle.std.proofs.Common.{sym, refl}
use Rattle.prof_store.specs.Lines.{cell_row}
use Rattle.page_runs.proofs.handed.GatheredLinesLineSink.take.Goals as goal

pub returns : goal.returns
returns g c start lines was = (cell_row c.in_ok-line.line, c.in_ok-line.ensures, refl, sym c.get.ensures, (c.in_ok-take_line.ensures start.0 start.1 lines was.0, c.add.ensures lines was.1))
