use Rattle.std.proofs.Common.{take}
use Rattle.line_fills.specs.Written.{HasValues}
use Rattle.line_fills.proofs.batches.push_columns.Given as goal

abbrev pub invariant-loop-at : goal.invariant-loop-at
invariant-loop-at g l = HasValues l.encoder (take l.at (g.L.PageLine.columns l.line))
