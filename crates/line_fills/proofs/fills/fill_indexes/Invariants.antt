use Rattle.std.proofs.Common.{map}
use Rattle.line_fills.specs.Rows.{numbered}
use Rattle.line_fills.proofs.Indexes.{HasFilledSome}
use Rattle.line_fills.proofs.fills.fill_indexes.Given as goal

abbrev pub invariant-loop-number : goal.invariant-loop-number
invariant-loop-number g l = HasFilledSome l.fn.file l.file l.indexes (numbered l.first (map g.L.PageLine.columns l.lines)) l.number
