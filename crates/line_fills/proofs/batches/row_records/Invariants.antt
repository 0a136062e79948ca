use Rattle.std.proofs.Common.{map, take}
use Rattle.line_fills.specs.Records.{AreRecordsOf}
use Rattle.line_fills.proofs.batches.row_records.Given as goal

abbrev pub invariant-loop-line : goal.invariant-loop-line
invariant-loop-line g l = AreRecordsOf (map g.L.PageLine.columns (take l.line-index l.lines)) l.records
