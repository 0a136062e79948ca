use Rattle.std.proofs.Common.{map, take}
use Rattle.line_fills.specs.Records.{AreRecordsOf}
use Rattle.line_fills.specs.Rows.{entries_at}
use Rattle.line_fills.proofs.batches.entry_records.Given as goal

abbrev pub invariant-loop-place : goal.invariant-loop-place
invariant-loop-place g l = AreRecordsOf (entries_at l.columns l.first (map g.L.PageLine.columns l.lines) (take l.place-index l.places)) l.records
