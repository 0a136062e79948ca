use Rattle.std.proofs.Common.{◌≡◌, map, take}
use Rattle.sqlite_record.specs.Record.{decode}
use Rattle.page_files.specs.Places.{rows_given}
use Rattle.line_fills.specs.Rows.{numbered}
use Rattle.line_fills.proofs.records.Records.rows.Given as goal

pub record AreRows (P Q : Type 0) : Type 0 where
  pub rows : P
  pub records : Q

abbrev pub invariant-loop-at : goal.invariant-loop-at
invariant-loop-at l = AreRows (rows_given l.rows.items ≡ numbered l.first (take l.at (map decode l.fn.self))) (map (λ row. row.1.now) l.rows.items ≡ take l.at l.fn.self)
