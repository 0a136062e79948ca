use Rattle.std.proofs.Common.{◌≡◌, fold, length}
use Rattle.sqlite_record.specs.Fields.{fields_left}
use Rattle.sqlite_record.specs.Record.{decode}
use Rattle.sqlite_rules.specs.Edit.{id_in}
use Rattle.row_writes.specs.Under.{entry_id}
use Rattle.row_writes.proofs.under.last_number.Given as goal

abbrev pub invariant-loop-value : goal.invariant-loop-value
invariant-loop-value l = fold (λ _ value. id_in value) l.last (fields_left l.fields) ≡ entry_id (decode l.payload)

abbrev pub decreases-loop-value : goal.decreases-loop-value
decreases-loop-value l = length (fields_left l.fields)
