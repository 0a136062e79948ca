use Rattle.std.proofs.Common.{inl, subst}
use Rattle.byte_io.specs.Reads.{IsUnreadFor}
use Rattle.file_reading.proofs.ReadersLemmas.{answer_too_long, answer_failed}
use Rattle.file_reading.proofs.files.total_read.Goals as goal

pub returns-in-Ok : goal.returns-in-Ok
returns-in-Ok g c = let was = c.in-Ok.ensures in (was.outcomes, was.came, inl was.read)

pub returns-in-Err-Failed : goal.returns-in-Err-Failed
returns-in-Err-Failed g c =
    let was = c.in-Err-Failed.ensures in
    (was.outcomes, was.came, answer_failed was.outcomes c.refused.result (subst (IsUnreadFor 1073741824 was.outcomes) c.in-Err-Failed.field-0-is was.read) c.refused.ensures)

pub returns-in-Err-TooLong : goal.returns-in-Err-TooLong
returns-in-Err-TooLong g c =
    let was = c.in-Err-TooLong.ensures in
    (was.outcomes, was.came, answer_too_long was.outcomes c.refused-in-Err-TooLong.result (subst (IsUnreadFor 1073741824 was.outcomes) c.in-Err-TooLong.field-0-is was.read) c.refused-in-Err-TooLong.ensures)
