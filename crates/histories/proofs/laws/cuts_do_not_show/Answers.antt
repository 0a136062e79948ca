use Rattle.std.proofs.Common.{ℕ, Bool, nat_lt, length, if◌then◌else◌, List, Option, Some, None, ap, ap₂, ◌∙◌}
use Rattle.std.specs.List.{list_any}
use Rattle.histories.specs.Formats.{Format}
use Rattle.byte_io.specs.Outcomes.{bytes_of, is_failed, is_end}
use Rattle.histories.specs.History.{History}
use Rattle.histories.specs.Legal.{expected_of_file}
use Rattle.histories.specs.declared.answers.Answer.{Answer}
use Rattle.histories.specs.declared.answers.Answer.TheVariants.{Refused}
use Rattle.histories.specs.declared.answers.Refusal.TheVariants.{TooLong, ReadFault}
use Rattle.histories.specs.declared.limits.Limits.{Limits}
use Rattle.histories.proofs.Cuts.{tell_same}
use Rattle.histories.proofs.laws.cuts_do_not_show.Goals as goal

abbrev by_bytes : Limits → History → Format → List ℕ → Bool → Bool → Option Answer
by_bytes limits h format bytes failed over =
    if nat_lt limits.bytes (length bytes) then Some (Refused TooLong) else if failed then Some (Refused ReadFault) else if over then Some (expected_of_file limits h format bytes) else None

pub returns-clause-answers : goal.returns-clause-answers
returns-clause-answers c format label xs ys alike limits h =
    ap (λ bytes. by_bytes limits h format bytes (list_any is_failed xs) (list_any is_end xs)) alike.bytes
    ∙ ap₂ (by_bytes limits h format (bytes_of ys)) alike.failed alike.ended

pub returns-clause-tables : goal.returns-clause-tables
returns-clause-tables c format label xs ys same limits h answer t is legal represent = tell_same h format label xs ys answer same limits t is legal represent
