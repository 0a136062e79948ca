-- What is expected by what the reads of a source came to.
use Rattle.std.proofs.Common.{◌≡◌, ℕ, ◌<◌, ◌≤◌, Bool, true, false, if◌then◌else◌, List, length, Option, Some, None, ap, ap₂, ◌∙◌}
use Rattle.std.specs.List.{list_any}
use Rattle.std.proofs.lemmas.Bool.{lt-ltb, le-ltb}
use Rattle.byte_io.specs.Outcomes.{Outcome, bytes_of, is_failed, is_end}
use Rattle.histories.specs.Legal.{once_read}
use Rattle.histories.specs.declared.answers.Answer.{Answer}
use Rattle.histories.specs.declared.answers.Answer.TheVariants.{Refused}
use Rattle.histories.specs.declared.answers.Refusal.TheVariants as reasons

module _ (limit : ℕ) (outcomes : List Outcome) (expected : Answer) where
  abbrev bytes : List ℕ
  bytes = bytes_of outcomes

  abbrev by_reads : Bool → Bool → Bool → Option Answer
  by_reads long failed ended = if long then Some (Refused reasons.TooLong) else if failed then Some (Refused reasons.ReadFault) else if ended then Some expected else None

  pub long_expected : limit < length bytes → once_read limit outcomes expected ≡ Some (Refused reasons.TooLong)
  long_expected long = ap (λ a. by_reads a (list_any is_failed outcomes) (list_any is_end outcomes)) (lt-ltb limit (length bytes) long)

  pub failed_expected : length bytes ≤ limit → list_any is_failed outcomes ≡ true → once_read limit outcomes expected ≡ Some (Refused reasons.ReadFault)
  failed_expected short is = ap₂ (λ a b. by_reads a b (list_any is_end outcomes)) (le-ltb limit (length bytes) short) is

  pub ended_expected : length bytes ≤ limit → list_any is_failed outcomes ≡ false → list_any is_end outcomes ≡ true → once_read limit outcomes expected ≡ Some expected
  ended_expected short sound is = ap₂ (λ a b. by_reads a b (list_any is_end outcomes)) (le-ltb limit (length bytes) short) sound ∙ ap (by_reads false false) is
