-- Refusals.
use Rattle.std.specs.Prelude.{Bool, true, false, Option, Some, None}
use Rattle.histories.specs.declared.answers.Answer.{Answer}
use Rattle.histories.specs.declared.answers.Answer.TheVariants as answers
use Rattle.histories.specs.declared.answers.Refusal.{Refusal}
use Rattle.histories.specs.declared.answers.Refusal.TheVariants as reasons

-- of a group and a run that have to be held
abbrev pub missing_of : Bool → Bool → Option Refusal
missing_of false run = Some reasons.NoSuchGroup
missing_of true false = Some reasons.NoSuchRun
missing_of true true = None

-- a refusal, or else another answer
abbrev pub refused_or : Option Refusal → Answer → Answer
refused_or (Some refusal) answer = answers.Refused refusal
refused_or None answer = answer
