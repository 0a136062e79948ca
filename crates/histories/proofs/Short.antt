-- Each file that is held is as short as the limits have it.
use Rattle.std.proofs.Common.{◌≡◌, ℕ, ◌≤◌, ◌^◌, Bool, true, false, nat_lt, if◌then◌else◌, List, [], ◌∷◌, ◌++◌, length, Option, Some, None, refl, sym, subst, arith}
use Rattle.std.specs.List.{list_any, AllByRecursion}
use Rattle.std.proofs.lemmas.Bool.Decides.{nat_tests}
use Rattle.byte_io.specs.Outcomes.{Outcome, bytes_of, is_failed, is_end}
use Rattle.histories.specs.Formats.{Format}
use Rattle.histories.specs.History.{Command, Import, Step, History, File, held}
use Rattle.histories.specs.Legal.{IsLegal, IsHistory, expected_of_file}
use Rattle.histories.specs.declared.limits.Limits.{Limits}
use Rattle.histories.specs.declared.answers.Answer.{Answer}
use Rattle.histories.specs.declared.answers.Answer.TheVariants.{Run, Refused}
use Rattle.histories.specs.declared.answers.Refusal.TheVariants as reasons
use Rattle.histories.proofs.Expected.{was_expected}
use Rattle.histories.proofs.Held.{stays, taken, held_more}
use Rattle.histories.proofs.Tests.{all_filter, all_push}
use Rattle.histories.proofs.StepsTo.{by_steps}

-- no file is longer than the limits of the program allow
abbrev pub IsShort : File → Type 0
IsShort f = length f.bytes ≤ 2 ^ 30

within : (m n : ℕ) → nat_lt m n ≡ false → n ≤ m
within m n none = grind (arith, nat_tests)

-- an import that is answered with a number was not refused as too long
put_short : (limits : Limits) (h : History) (format : Format) (label : List ℕ) (outcomes : List Outcome) (n : ℕ) → IsLegal limits h (Import format label outcomes) (Run n) → length (bytes_of outcomes) ≤ 2 ^ 30
put_short limits h format label outcomes n legal =
    go (nat_lt limits.bytes (length (bytes_of outcomes))) (within limits.bytes (length (bytes_of outcomes)))
    (if list_any is_failed outcomes then Some (Refused reasons.ReadFault) else if list_any is_end outcomes then Some (expected_of_file limits h format (bytes_of outcomes)) else None)
    (was_expected limits h (Import format label outcomes) (Run n) tt legal).1
  where
    go : (long : Bool) → (long ≡ false → length (bytes_of outcomes) ≤ limits.bytes) → (other : Option Answer) → (if long then Some (Refused reasons.TooLong) else other) ≡ Some (Run n)
        → length (bytes_of outcomes) ≤ 2 ^ 30
    go true low other same = absurd cc
    go false low other same = let few = low refl in let most = limits.bytes_fit in omega (arith, few, most)

taken_short : (limits : Limits) (h : History) (command : Command) (answer : Answer) → IsLegal limits h command answer → AllByRecursion IsShort (taken command answer)
taken_short limits h (Import format label outcomes) (Run n) legal = (put_short limits h format label outcomes n legal, tt)
taken_short limits h (Import format label outcomes) answer legal = tt
taken_short limits h command answer legal = tt

short_step : (limits : Limits) (h : History) (step : Step) → IsHistory h → AllByRecursion IsShort (held h) → IsLegal limits h step.command step.answer → AllByRecursion IsShort (held (h ++ step ∷ []))
short_step limits h step is was legal =
    subst (AllByRecursion IsShort) (sym (held_more h step))
    (all_push IsShort _ (taken step.command step.answer) (all_filter IsShort (stays step.command step.answer) (held h) was) (taken_short limits h step.command step.answer legal))

pub held_short : (h : History) → IsHistory h → AllByRecursion IsShort (held h)
held_short h is = by_steps (λ (k : History). AllByRecursion IsShort (held k)) tt short_step h is
