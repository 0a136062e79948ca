-- What a legal answer says of what was held.
use Rattle.std.proofs.Common.{◌≡◌, ℕ, Bool, true, false, not, nat_lt, nat_le, if◌then◌else◌, List, [], ◌∷◌, length, Option, Some, None, option_map, refl, inl, inr}
use Rattle.std.specs.List.{list_any}
use Rattle.sha2.specs.Sha256.{sha256}
use Rattle.cg_text.specs.declared.faults.Fault as faults
use Rattle.plain_tables.specs.Labels.{IsGroupName}
use Rattle.histories.specs.Formats.{Format}
use Rattle.histories.specs.Files.{fault_of}
use Rattle.byte_io.specs.Outcomes.{Outcome, bytes_of, is_failed, is_end}
use Rattle.histories.specs.History.{Command, Import, MakeGroup, Join, SetBaseline, History, held, next, groups}
use Rattle.histories.specs.Legal.{IsLegal, IsInForm, expected_answer, expected_of_file, first_or, when, faulty, number_of, has_run, has_group}
use Rattle.histories.specs.Sums.{excess_of}
use Rattle.histories.specs.declared.limits.Limits.{Limits}
use Rattle.histories.specs.declared.answers.Answer.{Answer}
use Rattle.histories.specs.declared.answers.Answer.TheVariants.{Run, Held, Done, Text, Refused}
use Rattle.histories.specs.declared.answers.Excess.{Excess}
use Rattle.histories.specs.declared.answers.Refusal.{Refusal}
use Rattle.histories.specs.declared.answers.Refusal.TheVariants as reasons

-- an answer that is no refusal is the expected one
abbrev pub IsTaken : Answer → Type 0
IsTaken (Refused refusal) = ⊥
IsTaken answer = Unit {0}

refused_not : (answer : Answer) (refusal : Refusal) → IsTaken answer → answer ≡ Refused refusal → ⊥
refused_not (Refused other) refusal is same = is
refused_not (Run n) refusal is same = cc
refused_not (Held n) refusal is same = cc
refused_not Done refusal is same = cc
refused_not (Text text) refusal is same = cc

pub was_expected : (limits : Limits) (h : History) (command : Command) (answer : Answer) → IsTaken answer → IsLegal limits h command answer → IsInForm command × (expected_answer limits h command ≡ Some answer)
was_expected limits h command answer is legal = elim legal [
  | inl form ↦ (
    form.0,
    elim form.1 [
      | inl same ↦ same
      | inr failure ↦ elim failure [ inl memory ↦ absurd (refused_not answer reasons.Memory is memory) | inr store ↦ absurd (refused_not answer reasons.Store is store) ]
    ],
  )
  | inr bad ↦ absurd (refused_not answer reasons.BadName is bad.2)
]

-- ---- groups

pub made_legal : (limits : Limits) (h : History) (name : List ℕ) → IsLegal limits h (MakeGroup name) Done → IsGroupName name × (has_group h name ≡ false)
made_legal limits h name legal = let is = was_expected limits h (MakeGroup name) Done tt legal in (is.0, go (has_group h name) is.1)
  where
    go : (b : Bool) → Some (first_or (when b (Refused reasons.GroupTaken) ∷ when (nat_le limits.groups (length (groups h))) (Refused reasons.Full) ∷ []) Done) ≡ Some Done → b ≡ false
    go true e = absurd cc
    go false e = refl

both : (a b : Bool) → Some (first_or (when (not a) (Refused reasons.NoSuchGroup) ∷ when (not b) (Refused reasons.NoSuchRun) ∷ []) Done) ≡ Some Done → (a ≡ true) × (b ≡ true)
both true true e = (refl, refl)
both true false e = absurd cc
both false b e = absurd cc

pub joined_legal : (limits : Limits) (h : History) (name : List ℕ) (n : ℕ) → IsLegal limits h (Join name n) Done → (has_group h name ≡ true) × (has_run h n ≡ true)
joined_legal limits h name n legal = both (has_group h name) (has_run h n) (was_expected limits h (Join name n) Done tt legal).1

pub based_legal : (limits : Limits) (h : History) (name : List ℕ) (n : ℕ) → IsLegal limits h (SetBaseline name n) Done → (has_group h name ≡ true) × (has_run h n ≡ true)
based_legal limits h name n legal = both (has_group h name) (has_run h n) (was_expected limits h (SetBaseline name n) Done tt legal).1

-- ---- imports

module _ (limits : Limits) (h : History) (format : Format) (bytes : List ℕ) (n : ℕ) where
  pub run_expected : expected_of_file limits h format bytes ≡ Run n → (n ≡ next h) × (number_of (sha256 bytes) (held h) ≡ None)
  run_expected is = first (number_of (sha256 bytes) (held h)) refl is
    where
      spent : (e : Bool) → first_or (when e (Refused reasons.NumbersSpent) ∷ []) (Run (next h)) ≡ Run n → n ≡ next h
      spent true same = absurd cc
      spent false same = cc

      full : (d e : Bool) → first_or (when d (Refused reasons.Full) ∷ when e (Refused reasons.NumbersSpent) ∷ []) (Run (next h)) ≡ Run n → n ≡ next h
      full true e same = absurd cc
      full false e same = spent e same

      excess : (c : Option Excess) (d e : Bool) → first_or (option_map (λ excess. Refused (reasons.Overflow excess)) c ∷ when d (Refused reasons.Full) ∷ when e (Refused reasons.NumbersSpent) ∷ []) (Run (next h)) ≡ Run n → n ≡ next h
      excess (Some c) d e same = absurd cc
      excess None d e same = full d e same

      fault : (b : Option (faults.Fault × ℕ)) (c : Option Excess) (d e : Bool)
          → first_or (option_map faulty b ∷ option_map (λ excess. Refused (reasons.Overflow excess)) c ∷ when d (Refused reasons.Full) ∷ when e (Refused reasons.NumbersSpent) ∷ []) (Run (next h)) ≡ Run n → n ≡ next h
      fault (Some b) c d e same = absurd cc
      fault None c d e same = excess c d e same

      first : (a : Option ℕ) → number_of (sha256 bytes) (held h) ≡ a
          → first_or (option_map Held a ∷ option_map faulty (fault_of format bytes) ∷ option_map (λ excess. Refused (reasons.Overflow excess)) (excess_of (held h) format bytes)
          ∷ when (nat_le limits.runs (length (held h))) (Refused reasons.Full) ∷ when (nat_le limits.numbers (next h)) (Refused reasons.NumbersSpent) ∷ []) (Run (next h)) ≡ Run n
          → (n ≡ next h) × (number_of (sha256 bytes) (held h) ≡ None)
      first (Some m) here same = absurd cc
      first None here same = (fault (fault_of format bytes) (excess_of (held h) format bytes) (nat_le limits.runs (length (held h))) (nat_le limits.numbers (next h)) same, here)

  -- and the file has no fault, and no sum over it and those that are held is above its bound
  sound_expected : expected_of_file limits h format bytes ≡ Run n → (fault_of format bytes ≡ None) × (excess_of (held h) format bytes ≡ None)
  sound_expected is = go (number_of (sha256 bytes) (held h)) (fault_of format bytes) (excess_of (held h) format bytes) (nat_le limits.runs (length (held h))) (nat_le limits.numbers (next h)) is
    where
      go : (a : Option ℕ) (b : Option (faults.Fault × ℕ)) (c : Option Excess) (d e : Bool)
          → first_or (option_map Held a ∷ option_map faulty b ∷ option_map (λ excess. Refused (reasons.Overflow excess)) c ∷ when d (Refused reasons.Full) ∷ when e (Refused reasons.NumbersSpent) ∷ []) (Run (next h)) ≡ Run n
          → (b ≡ None) × (c ≡ None)
      go (Some m) b c d e same = absurd cc
      go None (Some b) c d e same = absurd cc
      go None None (Some c) d e same = absurd cc
      go None None None d e same = (refl, refl)

-- an import that is answered with a number was answered by its whole file
file_was_expected : (limits : Limits) (h : History) (format : Format) (label : List ℕ) (outcomes : List Outcome) (n : ℕ) → IsLegal limits h (Import format label outcomes) (Run n) → expected_of_file limits h format (bytes_of outcomes) ≡ Run n
file_was_expected limits h format label outcomes n legal =
    go (nat_lt limits.bytes (length (bytes_of outcomes))) (list_any is_failed outcomes) (list_any is_end outcomes) (was_expected limits h (Import format label outcomes) (Run n) tt legal).1
  where
    go : (a b c : Bool)
        → (if a then Some (Refused reasons.TooLong) else if b then Some (Refused reasons.ReadFault) else if c then Some (expected_of_file limits h format (bytes_of outcomes)) else None) ≡ Some (Run n)
        → expected_of_file limits h format (bytes_of outcomes) ≡ Run n
    go true b c same = absurd cc
    go false true c same = absurd cc
    go false false true same = cc
    go false false false same = absurd cc

pub run_legal : (limits : Limits) (h : History) (format : Format) (label : List ℕ) (outcomes : List Outcome) (n : ℕ) → IsLegal limits h (Import format label outcomes) (Run n) → (n ≡ next h) × (number_of (sha256 (bytes_of outcomes)) (held h) ≡ None)
run_legal limits h format label outcomes n legal = run_expected limits h format (bytes_of outcomes) n (file_was_expected limits h format label outcomes n legal)

pub run_fits : (limits : Limits) (h : History) (format : Format) (label : List ℕ) (outcomes : List Outcome) (n : ℕ) → IsLegal limits h (Import format label outcomes) (Run n) → (fault_of format (bytes_of outcomes) ≡ None) × (excess_of (held h) format (bytes_of outcomes) ≡ None)
run_fits limits h format label outcomes n legal = sound_expected limits h format (bytes_of outcomes) n (file_was_expected limits h format label outcomes n legal)
