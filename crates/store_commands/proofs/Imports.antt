-- What is expected for a file that was read to its end.
use Rattle.std.proofs.Common.{◌≡◌, ℕ, Bool, true, false, nat_le, List, [], ◌∷◌, length, Option, Some, None, Result, Ok, Err, option_map, refl, sym, ap, ap₂, subst, ◌∙◌}
use Rattle.sha2.specs.Sha256.{sha256}
use Rattle.cg_text.specs.declared.faults.Fault as faults
use Rattle.cg_formulas.specs.declared.heads.FileHead.{FileHead}
use Rattle.cost_rows.specs.Admit.{overflow_of}
use Rattle.cost_rows.specs.Content.{Content}
use Rattle.cost_rows.specs.Totals.{AreTotals}
use Rattle.plain_tables.specs.Sound.{AreSound}
use Rattle.plain_tables.specs.Tables.{Tables}
use Rattle.run_stores.specs.Totals.{IsHeldIn}
use Rattle.profile_records.specs.declared.kinds.Kind.{Kind}
use Rattle.profile_records.specs.declared.kinds.Kind.TheVariants.{Callgrind, Folded}
use Rattle.histories.specs.Formats.{today}
use Rattle.histories.specs.Files.{IsHeadOf, rows_of, events_of, fault_of}
use Rattle.byte_io.specs.Outcomes.{Outcome, bytes_of}
use Rattle.histories.proofs.ReadsExpected as by_reads
use Rattle.histories.specs.History.{History, Import, held, next}
use Rattle.histories.specs.Legal.{expected_answer, expected_of_file, number_of, faulty, first_or, when}
use Rattle.histories.specs.Representation.{TablesRepresent}
use Rattle.histories.specs.Sums.{excess_of, excess_at}
use Rattle.histories.specs.declared.answers.Answer.{Answer}
use Rattle.histories.specs.declared.answers.Answer.TheVariants as answers
use Rattle.histories.specs.declared.answers.Excess.{Excess}
use Rattle.histories.specs.declared.answers.Refusal.{Refusal}
use Rattle.histories.specs.declared.answers.Refusal.TheVariants as reasons
use Rattle.histories.specs.declared.limits.Limits.{Limits}
use Rattle.histories.proofs.Excesses.{tells_excess}
use Rattle.histories.proofs.Tells.{tells_many}
use Rattle.byte_io.specs.Reads.{HasEnded}
use Rattle.store_commands.specs.FromTables.{IsExcess, IsNumber}
use Rattle.store_commands.specs.Refused.{no_room, number_unless, room_refusal}
use Rattle.histories.specs.Refusals.{refused_or}

-- ---- sums

pub head_events : (kind : Kind) (head : FileHead) (bytes : List ℕ) → IsHeadOf kind head bytes → head.events ≡ events_of (today kind) bytes
head_events Callgrind head bytes is = is.events
head_events Folded head bytes is = is.events

module _ (h : History) (t : Tables) (kind : Kind) (bytes : List ℕ) (head : FileHead) (c : Content) (was : AreSound t) (represent : TablesRepresent h t) (is : IsHeadOf kind head bytes) (rows_are : c ≡ rows_of kind bytes) where
  excess_told : (excess : Option Excess) → IsExcess head c t excess → excess ≡ excess_of (held h) (today kind) bytes
  excess_told excess it =
      let named = head_events kind head bytes is in
      it.excess_is
      ∙ ap (λ l. option_map (excess_at l) (overflow_of it.held it.added)) named
      ∙ sym (tells_excess h t kind bytes it.held it.added was represent (subst (λ l. IsHeldIn t l it.held) named it.are_held)
      (subst (λ n. AreTotals it.added (rows_of kind bytes) n) (ap length named) (subst (λ x. AreTotals it.added x (length head.events)) rows_are it.are_added)))

  -- where the lines represent a history, the number is what follows from it
  pub number_told : (limits : Limits) (number : Result ℕ Refusal) → IsNumber limits head c t number → number ≡ number_unless (room_refusal limits h kind bytes) (next h)
  number_told limits number it =
      it.number_is
      ∙ ap (λ e. number_unless (no_room e (nat_le limits.runs (length t.runs)) (nat_le limits.numbers t.next)) t.next) (excess_told it.excess it.is_excess)
      ∙ ap₂ (λ many n. number_unless (no_room (excess_of (held h) (today kind) bytes) (nat_le limits.runs many) (nat_le limits.numbers n)) n) (tells_many h t represent) represent.next

-- ---- room

module _ (limits : Limits) (head : FileHead) (c : Content) (t : Tables) where
  pub number_over : (excess : Excess) → IsExcess head c t (Some excess) → IsNumber limits head c t (Err (reasons.Overflow excess))
  number_over excess is = record { excess = Some excess; is_excess = is; number_is = refl }

  module _ (fits : IsExcess head c t None) where
    abbrev by_room : Bool → Bool → Result ℕ Refusal
    by_room full spent = number_unless (no_room None full spent) t.next

    pub number_full : nat_le limits.runs (length t.runs) ≡ true → IsNumber limits head c t (Err reasons.Full)
    number_full full = record { excess = None; is_excess = fits; number_is = sym (ap (λ b. by_room b (nat_le limits.numbers t.next)) full) }

    pub number_spent : nat_le limits.runs (length t.runs) ≡ false → nat_le limits.numbers t.next ≡ true → IsNumber limits head c t (Err reasons.NumbersSpent)
    number_spent few spent = record { excess = None; is_excess = fits; number_is = sym (ap₂ by_room few spent) }

    pub number_left : nat_le limits.runs (length t.runs) ≡ false → nat_le limits.numbers t.next ≡ false → (n : ℕ) → n ≡ t.next → IsNumber limits head c t (Ok n)
    number_left few some n is_next = record { excess = None; is_excess = fits; number_is = ap (λ k. Ok k) is_next ∙ sym (ap₂ by_room few some) }

-- ---- what is expected

module _ (limits : Limits) (h : History) (kind : Kind) (label : List ℕ) (outcomes : List Outcome) (ended : HasEnded limits.bytes outcomes) where
  abbrev bytes : List ℕ
  bytes = bytes_of outcomes

  pub ended_expected : expected_answer limits h (Import (today kind) label outcomes) ≡ Some (expected_of_file limits h (today kind) bytes)
  ended_expected = by_reads.ended_expected limits.bytes outcomes (expected_of_file limits h (today kind) bytes) ended.reads.within ended.reads.unfailed ended.ended

  abbrev by_answers : Option ℕ → Option (faults.Fault × ℕ) → Answer
  by_answers found fault = first_or
      (option_map answers.Held found
      ∷ option_map faulty fault
      ∷ option_map (λ excess. answers.Refused (reasons.Overflow excess)) (excess_of (held h) (today kind) bytes)
      ∷ when (nat_le limits.runs (length (held h))) (answers.Refused reasons.Full)
      ∷ when (nat_le limits.numbers (next h)) (answers.Refused reasons.NumbersSpent)
      ∷ [])
      (answers.Run (next h))

  pub held_expected : (n : ℕ) → number_of (sha256 bytes) (held h) ≡ Some n → expected_answer limits h (Import (today kind) label outcomes) ≡ Some (answers.Held n)
  held_expected n is = ended_expected ∙ ap (λ found. Some (by_answers found (fault_of (today kind) bytes))) is

  module _ (new : number_of (sha256 bytes) (held h) ≡ None) where
    pub fault_expected : (fault : faults.Fault × ℕ) → fault_of (today kind) bytes ≡ Some fault → expected_answer limits h (Import (today kind) label outcomes) ≡ Some (faulty fault)
    fault_expected fault is = ended_expected ∙ ap₂ (λ found fault. Some (by_answers found fault)) new is

    pub room_expected : fault_of (today kind) bytes ≡ None → expected_answer limits h (Import (today kind) label outcomes) ≡ Some (refused_or (room_refusal limits h kind bytes) (answers.Run (next h)))
    room_expected sound = ended_expected ∙ ap₂ (λ found fault. Some (by_answers found fault)) new sound ∙ ap (λ a. Some a) (same (excess_of (held h) (today kind) bytes) (nat_le limits.runs (length (held h))) (nat_le limits.numbers (next h)))
      where
        same : (e : Option Excess) (full spent : Bool)
            → first_or (option_map (λ excess. answers.Refused (reasons.Overflow excess)) e ∷ when full (answers.Refused reasons.Full) ∷ when spent (answers.Refused reasons.NumbersSpent) ∷ []) (answers.Run (next h))
            ≡ refused_or (no_room e full spent) (answers.Run (next h))
        same (Some excess) full spent = refl
        same None true spent = refl
        same None false true = refl
        same None false false = refl
