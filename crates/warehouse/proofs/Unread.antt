-- Sources that were not read to their end.
use Rattle.std.proofs.Common.{◌≡◌, ◌∙◌, ℕ, false, List, inl, inr, refl}
use Rattle.run_stores.specs.Calls.{Changed, IsFaithful}
use Rattle.run_stores.proofs.Calls.{changed_none, shut_none}
use Rattle.run_stores.specs.declared.states.StoreState.{Ghosts}
use Rattle.byte_io.specs.Outcomes.{Outcome}
use Rattle.histories.specs.History.{History, Command}
use Rattle.histories.specs.Legal.{IsInForm, IsLegal, expected_answer, once_read}
use Rattle.histories.specs.declared.answers.Answer.{Answer}
use Rattle.histories.specs.declared.limits.Limits.{Limits}
use Rattle.histories.proofs.ReadsExpected.{failed_expected, long_expected}
use Rattle.histories.proofs.Held.{IsStill}
use Rattle.histories.specs.Representation.{TablesRepresent}
use Rattle.histories.specs.Answered.{Answers, Follows, is_accepted}
use Rattle.histories.proofs.Settled.{untouched}
use Rattle.warehouse.specs.Answered.{IsShort, unread_for}
use Rattle.byte_io.proofs.Outcomes.{failed_within, failed_is}
use Rattle.byte_io.specs.Reads.{IsUnreadFor}
use Rattle.byte_io.specs.declared.reading.Unread.{Unread}
use Rattle.byte_io.specs.declared.reading.Unread.TheVariants as unreads

unread_still : (unread : Unread) → IsStill (unread_for unread)
unread_still unreads.Memory = tt
unread_still unreads.Failed = tt
unread_still unreads.TooLong = tt

-- a command whose answer waits for the end of a source
module _ (limits : Limits) (command : Command) (form : IsInForm command) (limit : ℕ) (outcomes : List Outcome) (expected : History → Answer) (waits : (h : History) → expected_answer limits h command ≡ once_read limit outcomes (expected h)) where
  unread_legal : (h : History) (unread : Unread) → IsUnreadFor limit outcomes unread → IsLegal limits h command (unread_for unread)
  unread_legal h unreads.Memory is = inl (form, inr (inl refl))
  unread_legal h unreads.Failed is = inl (form, inl (waits h ∙ failed_expected limit outcomes (expected h) (failed_within limit outcomes is) (failed_is limit outcomes is)))
  unread_legal h unreads.TooLong is = inl (form, inl (waits h ∙ long_expected limit outcomes (expected h) is))

  pub unread_answered : {S : Type 0} (g : Ghosts S) (store : S) → IsFaithful g store → (unread : Unread) → IsUnreadFor limit outcomes unread → Answers g limits command (unread_for unread) store store
  unread_answered g store clean unread is = record {
    stepped = stepped unread;
    answered = λ h has. untouched g limits h command store has clean (unread_for unread) (unread_still unread) (unread_legal h unread is);
    closes = λ usable. inl usable;
    shut = shut_none g store;
  }
    where
      none : Changed g TablesRepresent (Follows limits command) false false store store
      none = changed_none g TablesRepresent (Follows limits command) store clean

      stepped : (unread : Unread) → Changed g TablesRepresent (Follows limits command) (is_accepted (unread_for unread)) (is_accepted (unread_for unread)) store store
      stepped unreads.Memory = none
      stepped unreads.Failed = none
      stepped unreads.TooLong = none

-- it is answered with no text
pub unread_short : (most : ℕ) (unread : Unread) → IsShort most (unread_for unread)
unread_short most unreads.Memory = tt
unread_short most unreads.Failed = tt
unread_short most unreads.TooLong = tt
