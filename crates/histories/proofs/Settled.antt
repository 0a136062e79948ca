-- An answer and what it leaves, whatever came of the calls below.
use Rattle.std.specs.Result.{is_ok, IsErr}
use Rattle.std.proofs.Common.{◌≡◌, ◌⊎◌, ℕ, Bool, false, List, [], ◌∷◌, bytes_eq, ◌||◌, Result, Ok, Err, IfOk, inl, inr, refl, ap₂, subst}
use Rattle.std.specs.List.{AllByRecursion, list_any}
use Rattle.run_stores.specs.declared.states.StoreState.{Ghosts}
use Rattle.run_stores.specs.Calls.{Changed, IsFaithful, IsUsable, Stays}
use Rattle.run_stores.proofs.Calls.{changed_none, stays_if}
use Rattle.plain_tables.specs.Labels.{IsGroupName}
use Rattle.plain_tables.specs.Tables.{Tables}
use Rattle.plain_tables.specs.declared.errors.StoreError.{StoreError}
use Rattle.plain_tables.specs.declared.errors.StoreError.TheVariants as ends
use Rattle.histories.specs.History.{History, Command, groups}
use Rattle.histories.specs.Legal.{IsFailure, IsInForm, IsUnread, IsLegal, IsHistory, has_group}
use Rattle.histories.specs.Representation.{TablesRepresent}
use Rattle.histories.specs.declared.answers.Answer.{Answer}
use Rattle.histories.specs.declared.answers.Answer.TheVariants as answers
use Rattle.histories.specs.declared.answers.Refusal.TheVariants as reasons
use Rattle.histories.specs.declared.limits.Limits.{Limits}
use Rattle.histories.proofs.Held.{IsStill}
use Rattle.histories.proofs.Invariants.{groups_named}
use Rattle.histories.proofs.Steps.{tell_same}
use Rattle.histories.proofs.Tests.{bytes_apart}
use Rattle.histories.proofs.StepsTo.{history_more}
use Rattle.histories.specs.Answered.{is_accepted, has_changed, Follows, RepresentsHistory, HasHistory, WasExpected, IsAnswered, answer_for}

module _ {S : Type 0} (g : Ghosts S) (limits : Limits) (h : History) (command : Command) (old new : S) (has : HasHistory g h old) where
  -- what was there stays, if a legal answer says that nothing changed
  pub still_answered : (answered : Bool) (answer : Answer) → IsStill answer → IsLegal limits h command answer → Changed g TablesRepresent (Follows limits command) answered false old new → IsAnswered g limits h command answer new
  still_answered answered answer still legal stepped = record {
    legal = legal;
    after = record {
      legal = history_more limits h command answer has.legal legal;
      represents = λ usable.
          let s = has.represents (stepped.stays.was_usable usable) in
          record { t = s.t; represents = (stepped.kept refl).represents s.t s.represents usable; agrees = tell_same limits h command answer s.t still s.agrees legal };
    };
  }

  pub settled : (result : Result Answer StoreError) → IsInForm command → (RepresentsHistory g h old → IfOk result (λ answer. WasExpected g limits h command answer new))
      → Changed g TablesRepresent (Follows limits command) (is_ok result) (has_changed result) old new → IsAnswered g limits h command (answer_for result) new
  settled (Ok answer) form answered stepped =
      let it = answered (has.represents (stepped.stays.was_usable (stepped.stays.is_usable refl))) in
      let legal : IsLegal limits h command answer = inl (form, inl it.is_expected) in
      record { legal = legal; after = record { legal = history_more limits h command answer has.legal legal; represents = λ u. it.after } }
  settled (Err ends.Memory) form answered stepped = still_answered false (answers.Refused reasons.Memory) tt (inl (form, inr (inl refl))) stepped
  settled (Err ends.Store) form answered stepped = still_answered false (answers.Refused reasons.Store) tt (inl (form, inr (inr refl))) stepped

module _ {S : Type 0} (g : Ghosts S) (limits : Limits) (command : Command) where
  -- of a call that is refused
  pub steps_err_from : (Before : History → Tables → Type 0) (result : Result Answer StoreError) (old new : S) → IsErr result → Changed g Before (Follows limits command) false false old new
      → Changed g Before (Follows limits command) (is_ok result) (has_changed result) old new
  steps_err_from Before (Ok answer) old new is h = absurd (cc is)
  steps_err_from Before (Err end) old new is h = h

  pub steps_err : (result : Result Answer StoreError) (old new : S) → IsErr result → Changed g TablesRepresent (Follows limits command) false false old new
      → Changed g TablesRepresent (Follows limits command) (is_ok result) (has_changed result) old new
  steps_err result old new is h = steps_err_from TablesRepresent result old new is h

  -- what a call leaves is what its answer leaves
  pub steps_answer : (result : Result Answer StoreError) (old new : S) → Changed g TablesRepresent (Follows limits command) (is_ok result) (has_changed result) old new
      → Changed g TablesRepresent (Follows limits command) (is_accepted (answer_for result)) (is_accepted (answer_for result)) old new
  steps_answer (Ok answer) old new h = record { stays = stays_if g (is_accepted answer) old new h.stays; done = h.done; kept = h.kept; crash = h.crash }
  steps_answer (Err ends.Memory) old new h = h
  steps_answer (Err ends.Store) old new h = h

-- a call that fails may make the store unusable
pub closes_for : {S : Type 0} (g : Ghosts S) (result : Result Answer StoreError) (old new : S) → Stays g (is_ok result) old new → IsUsable g old → IsUsable g new ⊎ IsFailure (answer_for result)
closes_for g (Ok answer) old new h usable = inl (h.is_usable refl)
closes_for g (Err ends.Memory) old new h usable = inr (inl refl)
closes_for g (Err ends.Store) old new h usable = inr (inr refl)

-- ---- the store is not asked

module _ {S : Type 0} (g : Ghosts S) (limits : Limits) (h : History) (command : Command) (store : S) (has : HasHistory g h store) where
  pub untouched : IsFaithful g store → (answer : Answer) → IsStill answer → IsLegal limits h command answer → IsAnswered g limits h command answer store
  untouched clean answer still legal = still_answered g limits h command store store has false answer still legal (changed_none g TablesRepresent (Follows limits command) store clean)

-- ---- names out of form

module _ (limits : Limits) (h : History) where
  pub bad_name : (command : Command) → (IsInForm command → ⊥) → IsUnread command → IsLegal limits h command (answers.Refused reasons.BadName)
  bad_name command out unread = inr (out, unread, refl)

no_such : (name : List ℕ) (names : List (List ℕ)) → (IsGroupName name → ⊥) → AllByRecursion IsGroupName names → list_any (λ other. bytes_eq other name) names ≡ false
no_such name [] out all = refl
no_such name (other ∷ names) out all = ap₂ (λ a b. a || b) (bytes_apart other name (λ same. out (subst IsGroupName same all.0))) (no_such name names out all.1)

pub no_group_named : (h : History) (name : List ℕ) → IsHistory h → (IsGroupName name → ⊥) → has_group h name ≡ false
no_group_named h name is out = no_such name (groups h) out (groups_named h is).form
