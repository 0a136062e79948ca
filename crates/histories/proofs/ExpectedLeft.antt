-- An answer that was expected, and what it leaves.
use Rattle.std.proofs.Common.{◌≡◌, refl, sym, subst, ℕ, ◌<◌, ◌≤◌, Bool, true, false, nat_le, Some, inl, arith}
use Rattle.std.proofs.lemmas.Bool.Decides.{nat_tests}
use Rattle.run_stores.specs.declared.states.StoreState.{Ghosts}
use Rattle.run_stores.specs.Calls.{Changed, Rests, Represents}
use Rattle.run_stores.proofs.Calls.{changed_as}
use Rattle.plain_tables.specs.Tables.{Tables}
use Rattle.histories.specs.History.{History, Command, with_step}
use Rattle.histories.specs.Legal.{IsInForm, IsLegal, expected_answer}
use Rattle.histories.specs.Representation.{TablesRepresent}
use Rattle.histories.specs.declared.answers.Answer.{Answer}
use Rattle.histories.specs.declared.answers.Answer.TheVariants as answers
use Rattle.histories.specs.declared.limits.Limits.{Limits}
use Rattle.histories.proofs.Held.{IsStill}
use Rattle.histories.proofs.Steps.{tell_same}
use Rattle.histories.specs.Answered.{Follows, RepresentsHistory, WasExpected}

module _ (limits : Limits) (h : History) (command : Command) (form : IsInForm command) where
  legal : (answer : Answer) → expected_answer limits h command ≡ Some answer → IsLegal limits h command answer
  legal answer is = inl (form, inl is)

  -- nothing has changed
  pub was_still : {S : Type 0} (g : Ghosts S) (old new : S) (answer : Answer) → IsStill answer → expected_answer limits h command ≡ Some answer → (s : RepresentsHistory g h old) → Represents g s.t new → WasExpected g limits h command answer new
  was_still g old new answer still is s represents = record { is_expected = is; after = record { t = s.t; represents = represents; agrees = tell_same limits h command answer s.t still s.agrees (legal answer is) } }

  module _ (t : Tables) (is : expected_answer limits h command ≡ Some answers.Done) (agrees : IsLegal limits h command answers.Done → TablesRepresent (with_step h command answers.Done) t) where
    pub was_done : {S : Type 0} (g : Ghosts S) (new : S) → Represents g t new → WasExpected g limits h command answers.Done new
    was_done g new represents = record { is_expected = is; after = record { t = t; represents = represents; agrees = agrees (legal answers.Done is) } }

    pub follows : (next : Tables) → next ≡ t → Follows limits command h next
    follows next same = record { answer = answers.Done; accepted = refl; legal = legal answers.Done is; agrees = subst (λ u. TablesRepresent (with_step h command answers.Done) u) (sym same) (agrees (legal answers.Done is)) }

-- ---- what a call makes of the tables, as a step of a history

module _ {S : Type 0} (g : Ghosts S) where
  pub told_stands : (h : History) (store : S) → Rests g (TablesRepresent h) store → RepresentsHistory g h store
  told_stands h store was = record { t = was.t; represents = was.represents; agrees = was.holds }

  pub steps_by : (limits : Limits) (command : Command) (answered done : Bool) (old new : S) (Before After : Tables → Tables → Type 0)
      → ((h : History) → RepresentsHistory g h old → (t : Tables) × Rests g (Before t) old × ((next : Tables) → After t next → Follows limits command h next))
      → Changed g Before After answered done old new → Changed g TablesRepresent (Follows limits command) answered done old new
  steps_by limits command answered done old new Before After means h = changed_as g Before After TablesRepresent (Follows limits command) answered done old new (λ n was. means n (told_stands n old was)) h

-- ---- a limit and how many are held

pub has_room : (limit count many : ℕ) → count ≡ many → count < limit → nat_le limit many ≡ false
has_room limit count many is less = grind (arith, nat_tests)

pub has_none : (limit count many : ℕ) → count ≡ many → limit ≤ count → nat_le limit many ≡ true
has_none limit count many is more = grind (arith, nat_tests)
