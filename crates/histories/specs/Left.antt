-- What a crash may leave after commands, one after another.
use Rattle.std.specs.Prelude.{◌≡◌, ◌⊎◌, false, IsTrue, ◌∷◌, ◌++◌}
use Rattle.std.specs.List.{AllByRecursion}
use Rattle.run_stores.specs.Calls.{Holds, LeavesJust}
use Rattle.run_stores.specs.declared.states.StoreState.{Ghosts}
use Rattle.histories.specs.History.{History, Step, with_step}
use Rattle.histories.specs.Legal.{IsFailure, IsLegal}
use Rattle.histories.specs.Representation.{TablesRepresent}
use Rattle.histories.specs.declared.answers.Answer.{Answer}
use Rattle.histories.specs.declared.limits.Limits.{Limits}
use Rattle.histories.specs.Answered.{is_accepted}

-- none of these commands was answered with a change
abbrev pub AreUndone : History → Type 0
AreUndone steps = AllByRecursion (λ (step : Step). is_accepted step.answer ≡ false) steps

-- a command of a history is refused since memory or the store failed, and is done all the same, after what was before it; none behind it was answered with a change
pub record IsDoneUnanswered (limits : Limits) (h left : History) : Type 0 where
  pub before : History
  pub step : Step
  pub later : History
  pub parts : h ≡ before ++ step ∷ later
  pub failed : IsFailure step.answer
  pub undone : AreUndone later
  pub answer : Answer
  pub accepted : IsTrue (is_accepted answer)
  pub legal : IsLegal limits before step.command answer
  pub is : left ≡ with_step before step.command answer

-- what a crash may leave of a history: the whole; or what was before such a command, with it done
abbrev pub MayBecome : Limits → History → History → Type 0
MayBecome limits h left = (left ≡ h) ⊎ IsDoneUnanswered limits h left

module _ {S : Type 0} (g : Ghosts S) (limits : Limits) (h : History) where
  -- lines that tell what a crash may leave of the history
  pub record MayBeLeft (left : g.Left) : Type 0 where
    pub told : History
    pub may : MayBecome limits h told
    pub held : Holds g (TablesRepresent told) left

  -- a crash now leaves such lines
  abbrev pub LeavesHistory : S → Type 0
  LeavesHistory store = LeavesJust g store MayBeLeft
