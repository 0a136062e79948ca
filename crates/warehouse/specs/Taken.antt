-- Steps that are taken over a store, and what a work over an opened store comes to.
use Rattle.std.specs.Prelude.{◌++◌}
use Rattle.run_stores.specs.declared.states.StoreState.{Ghosts}
use Rattle.histories.specs.History.{History}
use Rattle.histories.specs.Legal.{AreLegal}
use Rattle.histories.specs.Standard.{IsStandard}
use Rattle.histories.specs.declared.limits.Limits.{Limits}
use Rattle.histories.specs.Answered.{HasHistory, Links}

module _ {S : Type 0} (g : Ghosts S) where
  -- each step was taken from the store that the one before left; after a history that the store has, each answer is legal, and the store has the history with all of them
  pub record WereTaken (limits : Limits) (steps : History) (old new : S) : Type 0 where
    pub links : Links g limits steps old new
    pub legal : (h : History) → HasHistory g h old → AreLegal limits h steps
    pub after : (h : History) → HasHistory g h old → HasHistory g (h ++ steps) new

  -- under the standard limits steps were taken, of which this holds
  pub record CameTo (Says : Limits → History → Type 0) (old new : S) : Type 0 where
    pub limits : Limits
    pub standard : IsStandard limits
    pub steps : History
    pub taken : WereTaken limits steps old new
    pub says : Says limits steps
