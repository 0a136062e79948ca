-- Steps that lead from store to store are taken.
use Rattle.run_stores.specs.declared.states.StoreState.{Ghosts}
use Rattle.run_stores.specs.Calls.{IsFaithful}
use Rattle.histories.specs.History.{History}
use Rattle.histories.specs.declared.limits.Limits.{Limits}
use Rattle.histories.specs.Answered.{Links}
use Rattle.histories.proofs.Links.{links_after, links_clean, links_legal}
use Rattle.warehouse.specs.Taken.{WereTaken}

module _ {S : Type 0} (g : Ghosts S) (limits : Limits) where
  pub taken_by : (steps : History) (old new : S) → Links g limits steps old new → WereTaken g limits steps old new
  taken_by steps old new links = record {
    links = links;
    legal = λ h has. links_legal g limits h steps old new links has;
    after = λ h has. links_after g limits h steps old new links has;
  }

  -- the disk was faithful before
  pub taken_clean : (steps : History) (old new : S) → WereTaken g limits steps old new → IsFaithful g new → IsFaithful g old
  taken_clean steps old new taken clean = links_clean g limits steps old new taken.links clean
