-- Steps one after another.
use Rattle.std.proofs.Common.{[], ◌∷◌, ◌++◌, refl, sym, subst, append_assoc, append-nil}
use Rattle.run_stores.specs.declared.states.StoreState.{Ghosts}
use Rattle.run_stores.specs.Calls.{IsFaithful}
use Rattle.histories.specs.History.{History, Step}
use Rattle.histories.specs.Legal.{AreLegal}
use Rattle.histories.specs.declared.limits.Limits.{Limits}
use Rattle.histories.specs.Answered.{HasHistory, Answers, Links}

module _ {S : Type 0} (g : Ghosts S) (limits : Limits) where
  pub links_on : (steps : History) (step : Step) (old mid new : S) → Links g limits steps old mid → Answers g limits step.command step.answer mid new → Links g limits (steps ++ step ∷ []) old new
  links_on [] step old mid new same is = subst (λ s. Links g limits (step ∷ []) s new) (sym same) (new, is, refl)
  links_on (t ∷ steps) step old mid new links is = (links.0, links.1, links_on steps step links.0 mid new links.2 is)

  pub links_append : (steps later : History) (old mid new : S) → Links g limits steps old mid → Links g limits later mid new → Links g limits (steps ++ later) old new
  links_append [] later old mid new same links = subst (λ s. Links g limits later s new) (sym same) links
  links_append (t ∷ steps) later old mid new one two = (one.0, one.1, links_append steps later one.0 mid new one.2 two)

  -- the store was faithful from the first step on
  pub links_clean : (steps : History) (old new : S) → Links g limits steps old new → IsFaithful g new → IsFaithful g old
  links_clean [] old new same clean = subst (IsFaithful g) (sym same) clean
  links_clean (step ∷ later) old new links clean = links.1.stepped.stays.was_faithful

  -- each answer is legal after the history and the steps before it
  pub links_legal : (h steps : History) (old new : S) → Links g limits steps old new → HasHistory g h old → AreLegal limits h steps
  links_legal h [] old new same has = tt
  links_legal h (step ∷ later) old new links has = let it = links.1.answered h has in (it.legal, links_legal (h ++ step ∷ []) later links.0 new links.2 it.after)

  -- the store has the history with all of them
  pub links_after : (h steps : History) (old new : S) → Links g limits steps old new → HasHistory g h old → HasHistory g (h ++ steps) new
  links_after h [] old new same has = subst (λ l. HasHistory g l new) (sym (append-nil h)) (subst (HasHistory g h) same has)
  links_after h (step ∷ later) old new links has =
      subst (λ l. HasHistory g l new) (append_assoc h (step ∷ []) later) (links_after (h ++ step ∷ []) later links.0 new links.2 (links.1.answered h has).after)
