-- From a session to what a work over a store comes to.
use Rattle.std.proofs.Common.{◌≡◌, ◌∙◌, ℕ, List, [], Option, Result, Ok, Err, refl, sym, ap, subst, append-nil}
use Rattle.run_stores.specs.declared.states.StoreState.{Ghosts}
use Rattle.histories.specs.History.{Command}
use Rattle.program_stores.specs.Sessions.{answers_of, commands_of, status_after}
use Rattle.histories.specs.Standard.{IsStandard}
use Rattle.program_stores.specs.Works.{WerePrinted}
use Rattle.program_stores.specs.declared.session.Session.{Session}
use Rattle.program_stores.proofs.SessionLemmas.{SoFar, WasCut}
use Rattle.warehouse.specs.Taken.{CameTo}

module _ {W S : Type 0} (g : Ghosts S) (contents : W → Option (List ℕ)) (wanted : List Command → Type 0) where
  -- steps were taken over a store, and printed
  abbrev pub Worked : {E : Type 0} → Result ℕ E → W → W → S → S → Type 0
  Worked result from to old new = CameTo g (λ _ steps. WerePrinted contents wanted result from to steps) old new

  -- all was done in a session that began with status 0
  pub worked_whole : {R N E : Type 0} (list : List Command) (old new : Session R W S N) → IsStandard old.warehouse.limits → old.status ≡ 0 → SoFar g contents list old new → wanted list
      → Worked {E = E} (Ok new.status) old.out new.out old.warehouse.store new.warehouse.store
  worked_whole list old new standard zero w is = record {
    limits = old.warehouse.limits;
    standard = standard;
    steps = w.steps;
    taken = w.took.taken;
    says = record {
      rest = [];
      commands = subst wanted (sym (append-nil (commands_of w.steps) ∙ w.commands)) is;
      told = (refl, w.took.status ∙ ap (λ s. status_after s (answers_of w.steps)) zero, w.printed);
    };
  }

  -- the last answer was printed in part
  pub worked_cut : {R N E : Type 0} (e : E) (old new : Session R W S N) → IsStandard old.warehouse.limits → WasCut g contents wanted old new → Worked (Err e) old.out new.out old.warehouse.store new.warehouse.store
  worked_cut e old new standard w = record {
    limits = old.warehouse.limits;
    standard = standard;
    steps = w.steps;
    taken = w.took.taken;
    says = record { rest = w.rest; commands = w.commands; told = w.printed };
  }

  -- the same by what went into the session and came out of it
  pub came_from : {R N E : Type 0} (old new : Session R W S N) (came result : Result ℕ E) (from to : W) (before after : S) → Worked came old.out new.out old.warehouse.store new.warehouse.store
      → result ≡ came → old.out ≡ from → to ≡ new.out → old.warehouse.store ≡ before → after ≡ new.warehouse.store → Worked result from to before after
  came_from old new came result from to before after it a b c d e =
      subst (λ r. Worked r from to before after) (sym a)
      (subst (λ w. Worked came w to before after) b
      (subst (λ w. Worked came old.out w before after) (sym c)
      (subst (λ s. Worked came old.out new.out s after) d
      (subst (λ s. Worked came old.out new.out old.warehouse.store s) (sym e) it))))
