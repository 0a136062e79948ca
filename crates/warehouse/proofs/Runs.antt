-- One command more is run.
use Rattle.std.proofs.Common.{◌≡◌, List, [], ◌∷◌, ◌++◌, length, arith, refl, ap, ◌∙◌}
use Rattle.run_stores.specs.declared.states.StoreState.{Ghosts}
use Rattle.plain_tables.proofs.Lists.{map-append}
use Rattle.run_stores.specs.Calls.{IsFaithful}
use Rattle.byte_io.specs.Outcomes.{Outcome}
use Rattle.histories.specs.History.{History, Step}
use Rattle.histories.specs.declared.answers.Answer.{Answer}
use Rattle.histories.specs.declared.limits.Limits.{Limits}
use Rattle.histories.proofs.Links.{links_on}
use Rattle.warehouse.specs.Answered.{AreCommandsOf, Lent, Says, WasAnswered, WasRun}
use Rattle.warehouse.proofs.Taken.{taken_by}

module _ {R : Type 0} (reads : R → Outcome → R → Type 0) where
  said_on : (list : List (Lent R)) (steps : History) (one : Lent R) (step : Step) → AreCommandsOf reads list steps → Says reads one step.command → AreCommandsOf reads (list ++ one ∷ []) (steps ++ step ∷ [])
  said_on [] [] one step all is = (is, tt)
  said_on [] (t ∷ steps) one step all is = absurd all
  said_on (c ∷ list) [] one step all is = absurd all
  said_on (c ∷ list) (t ∷ steps) one step all is = (all.0, said_on list steps one step all.1 is)

module _ {S R : Type 0} (g : Ghosts S) (reads : R → Outcome → R → Type 0) (limits : Limits) where
  pub run_nothing : (store : S) → WasRun g reads limits [] [] store store
  run_nothing store = record { steps = []; command = tt; answered = refl; taken = taken_by g limits [] store store refl }

  pub run_on : (list : List (Lent R)) (given : List Answer) (old mid new : S) → WasRun g reads limits list given old mid → (one : Lent R) (answer : Answer) → WasAnswered g reads limits one answer mid new → IsFaithful g new
      → WasRun g reads limits (list ++ one ∷ []) (given ++ answer ∷ []) old new
  run_on list given old mid new w one answer is clean =
      let step : Step = record { command = is.command; answer = answer } in
      let links = links_on g limits w.steps step old mid new w.taken.links (is.answers clean) in record {
        steps = w.steps ++ step ∷ [];
        command = said_on reads list w.steps one step w.command is.says;
        answered = map-append (λ (t : Step). t.answer) w.steps (step ∷ []) ∙ ap (λ l. l ++ answer ∷ []) w.answered;
        taken = taken_by g limits (w.steps ++ step ∷ []) old new links;
      }

pub no_items : {X : Type 0} (xs : List X) → length xs ≡ 0 → xs ≡ []
no_items [] none = refl
no_items (x ∷ xs) none = absurd (omega (arith, none))
