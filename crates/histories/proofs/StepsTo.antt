-- Histories grow by legal steps.
use Rattle.std.proofs.Common.{[], ◌∷◌, ◌++◌, sym, subst, append-nil, append_assoc}
use Rattle.histories.specs.History.{Command, Step, History}
use Rattle.histories.specs.Legal.{IsLegal, AreLegal, IsHistory, IsHistoryAfter}
use Rattle.histories.specs.declared.answers.Answer.{Answer}
use Rattle.histories.specs.declared.limits.Limits.{Limits}

-- one step more
after_more : (limits : Limits) (before later : History) (step : Step) → IsHistoryAfter before later → IsLegal limits (before ++ later) step.command step.answer → IsHistoryAfter before (later ++ step ∷ [])
after_more limits before [] step was legal = ((limits, subst (λ h. IsLegal limits h step.command step.answer) (append-nil before) legal), tt)
after_more limits before (first ∷ later) step was legal =
    (was.0, after_more limits (before ++ first ∷ []) later step was.1 (subst (λ h. IsLegal limits h step.command step.answer) (sym (append_assoc before (first ∷ []) later)) legal))

pub history_more : (limits : Limits) (h : History) (command : Command) (answer : Answer) → IsHistory h → IsLegal limits h command answer → IsHistory (h ++ record { command = command; answer = answer } ∷ [])
history_more limits h command answer was legal = after_more limits [] h (record { command = command; answer = answer }) was legal

-- many steps more
pub history_all : (limits : Limits) (h steps : History) → IsHistory h → AreLegal limits h steps → IsHistory (h ++ steps)
history_all limits h [] was legal = subst IsHistory (sym (append-nil h)) was
history_all limits h (step ∷ steps) was legal =
    subst IsHistory (append_assoc h (step ∷ []) steps) (history_all limits (h ++ step ∷ []) steps (history_more limits h step.command step.answer was legal.0) legal.1)

pub legal_append : (limits : Limits) (h xs ys : History) → AreLegal limits h xs → AreLegal limits (h ++ xs) ys → AreLegal limits h (xs ++ ys)
legal_append limits h [] ys first later = subst (λ g. AreLegal limits g ys) (append-nil h) later
legal_append limits h (step ∷ xs) ys first later =
    (first.0, legal_append limits (h ++ step ∷ []) xs ys first.1 (subst (λ g. AreLegal limits g ys) (sym (append_assoc h (step ∷ []) xs)) later))

-- what holds of the empty history, and still after each legal step, holds of each history
steps_after : (P : History → Type 0) → ((limits : Limits) (h : History) (step : Step) → IsHistory h → P h → IsLegal limits h step.command step.answer → P (h ++ step ∷ []))
    → (before later : History) → IsHistory before → P before → IsHistoryAfter before later → P (before ++ later)
steps_after P keep before [] was p is = subst P (sym (append-nil before)) p
steps_after P keep before (step ∷ later) was p is =
    subst P (append_assoc before (step ∷ []) later)
    (steps_after P keep (before ++ step ∷ []) later (history_more is.0.0 before step.command step.answer was is.0.1) (keep is.0.0 before step was p is.0.1) is.1)

pub by_steps : (P : History → Type 0) → P [] → ((limits : Limits) (h : History) (step : Step) → IsHistory h → P h → IsLegal limits h step.command step.answer → P (h ++ step ∷ [])) → (h : History) → IsHistory h → P h
by_steps P none keep h is = steps_after P keep [] h tt none is
