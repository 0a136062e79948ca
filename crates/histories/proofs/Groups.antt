-- Which groups there are after one step more.
use Rattle.std.proofs.Common.{◌≡◌, ℕ, Bool, true, false, not, ◌||◌, if◌then◌else◌, cond, List, [], ◌∷◌, ◌++◌, filter, Option, Some, None, refl, sym, ap, ap₂, ◌∙◌, append-nil, append_assoc}
use Rattle.std.specs.Str.{bytes_eq}
use Rattle.std.proofs.lemmas.List.Elements.{filter-append}
use Rattle.histories.specs.History.{Command, MakeGroup, DropGroup, Step, History, groups, made_by, drops, is_dropped, unless_dropped}
use Rattle.histories.specs.declared.answers.Answer.{Answer}
use Rattle.histories.specs.declared.answers.Answer.TheVariants.{Run, Done}
use Rattle.histories.proofs.Held.{IsStill}
use Rattle.histories.proofs.Tests.{any-append, filter_all, filter_same, bytes-flip}

-- what a step leaves, and what it adds
abbrev pub stays : Command → Answer → List ℕ → Bool
stays command answer name = not (drops name command answer)

abbrev pub made : Command → Answer → List (List ℕ)
made command answer = unless_dropped (made_by command answer) []

unless_more : (made : Option (List ℕ)) (later : History) (step : Step) → unless_dropped made (later ++ step ∷ []) ≡ filter (stays step.command step.answer) (unless_dropped made later)
unless_more None later step = refl
unless_more (Some name) later step = ap (λ b. if b then [] else name ∷ []) (any-append (λ (t : Step). drops name t.command t.answer) later (step ∷ [])) ∙ go (is_dropped name later)
  where
    one : (b : Bool) → (if b || false then [] else name ∷ []) ≡ cond (not b) (name ∷ []) []
    one true = refl
    one false = refl

    go : (a : Bool) → (if a || (drops name step.command step.answer || false) then [] else name ∷ []) ≡ filter (stays step.command step.answer) (if a then [] else name ∷ [])
    go true = refl
    go false = one (drops name step.command step.answer)

pub groups_more : (h : History) (step : Step) → groups (h ++ step ∷ []) ≡ filter (stays step.command step.answer) (groups h) ++ made step.command step.answer
groups_more [] step = append-nil (made step.command step.answer)
groups_more (first ∷ later) step =
    ap₂ ◌++◌ (unless_more (made_by first.command first.answer) later step) (groups_more later step)
    ∙ sym (append_assoc (filter (stays step.command step.answer) (unless_dropped (made_by first.command first.answer) later)) (filter (stays step.command step.answer) (groups later)) (made step.command step.answer))
    ∙ ap (λ l. l ++ made step.command step.answer) (sym (filter-append (stays step.command step.answer) (unless_dropped (made_by first.command first.answer) later) (groups later)))

-- answers but `Done` leave them as they were
abbrev pub IsNotDone : Answer → Type 0
IsNotDone Done = ⊥
IsNotDone answer = Unit {0}

other_drops : (name : List ℕ) (command : Command) (answer : Answer) → IsNotDone answer → drops name command answer ≡ false
other_drops name (DropGroup g) Done other = absurd other
other_drops name (DropGroup g) answer other = refl
other_drops name command answer other = refl

other_made : (command : Command) (answer : Answer) → IsNotDone answer → made command answer ≡ []
other_made (MakeGroup g) Done other = absurd other
other_made (MakeGroup g) answer other = refl
other_made command answer other = refl

pub groups_other : (h : History) (command : Command) (answer : Answer) → IsNotDone answer → groups (h ++ record { command = command; answer = answer } ∷ []) ≡ groups h
groups_other h command answer other =
    groups_more h (record { command = command; answer = answer })
    ∙ ap₂ ◌++◌ (filter_all (stays command answer) (groups h) (λ name. ap not (other_drops name command answer other))) (other_made command answer other)
    ∙ append-nil (groups h)

pub still_not_done : (answer : Answer) → IsStill answer → IsNotDone answer
still_not_done (Run n) still = absurd still
still_not_done Done still = absurd still
still_not_done answer still = tt

-- and so do these commands
abbrev pub IsNoGroup : Command → Type 0
IsNoGroup (MakeGroup name) = ⊥
IsNoGroup (DropGroup name) = ⊥
IsNoGroup command = Unit {0}

no_drops : (name : List ℕ) (command : Command) → IsNoGroup command → drops name command Done ≡ false
no_drops name (DropGroup g) of = absurd of
no_drops name command of = refl

no_made : (command : Command) → IsNoGroup command → made command Done ≡ []
no_made (MakeGroup g) of = absurd of
no_made command of = refl

pub groups_same : (h : History) (command : Command) → IsNoGroup command → groups (h ++ record { command = command; answer = Done } ∷ []) ≡ groups h
groups_same h command of =
    groups_more h (record { command = command; answer = Done })
    ∙ ap₂ ◌++◌ (filter_all (stays command Done) (groups h) (λ name. ap not (no_drops name command of))) (no_made command of)
    ∙ append-nil (groups h)

pub groups_made : (h : History) (name : List ℕ) → groups (h ++ record { command = MakeGroup name; answer = Done } ∷ []) ≡ groups h ++ name ∷ []
groups_made h name =
    groups_more h (record { command = MakeGroup name; answer = Done }) ∙ ap (λ l. l ++ name ∷ []) (filter_all (stays (MakeGroup name) Done) (groups h) (λ other. refl))

pub groups_dropped : (h : History) (name : List ℕ) → groups (h ++ record { command = DropGroup name; answer = Done } ∷ []) ≡ filter (λ other. not (bytes_eq other name)) (groups h)
groups_dropped h name =
    groups_more h (record { command = DropGroup name; answer = Done }) ∙ append-nil (filter (stays (DropGroup name) Done) (groups h))
    ∙ filter_same (stays (DropGroup name) Done) (λ other. not (bytes_eq other name)) (groups h) (λ other. ap not (bytes-flip name other))
