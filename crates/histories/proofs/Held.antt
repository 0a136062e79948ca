-- Which files are held after one step more.
use Rattle.std.proofs.Common.{◌≡◌, ℕ, ◌+◌, suc, Bool, true, false, not, ◌||◌, ◌==◌, if◌then◌else◌, List, [], ◌∷◌, ◌++◌, filter, length, Option, Some, None, refl, sym, ap, ap₂, ◌∙◌, append-nil, append_assoc, arith, cond}
use Rattle.std.proofs.lemmas.List.Elements.{filter-append}
use Rattle.std.proofs.lemmas.List.{length-append}
use Rattle.histories.specs.Formats.{Format}
use Rattle.byte_io.specs.Outcomes.{Outcome, bytes_of}
use Rattle.histories.specs.History.{Command, Import, Remove, Step, History, File, held, next, is_run, taken_by, removes, is_removed, unless_removed}
use Rattle.histories.specs.declared.answers.Answer.{Answer}
use Rattle.histories.specs.declared.answers.Answer.TheVariants.{Run, Held, Done, Text, Refused}
use Rattle.histories.proofs.Tests.{any-append, filter_all, filter_same, number-flip}

-- what a step leaves, and what it adds
abbrev pub stays : Command → Answer → File → Bool
stays command answer f = not (removes f.number command answer)

abbrev pub taken : Command → Answer → List File
taken command answer = unless_removed (taken_by command answer) []

unless_more : (taken : Option File) (later : History) (step : Step) → unless_removed taken (later ++ step ∷ []) ≡ filter (stays step.command step.answer) (unless_removed taken later)
unless_more None later step = refl
unless_more (Some f) later step = ap (λ b. if b then [] else f ∷ []) (any-append (λ (t : Step). removes f.number t.command t.answer) later (step ∷ [])) ∙ go (is_removed f.number later)
  where
    one : (b : Bool) → (if b || false then [] else f ∷ []) ≡ cond (not b) (f ∷ []) []
    one true = refl
    one false = refl

    go : (a : Bool) → (if a || (removes f.number step.command step.answer || false) then [] else f ∷ []) ≡ filter (stays step.command step.answer) (if a then [] else f ∷ [])
    go true = refl
    go false = one (removes f.number step.command step.answer)

pub held_more : (h : History) (step : Step) → held (h ++ step ∷ []) ≡ filter (stays step.command step.answer) (held h) ++ taken step.command step.answer
held_more [] step = append-nil (taken step.command step.answer)
held_more (first ∷ later) step =
    ap₂ ◌++◌ (unless_more (taken_by first.command first.answer) later step) (held_more later step)
    ∙ sym (append_assoc (filter (stays step.command step.answer) (unless_removed (taken_by first.command first.answer) later)) (filter (stays step.command step.answer) (held later)) (taken step.command step.answer))
    ∙ ap (λ l. l ++ taken step.command step.answer) (sym (filter-append (stays step.command step.answer) (unless_removed (taken_by first.command first.answer) later) (held later)))

-- an answer that changes nothing
abbrev pub IsStill : Answer → Type 0
IsStill (Run n) = ⊥
IsStill (Held n) = Unit {0}
IsStill Done = ⊥
IsStill (Text text) = Unit {0}
IsStill (Refused refusal) = Unit {0}

still_removes : (n : ℕ) (command : Command) (answer : Answer) → IsStill answer → removes n command answer ≡ false
still_removes n (Remove m) (Run k) still = absurd still
still_removes n (Remove m) Done still = absurd still
still_removes n (Remove m) answer still = refl
still_removes n command answer still = refl

still_taken : (command : Command) (answer : Answer) → IsStill answer → taken command answer ≡ []
still_taken (Import format label outcomes) (Run m) still = absurd still
still_taken (Import format label outcomes) answer still = refl
still_taken command answer still = refl

pub held_still : (h : History) (command : Command) (answer : Answer) → IsStill answer → held (h ++ record { command = command; answer = answer } ∷ []) ≡ held h
held_still h command answer still =
    held_more h (record { command = command; answer = answer })
    ∙ ap₂ ◌++◌ (filter_all (stays command answer) (held h) (λ f. ap not (still_removes f.number command answer still))) (still_taken command answer still)
    ∙ append-nil (held h)

-- a file is imported
pub held_insert : (h : History) (format : Format) (label : List ℕ) (outcomes : List Outcome) (n : ℕ) → held (h ++ record { command = Import format label outcomes; answer = Run n } ∷ []) ≡ held h ++ record { number = n; format = format; label = label; bytes = bytes_of outcomes } ∷ []
held_insert h format label outcomes n =
    held_more h (record { command = Import format label outcomes; answer = Run n }) ∙ ap (λ l. l ++ taken (Import format label outcomes) (Run n)) (filter_all (stays (Import format label outcomes) (Run n)) (held h) (λ f. refl))

-- a run is removed
pub held_removed : (h : History) (n : ℕ) → held (h ++ record { command = Remove n; answer = Done } ∷ []) ≡ filter (λ (f : File). not (f.number == n)) (held h)
held_removed h n =
    held_more h (record { command = Remove n; answer = Done }) ∙ append-nil (filter (stays (Remove n) Done) (held h))
    ∙ filter_same (stays (Remove n) Done) (λ (f : File). not (f.number == n)) (held h) (λ f. ap not (number-flip n f.number))

-- no other command leaves another file out
abbrev pub IsNoRemoval : Command → Type 0
IsNoRemoval (Remove n) = ⊥
IsNoRemoval command = Unit {0}

done_removes : (n : ℕ) (command : Command) → IsNoRemoval command → removes n command Done ≡ false
done_removes n (Remove m) of = absurd of
done_removes n command of = refl

done_taken : (command : Command) → taken command Done ≡ []
done_taken (Import format label outcomes) = refl
done_taken command = refl

pub held_done : (h : History) (command : Command) → IsNoRemoval command → held (h ++ record { command = command; answer = Done } ∷ []) ≡ held h
held_done h command of =
    held_more h (record { command = command; answer = Done })
    ∙ ap₂ ◌++◌ (filter_all (stays command Done) (held h) (λ f. ap not (done_removes f.number command of))) (done_taken command)
    ∙ append-nil (held h)

-- ---- the next number

abbrev pub growth : Answer → ℕ
growth (Run n) = 1
growth answer = 0

pub next_more : (h : History) (step : Step) → next (h ++ step ∷ []) ≡ next h + growth step.answer
next_more h step =
    let runs : List Step = filter (λ (t : Step). is_run t.answer) h in
    let e : length (filter (λ (t : Step). is_run t.answer) (h ++ step ∷ [])) ≡ length runs + growth step.answer =
    ap length (filter-append (λ (t : Step). is_run t.answer) h (step ∷ [])) ∙ length-append runs (filter (λ (t : Step). is_run t.answer) (step ∷ [])) ∙ ap (λ n. length runs + n) (one step.answer) in
    omega (arith, e)
  where
    one : (answer : Answer) → length (cond (is_run answer) (step ∷ []) []) ≡ growth answer
    one (Run n) = refl
    one answer = refl

pub next_run : (h : History) (command : Command) (n : ℕ) → next (h ++ record { command = command; answer = Run n } ∷ []) ≡ suc (next h)
next_run h command n = let e = next_more h (record { command = command; answer = Run n }) in omega (arith, e)

pub next_done : (h : History) (command : Command) → next (h ++ record { command = command; answer = Done } ∷ []) ≡ next h
next_done h command = let e = next_more h (record { command = command; answer = Done }) in omega (arith, e)

pub next_still : (h : History) (command : Command) (answer : Answer) → IsStill answer → next (h ++ record { command = command; answer = answer } ∷ []) ≡ next h
next_still h command answer still = let e = next_more h (record { command = command; answer = answer }) in let z : growth answer ≡ 0 = none answer still in omega (arith, e, z)
  where
    none : (a : Answer) → IsStill a → growth a ≡ 0
    none (Run n) s = absurd s
    none a s = refl
