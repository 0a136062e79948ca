-- The baseline of a group after one step more.
use Rattle.std.proofs.Common.{◌≡◌, ℕ, Bool, true, false, ◌||◌, ◌==◌, if◌then◌else◌, List, [], ◌∷◌, ◌++◌, Option, Some, None, refl, sym, ap, ap₂, ◌∙◌}
use Rattle.std.specs.Str.{bytes_eq}
use Rattle.std.proofs.lemmas.Bool.{or_parts}
use Rattle.histories.specs.History.{Command, Remove, MakeGroup, DropGroup, Join, Leave, SetBaseline, Step, History, based_by, unbases, is_unbased, unless_unbased, baseline}
use Rattle.histories.specs.declared.answers.Answer.{Answer}
use Rattle.histories.specs.declared.answers.Answer.TheVariants.{Done}
use Rattle.histories.proofs.Groups.{IsNotDone}
use Rattle.histories.proofs.Tests.{any-append}

-- what a step leaves of a baseline, and that which it sets in place of it
abbrev pub left_by : List ℕ → Command → Answer → Option ℕ → Option ℕ
left_by name command answer None = None
left_by name command answer (Some n) = if unbases name n command answer then None else Some n

abbrev pub set_or : Option ℕ → Option ℕ → Option ℕ
set_or None other = other
set_or (Some n) other = Some n

-- a step that sets a baseline takes away each older one
setting_unbases : (name : List ℕ) (n m : ℕ) (command : Command) (answer : Answer) → based_by name command answer ≡ Some m → unbases name n command answer ≡ true
setting_unbases name n m (SetBaseline other k) Done is = go (bytes_eq other name) is
  where
    go : (b : Bool) → (if b then Some k else None) ≡ Some m → b ≡ true
    go true e = refl
    go false e = absurd cc
setting_unbases name n m command answer is = absurd cc

pub not_set : (name : List ℕ) (n : ℕ) (command : Command) (answer : Answer) → unbases name n command answer ≡ false → based_by name command answer ≡ None
not_set name n command answer stays = go (based_by name command answer) refl
  where
    go : (o : Option ℕ) → based_by name command answer ≡ o → o ≡ None
    go None e = refl
    go (Some m) e = absurd (let t : unbases name n command answer ≡ true = setting_unbases name n m command answer e in cc)

none_later : (name : List ℕ) (n : ℕ) (later : History) → is_unbased name n later ≡ false → baseline later name ≡ None
none_later name n [] stays = refl
none_later name n (step ∷ later) stays =
    let parts = or_parts (unbases name n step.command step.answer) (is_unbased name n later) stays in
    ap (λ o. unless_unbased name o later (baseline later name)) (not_set name n step.command step.answer parts.0) ∙ none_later name n later parts.1

pub baseline_more : (h : History) (step : Step) (name : List ℕ) → baseline (h ++ step ∷ []) name ≡ set_or (based_by name step.command step.answer) (left_by name step.command step.answer (baseline h name))
baseline_more [] step name = alone (based_by name step.command step.answer)
  where
    alone : (o : Option ℕ) → unless_unbased name o [] None ≡ set_or o None
    alone None = refl
    alone (Some n) = refl
baseline_more (first ∷ later) step name = go (based_by name first.command first.answer) (baseline_more later step name)
  where
    now : Option ℕ
    now = set_or (based_by name step.command step.answer) (left_by name step.command step.answer (baseline later name))

    go : (o : Option ℕ) → baseline (later ++ step ∷ []) name ≡ set_or (based_by name step.command step.answer) (left_by name step.command step.answer (baseline later name))
        → unless_unbased name o (later ++ step ∷ []) (baseline (later ++ step ∷ []) name) ≡ set_or (based_by name step.command step.answer) (left_by name step.command step.answer (unless_unbased name o later (baseline later name)))
    go None rest = rest
    go (Some n) rest = ap (λ b. if b then baseline (later ++ step ∷ []) name else Some n) (any-append (λ (t : Step). unbases name n t.command t.answer) later (step ∷ [])) ∙ before (is_unbased name n later) refl
      where
        after : (b : Bool) → unbases name n step.command step.answer ≡ b → is_unbased name n later ≡ false
            → (if b || false then baseline (later ++ step ∷ []) name else Some n) ≡ set_or (based_by name step.command step.answer) (if b then None else Some n)
        after true is stays = rest ∙ ap (λ o. set_or (based_by name step.command step.answer) (left_by name step.command step.answer o)) (none_later name n later stays)
        after false is stays = ap (λ o. set_or o (Some n)) (sym (not_set name n step.command step.answer is))

        before : (b : Bool) → is_unbased name n later ≡ b
            → (if b || (unbases name n step.command step.answer || false) then baseline (later ++ step ∷ []) name else Some n) ≡ set_or (based_by name step.command step.answer) (left_by name step.command step.answer (if b then baseline later name else Some n))
        before true is = rest
        before false is = after (unbases name n step.command step.answer) refl is

-- answers but `Done` leave it as it was
other_based : (name : List ℕ) (command : Command) (answer : Answer) → IsNotDone answer → based_by name command answer ≡ None
other_based name (SetBaseline g n) Done other = absurd other
other_based name (SetBaseline g n) answer other = refl
other_based name command answer other = refl

other_unbases : (name : List ℕ) (n : ℕ) (command : Command) (answer : Answer) → IsNotDone answer → unbases name n command answer ≡ false
other_unbases name n (SetBaseline g m) Done other = absurd other
other_unbases name n (SetBaseline g m) answer other = refl
other_unbases name n (Remove m) Done other = absurd other
other_unbases name n (Remove m) answer other = refl
other_unbases name n (DropGroup g) Done other = absurd other
other_unbases name n (DropGroup g) answer other = refl
other_unbases name n command answer other = refl

left_whole : (name : List ℕ) (command : Command) (answer : Answer) (o : Option ℕ) → ((n : ℕ) → unbases name n command answer ≡ false) → left_by name command answer o ≡ o
left_whole name command answer None none = refl
left_whole name command answer (Some n) none = ap (λ b. if b then None else Some n) (none n)

pub baseline_other : (h : History) (command : Command) (answer : Answer) (name : List ℕ) → IsNotDone answer → baseline (h ++ record { command = command; answer = answer } ∷ []) name ≡ baseline h name
baseline_other h command answer name other =
    baseline_more h (record { command = command; answer = answer }) name
    ∙ ap₂ set_or (other_based name command answer other) (left_whole name command answer (baseline h name) (λ n. other_unbases name n command answer other))

pub baseline_made : (h : History) (group name : List ℕ) → baseline (h ++ record { command = MakeGroup group; answer = Done } ∷ []) name ≡ baseline h name
baseline_made h group name = baseline_more h (record { command = MakeGroup group; answer = Done }) name ∙ left_whole name (MakeGroup group) Done (baseline h name) (λ n. refl)

pub baseline_joined : (h : History) (group : List ℕ) (m : ℕ) (name : List ℕ) → baseline (h ++ record { command = Join group m; answer = Done } ∷ []) name ≡ baseline h name
baseline_joined h group m name = baseline_more h (record { command = Join group m; answer = Done }) name ∙ left_whole name (Join group m) Done (baseline h name) (λ n. refl)

pub baseline_left : (h : History) (group : List ℕ) (m : ℕ) (name : List ℕ) → baseline (h ++ record { command = Leave group m; answer = Done } ∷ []) name ≡ baseline h name
baseline_left h group m name = baseline_more h (record { command = Leave group m; answer = Done }) name ∙ left_whole name (Leave group m) Done (baseline h name) (λ n. refl)

-- a baseline, unless it is this run
abbrev pub but : ℕ → Option ℕ → Option ℕ
but m None = None
but m (Some n) = if m == n then None else Some n

pub baseline_removed : (h : History) (m : ℕ) (name : List ℕ) → baseline (h ++ record { command = Remove m; answer = Done } ∷ []) name ≡ but m (baseline h name)
baseline_removed h m name = baseline_more h (record { command = Remove m; answer = Done }) name ∙ same (baseline h name)
  where
    same : (o : Option ℕ) → left_by name (Remove m) Done o ≡ but m o
    same None = refl
    same (Some n) = refl

-- none, if it is of this group
abbrev pub none_if : Bool → Option ℕ → Option ℕ
none_if b o = if b then None else o

pub baseline_dropped : (h : History) (group name : List ℕ) → baseline (h ++ record { command = DropGroup group; answer = Done } ∷ []) name ≡ none_if (bytes_eq group name) (baseline h name)
baseline_dropped h group name = baseline_more h (record { command = DropGroup group; answer = Done }) name ∙ same (baseline h name)
  where
    none_either : (b : Bool) → let none : Option ℕ = None in none ≡ (if b then none else none)
    none_either true = refl
    none_either false = refl

    same : (o : Option ℕ) → left_by name (DropGroup group) Done o ≡ none_if (bytes_eq group name) o
    same None = none_either (bytes_eq group name)
    same (Some n) = refl

pub baseline_based : (h : History) (group : List ℕ) (m : ℕ) (name : List ℕ) → baseline (h ++ record { command = SetBaseline group m; answer = Done } ∷ []) name ≡ (if bytes_eq group name then Some m else baseline h name)
baseline_based h group m name = baseline_more h (record { command = SetBaseline group m; answer = Done }) name ∙ ap (λ o. set_or (if bytes_eq group name then Some m else None) o) (left (baseline h name)) ∙ same (bytes_eq group name) (baseline h name)
  where
    gone : Bool → Option ℕ → Option ℕ
    gone b None = None
    gone b (Some n) = if b then None else Some n

    left : (o : Option ℕ) → left_by name (SetBaseline group m) Done o ≡ gone (bytes_eq group name) o
    left None = refl
    left (Some n) = refl

    same : (b : Bool) (o : Option ℕ) → set_or (if b then Some m else None) (gone b o) ≡ (if b then Some m else o)
    same true None = refl
    same true (Some n) = refl
    same false None = refl
    same false (Some n) = refl
