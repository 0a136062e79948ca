-- Who is in a group after one step more.
use Rattle.std.proofs.Common.{◌≡◌, ℕ, Bool, true, false, not, ◌&&◌, ◌||◌, ◌==◌, List, [], ◌∷◌, ◌++◌, refl, ap, ap₂, ◌∙◌}
use Rattle.std.specs.Str.{bytes_eq}
use Rattle.histories.specs.History.{Command, Remove, MakeGroup, DropGroup, Join, Leave, SetBaseline, Step, History, joins, parts, is_parted, is_member}
use Rattle.histories.specs.declared.answers.Answer.{Answer}
use Rattle.histories.specs.declared.answers.Answer.TheVariants.{Done}
use Rattle.histories.proofs.Groups.{IsNotDone}
use Rattle.histories.proofs.Tests.{any-append, or-false}

regroup : (a b c d e : Bool) → (a && not (b || (c || false))) || ((d && not c) || e) ≡ (((a && not b) || d) && not c) || e
regroup true true c d e = refl
regroup true false true true e = refl
regroup true false true false e = refl
regroup true false false d e = refl
regroup false b c d e = refl

pub member_more : (h : History) (step : Step) (name : List ℕ) (n : ℕ) → is_member (h ++ step ∷ []) name n ≡ (is_member h name n && not (parts name n step.command step.answer)) || joins name n step.command step.answer
member_more [] step name n = or-false (joins name n step.command step.answer && true) ∙ and-true (joins name n step.command step.answer)
  where
    and-true : (b : Bool) → b && true ≡ b
    and-true true = refl
    and-true false = refl
member_more (first ∷ later) step name n =
    ap₂ (λ a b. (joins name n first.command first.answer && not a) || b) (any-append (λ (t : Step). parts name n t.command t.answer) later (step ∷ [])) (member_more later step name n)
    ∙ regroup (joins name n first.command first.answer) (is_parted name n later) (parts name n step.command step.answer) (is_member later name n) (joins name n step.command step.answer)

-- answers but `Done` leave them as they were
other_parts : (name : List ℕ) (n : ℕ) (command : Command) (answer : Answer) → IsNotDone answer → parts name n command answer ≡ false
other_parts name n (Leave g m) Done other = absurd other
other_parts name n (Leave g m) answer other = refl
other_parts name n (Remove m) Done other = absurd other
other_parts name n (Remove m) answer other = refl
other_parts name n (DropGroup g) Done other = absurd other
other_parts name n (DropGroup g) answer other = refl
other_parts name n command answer other = refl

other_joins : (name : List ℕ) (n : ℕ) (command : Command) (answer : Answer) → IsNotDone answer → joins name n command answer ≡ false
other_joins name n (Join g m) Done other = absurd other
other_joins name n (Join g m) answer other = refl
other_joins name n command answer other = refl

stay : (b : Bool) → (b && true) || false ≡ b
stay true = refl
stay false = refl

pub member_other : (h : History) (command : Command) (answer : Answer) (name : List ℕ) (n : ℕ) → IsNotDone answer → is_member (h ++ record { command = command; answer = answer } ∷ []) name n ≡ is_member h name n
member_other h command answer name n other =
    member_more h (record { command = command; answer = answer }) name n
    ∙ ap₂ (λ a b. (is_member h name n && not a) || b) (other_parts name n command answer other) (other_joins name n command answer other)
    ∙ stay (is_member h name n)

pub member_made : (h : History) (group name : List ℕ) (n : ℕ) → is_member (h ++ record { command = MakeGroup group; answer = Done } ∷ []) name n ≡ is_member h name n
member_made h group name n = member_more h (record { command = MakeGroup group; answer = Done }) name n ∙ stay (is_member h name n)

pub member_based : (h : History) (group : List ℕ) (m : ℕ) (name : List ℕ) (n : ℕ) → is_member (h ++ record { command = SetBaseline group m; answer = Done } ∷ []) name n ≡ is_member h name n
member_based h group m name n = member_more h (record { command = SetBaseline group m; answer = Done }) name n ∙ stay (is_member h name n)

pub member_removed : (h : History) (m : ℕ) (name : List ℕ) (n : ℕ) → is_member (h ++ record { command = Remove m; answer = Done } ∷ []) name n ≡ is_member h name n && not (m == n)
member_removed h m name n = member_more h (record { command = Remove m; answer = Done }) name n ∙ or-false (is_member h name n && not (m == n))

pub member_dropped : (h : History) (group name : List ℕ) (n : ℕ) → is_member (h ++ record { command = DropGroup group; answer = Done } ∷ []) name n ≡ is_member h name n && not (bytes_eq group name)
member_dropped h group name n = member_more h (record { command = DropGroup group; answer = Done }) name n ∙ or-false (is_member h name n && not (bytes_eq group name))

pub member_left : (h : History) (group : List ℕ) (m : ℕ) (name : List ℕ) (n : ℕ) → is_member (h ++ record { command = Leave group m; answer = Done } ∷ []) name n ≡ is_member h name n && not (bytes_eq group name && (m == n))
member_left h group m name n = member_more h (record { command = Leave group m; answer = Done }) name n ∙ or-false (is_member h name n && not (bytes_eq group name && (m == n)))

pub member_joined : (h : History) (group : List ℕ) (m : ℕ) (name : List ℕ) (n : ℕ) → is_member (h ++ record { command = Join group m; answer = Done } ∷ []) name n ≡ is_member h name n || (bytes_eq group name && (m == n))
member_joined h group m name n = member_more h (record { command = Join group m; answer = Done }) name n ∙ ap (λ b. b || (bytes_eq group name && (m == n))) (kept (is_member h name n))
  where
    kept : (b : Bool) → b && true ≡ b
    kept true = refl
    kept false = refl
