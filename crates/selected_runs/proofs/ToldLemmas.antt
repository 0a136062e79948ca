-- The numbers that sums tell, sum by sum.
use Rattle.std.proofs.Common.{ℕ, List, [], ◌∷◌, ◌++◌, IsPermutation}
use Rattle.std.specs.declared.cmp.Ordering.{Ordering}
use Rattle.std.specs.declared.cmp.Ordering.TheVariants.{Less, Equal, Greater}
use Rattle.std.specs.List.{AllByRecursion}
use Rattle.std.specs.Ordering.{match_ordering}
use Rattle.std.proofs.lemmas.List.Elements.{All-from_recursion, recursion_from_All}
use Rattle.std.proofs.lemmas.List.Sorted.{All-permutation}
use Rattle.cost_rows.specs.Stacks.{counts_added}
use Rattle.cost_rows.specs.declared.keys.Key.{Key}
use Rattle.selected_runs.specs.Sums.{numbers_cmp, numbers_told, numbers_with, told}
use Rattle.selected_runs.specs.declared.parts.NumberPart.{NumberPart}

-- ---- lists

pub all_parted : {X : Type 0} (P : X → Type 0) (xs ys : List X) → AllByRecursion P (xs ++ ys) → AllByRecursion P xs × AllByRecursion P ys
all_parted P [] ys all = (tt, all)
all_parted P (x ∷ xs) ys all = let rest = all_parted P xs ys all.1 in ((all.0, rest.0), rest.1)

pub all_joined : {X : Type 0} (P : X → Type 0) (xs ys : List X) → AllByRecursion P xs → AllByRecursion P ys → AllByRecursion P (xs ++ ys)
all_joined P [] ys first second = second
all_joined P (x ∷ xs) ys first second = (first.0, all_joined P xs ys first.1 second)

-- what holds of each element holds of each in another order
pub all_moved : {X : Type 0} (P : X → Type 0) (xs ys : List X) → IsPermutation xs ys → AllByRecursion P xs → AllByRecursion P ys
all_moved P xs ys moved all = recursion_from_All P ys (All-permutation P xs ys moved (All-from_recursion P xs all))

-- ---- numbers that are told

-- what holds of each number that a sum tells
abbrev pub TellsAll : (ℕ → Type 0) → Key → NumberPart × ℕ → Type 0
TellsAll P key e = AllByRecursion P (told key e.0)

pub told_each : (P : ℕ → Type 0) (key : Key) (sums : List (NumberPart × ℕ)) → AllByRecursion P (numbers_told key sums) → AllByRecursion (TellsAll P key) sums
told_each P key [] all = tt
told_each P key (e ∷ sums) all = let both = all_parted P (told key e.0) (numbers_told key sums) all in (both.0, told_each P key sums both.1)

pub told_all : (P : ℕ → Type 0) (key : Key) (sums : List (NumberPart × ℕ)) → AllByRecursion (TellsAll P key) sums → AllByRecursion P (numbers_told key sums)
told_all P key [] each = tt
told_all P key (e ∷ sums) each = all_joined P (told key e.0) (numbers_told key sums) each.0 (told_all P key sums each.1)

-- what holds of each number that sums tell holds of each that they tell in another order
pub told_moved : (P : ℕ → Type 0) (key : Key) (a b : List (NumberPart × ℕ)) → IsPermutation a b → AllByRecursion P (numbers_told key a) → AllByRecursion P (numbers_told key b)
told_moved P key a b moved all = told_all P key b (all_moved (TellsAll P key) a b moved (told_each P key a all))

-- ---- sums of rows

-- what holds of each sum, and of a new one, holds of each after a cost is added
pub all_with : (Q : NumberPart × ℕ → Type 0) (part : NumberPart) (cost : ℕ) → Q (part, cost) → ((e : NumberPart × ℕ) → Q e → Q (e.0, counts_added e.1 cost))
    → (es : List (NumberPart × ℕ)) → AllByRecursion Q es → AllByRecursion Q (numbers_with part cost es)
all_with Q part cost new more [] all = (new, tt)
all_with Q part cost new more (e ∷ es) all = go (numbers_cmp part e.0) (all_with Q part cost new more es all.1)
  where
    go : (r : Ordering) → AllByRecursion Q (numbers_with part cost es)
        → AllByRecursion Q (match_ordering r ((part, cost) ∷ e ∷ es) ((e.0, counts_added e.1 cost) ∷ es) (e ∷ numbers_with part cost es))
    go Less rest = (new, all)
    go Equal rest = (more e all.0, all.1)
    go Greater rest = (all.0, rest)
