-- The names that are held, found by their numbers.
use Rattle.std.proofs.Common.{◌≡◌, ◌≢◌, ℕ, zero, suc, ◌<◌, ◌≤◌, List, [], ◌∷◌, map, length, get_or, true, false, eqb, refl, arith}
use Rattle.std.specs.List.{AllByRecursion}
use Rattle.std.specs.List.Sorted.{IsNonDecreasingBy}
use Rattle.std.proofs.lemmas.Bool.Decides.{nat_tests}
use Rattle.sqlite_trees.specs.Tree.{IsAscending}
use Rattle.plain_tables.specs.Tables.{NameRow}
use Rattle.run_stores.specs.Book.{name_of, IsHeld}
use Rattle.run_lists.specs.NameRows.{name_row}
use Rattle.run_lists.specs.declared.held_names.HeldName.{HeldName}

-- ---- numbers that rise

abbrev pub Rise : List HeldName → Type 0
Rise = IsAscending (λ a b. a.number < b.number)

pub lines_rise : (names : List HeldName) → Rise names → IsAscending (λ (a b : NameRow). a.number < b.number) (map name_row names)
lines_rise [] up = tt
lines_rise (n ∷ names) up = (go names up.0, lines_rise names up.1)
  where
    go : (xs : List HeldName) → AllByRecursion (λ (x : HeldName). n.number < x.number) xs → AllByRecursion (λ (x : NameRow). n.number < x.number) (map name_row xs)
    go [] h = tt
    go (x ∷ xs) h = (h.0, go xs h.1)

above_all : (low : ℕ) (names : List HeldName) (k : ℕ) (d : HeldName) → AllByRecursion (λ (x : HeldName). low < x.number) names → k < length names → low < (get_or names k d).number
above_all low [] k d h within = absurd (omega (arith, within))
above_all low (x ∷ names) zero d h within = h.0
above_all low (x ∷ names) (suc k) d h within = above_all low names k d h.1 (omega (arith, within))

pub rise_by_place : (names : List HeldName) → Rise names → IsNonDecreasingBy (λ (n : HeldName). n.number) names
rise_by_place [] up i j d order within = absurd (omega (arith, within))
rise_by_place (n ∷ names) up zero zero d order within = omega arith
rise_by_place (n ∷ names) up zero (suc j) d order within = let h = above_all n.number names j d up.0 (omega (arith, within)) in omega (arith, h)
rise_by_place (n ∷ names) up (suc i) zero d order within = absurd (omega (arith, order))
rise_by_place (n ∷ names) up (suc i) (suc j) d order within = rise_by_place names up.1 i j d (omega (arith, order)) (omega (arith, within))

-- ---- the name of a number

differ : (a b : ℕ) → a < b → eqb a b ≡ false
differ a b h = grind (arith, nat_tests)

differ_above : (a b : ℕ) → b < a → eqb a b ≡ false
differ_above a b h = grind (arith, nat_tests)

-- a line of the number is the one that is found
pub found_name : (names : List HeldName) → Rise names → (at n : ℕ) (name : List ℕ) → at < length names → ((d : HeldName) → ((get_or names at d).number ≡ n) × (name ≡ (get_or names at d).bytes.items))
    → IsHeld (map name_row names) n × (name ≡ name_of (map name_row names) n)
found_name [] up at n name within is = absurd (omega (arith, within))
found_name (x ∷ names) up zero n name within is =
    let here : x.number ≡ n = (is x).0 in
    let same : eqb x.number n ≡ true = grind (arith, nat_tests) in
    rw (same) (refl, (is x).1)
found_name (x ∷ names) up (suc at) n name within is =
    let less = above_all x.number names at x up.0 (omega (arith, within)) in
    let there = (is x).0 in
    let other : eqb x.number n ≡ false = differ x.number n (omega (arith, less, there)) in
    rw (other) (found_name names up.1 at n name (omega (arith, within)) is)

none_above : (names : List HeldName) (low n : ℕ) → n ≤ low → AllByRecursion (λ (x : HeldName). low < x.number) names → ¬ IsHeld (map name_row names) n
none_above [] low n order h = λ held. cc
none_above (x ∷ names) low n order h =
    let other : eqb x.number n ≡ false = differ_above x.number n (omega (arith, order, h.0)) in
    rw (other) (none_above names low n order h.1)

-- between the lines below a number and those above it there is none
pub no_name : (names : List HeldName) → Rise names → (at n : ℕ) → ((k : ℕ) (d : HeldName) → k < at → k < length names → (get_or names k d).number < n) → ((k : ℕ) (d : HeldName) → at ≤ k → k < length names → n ≤ (get_or names k d).number)
    → ((d : HeldName) → at < length names → (get_or names at d).number ≢ n) → ¬ IsHeld (map name_row names) n
no_name [] up at n below above missed = λ held. cc
no_name (x ∷ names) up zero n below above missed =
    let from = above 0 x (omega arith) (omega arith) in
    let not_it = missed x (omega arith) in
    let other : eqb x.number n ≡ false = differ_above x.number n (omega (arith, from, not_it)) in
    rw (other) (none_above names x.number n from up.0)
no_name (x ∷ names) up (suc at) n below above missed =
    let less = below 0 x (omega arith) (omega arith) in
    let other : eqb x.number n ≡ false = differ x.number n less in
    rw (other) (no_name names up.1 at n (λ k d low within. below (suc k) d (omega (arith, low)) (omega (arith, within))) (λ k d low within. above (suc k) d (omega (arith, low)) (omega (arith, within))) (λ d within. missed d (omega (arith, within))))
