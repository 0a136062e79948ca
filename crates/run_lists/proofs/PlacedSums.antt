-- Sums at their places, and partial sums, for what a refusal tells.
use Rattle.std.proofs.Common.{◌≡◌, ◌≤◌, ◌<◌, ◌+◌, ◌++◌, ℕ, zero, suc, true, List, [], ◌∷◌, Ordering, Less, map, filter, take, drop, length, get_or, sum_by, bytes_eq, IsPermutation, IsSorted, refl, sym, ap, subst₂, ◌∙◌, arith}
use Rattle.std.specs.Cmp.{nat_cmp_is, IsTotalOrder}
use Rattle.std.specs.Ordering.{nat_cmp, ordering_then}
use Rattle.std.specs.List.{AllByRecursion}
use Rattle.std.proofs.lemmas.Cmp.{nat_cmp_total, on_total, then_total}
use Rattle.std.proofs.lemmas.List.{length-map, length-take-le, take-append-drop, take_more}
use Rattle.std.proofs.lemmas.List.Elements.{filter-append}
use Rattle.std.proofs.lemmas.List.Sorted.{IsPermutation-map, IsPermutation-sym, IsPermutation-trans}
use Rattle.std.proofs.lemmas.List.Sums.{sum_by-append}
use Rattle.sqlite_keyed.proofs.SortLemmas.{sorted_unique}
use Rattle.sqlite_trees.specs.Tree.{IsAscending}
use Rattle.run_stores.specs.SelfSums.{PlacedSum, sums_from}
use Rattle.run_lists.specs.Sums.{events_named, placed_sum}
use Rattle.run_lists.specs.declared.listed.ListedEvent.{ListedEvent}

-- ---- places

-- the sums with their places as pairs
abbrev pub pairs_from : ℕ → List ℕ → List (ℕ × ℕ)
pairs_from place [] = []
pairs_from place (sum ∷ sums) = (place, sum) ∷ pairs_from (suc place) sums

abbrev pair_of : PlacedSum → ℕ × ℕ
pair_of p = (p.place, p.sum)

pairs_are : (place : ℕ) (sums : List ℕ) → map pair_of (sums_from place sums) ≡ pairs_from place sums
pairs_are place [] = refl
pairs_are place (sum ∷ sums) = ap (λ l. (place, sum) ∷ l) (pairs_are (suc place) sums)

pub sums_are : (place : ℕ) (sums : List ℕ) → map placed_sum (pairs_from place sums) ≡ sums_from place sums
sums_are place [] = refl
sums_are place (sum ∷ sums) = ap (λ l. placed_sum (place, sum) ∷ l) (sums_are (suc place) sums)

pairs_back : (placed : List (ℕ × ℕ)) → map pair_of (map placed_sum placed) ≡ placed
pairs_back [] = refl
pairs_back (p ∷ placed) = ap (λ l. p ∷ l) (pairs_back placed)

length_sums : (place : ℕ) (sums : List ℕ) → length (sums_from place sums) ≡ length sums
length_sums place [] = refl
length_sums place (sum ∷ sums) = ap suc (length_sums (suc place) sums)

first_place : List PlacedSum → ℕ
first_place [] = 0
first_place (p ∷ placed) = p.place

place_at : (from : ℕ) (sums : List ℕ) (placed : List (ℕ × ℕ)) → sums_from from sums ≡ map placed_sum placed → (k : ℕ) → k < length placed → (get_or placed k (0, 0)).0 ≡ from + k
unfolding first_place
place_at from sums [] is k low = absurd (omega (arith, low))
place_at from [] (p ∷ placed) is k low = absurd cc
place_at from (sum ∷ sums) (p ∷ placed) is zero low =
    let first : from ≡ p.0 = ap first_place is in
    omega (arith, first)
place_at from (sum ∷ sums) (p ∷ placed) is (suc k) low =
    let rest : sums_from (suc from) sums ≡ map placed_sum placed = cc in
    let later = place_at (suc from) sums placed rest k (omega (arith, low)) in
    omega (arith, later)

-- a place whose sum is read next is as many as were read
pub place_is : (placed : List (ℕ × ℕ)) (at : ℕ) (read sums : List ℕ) → at < length placed → sums_from 0 read ≡ map placed_sum (take at placed) → sums_from 0 sums ≡ map placed_sum placed
    → (get_or placed at (0, 0)).0 ≡ length read
place_is placed at read sums low was all =
    let here = place_at 0 sums placed all at low in
    let long : length read ≡ length (map placed_sum (take at placed)) = sym (length_sums 0 read) ∙ ap length was in
    let many : length (map placed_sum (take at placed)) ≡ at = length-map (take at placed) placed_sum ∙ length-take-le at placed (omega (arith, low)) in
    omega (arith, here, long, many)

-- ---- their order

abbrev pair_cmp : ℕ × ℕ → ℕ × ℕ → Ordering
pair_cmp a b = ordering_then (nat_cmp a.0 b.0) (nat_cmp a.1 b.1)

pair_total : IsTotalOrder pair_cmp
pair_total = then_total (on_total (λ (p : ℕ × ℕ). p.0) nat_cmp_total) (on_total (λ (p : ℕ × ℕ). p.1) nat_cmp_total)

before : (a b : ℕ × ℕ) → a.0 < b.0 → pair_cmp a b ≡ Less
before a b less = rw (sym (nat_cmp_is a.0 b.0 Less less)) refl

all_behind : (a : ℕ × ℕ) (place : ℕ) (sums : List ℕ) → a.0 < place → AllByRecursion (λ b. pair_cmp a b ≡ Less) (pairs_from place sums)
all_behind a place [] less = tt
all_behind a place (sum ∷ sums) less = (before a (place, sum) less, all_behind a (suc place) sums (omega (arith, less)))

pairs_rise : (place : ℕ) (sums : List ℕ) → IsAscending (λ a b. pair_cmp a b ≡ Less) (pairs_from place sums)
pairs_rise place [] = tt
pairs_rise place (sum ∷ sums) = (all_behind (place, sum) (suc place) sums (omega arith), pairs_rise (suc place) sums)

-- sorted, they are the sums in order, where there are such
pub sorted_sums : (placed sorted : List (ℕ × ℕ)) (sums : List ℕ) → IsPermutation (map placed_sum placed) (sums_from 0 sums) → IsPermutation placed sorted → IsSorted pair_cmp sorted
    → sums_from 0 sums ≡ map placed_sum sorted
sorted_sums placed sorted sums moved mixed up =
    let pairs : IsPermutation placed (pairs_from 0 sums) = subst₂ IsPermutation (pairs_back placed) (pairs_are 0 sums) (IsPermutation-map pair_of _ _ moved) in
    let both = IsPermutation-trans _ _ _ (IsPermutation-sym _ _ pairs) mixed in
    sym (ap (map placed_sum) (sorted_unique pair_cmp pair_total (pairs_from 0 sums) sorted (pairs_rise 0 sums) both up) ∙ sums_are 0 sums)

-- ---- partial sums

pub part_at_most : {X : Type 0} (f : X → ℕ) (n : ℕ) (xs : List X) → sum_by f (take n xs) ≤ sum_by f xs
part_at_most f n xs =
    let whole = ap (sum_by f) (sym (take-append-drop n xs)) ∙ sum_by-append f (take n xs) (drop n xs) in
    omega (arith, whole)

-- the part with one event of the name more
pub next_named : (f : ListedEvent → ℕ) (name : List ℕ) (events : List ListedEvent) (at : ℕ) (event : ListedEvent) → at < length events → event ≡ get_or events at event → bytes_eq event.name.items name ≡ true
    → sum_by f (events_named name (take (at + 1) events)) ≡ sum_by f (events_named name (take at events)) + f event
next_named f name events at event low is same =
    let is_it = λ (e : ListedEvent). bytes_eq e.name.items name in
    let one : filter is_it (event ∷ []) ≡ event ∷ [] = rw same refl in
    ap (λ l. sum_by f (filter is_it l)) (take_more events at event low ∙ ap (λ e. take at events ++ e ∷ []) (sym is)) ∙ ap (sum_by f) (filter-append is_it (take at events) (event ∷ []))
    ∙ sum_by-append f (filter is_it (take at events)) (filter is_it (event ∷ [])) ∙ ap (λ l. sum_by f (filter is_it (take at events)) + sum_by f l) one ∙ omega arith

pub named_at_most : (f : ListedEvent → ℕ) (name : List ℕ) (n : ℕ) (events : List ListedEvent) → sum_by f (events_named name (take n events)) ≤ sum_by f (events_named name events)
named_at_most f name n events =
    let is_it = λ (e : ListedEvent). bytes_eq e.name.items name in
    let whole = ap (λ l. sum_by f (filter is_it l)) (sym (take-append-drop n events)) ∙ ap (sum_by f) (filter-append is_it (take n events) (drop n events))
    ∙ sum_by-append f (filter is_it (take n events)) (filter is_it (drop n events)) in
    omega (arith, whole)
