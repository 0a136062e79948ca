-- Lines in the order of their places are the entries that they say.
use Rattle.std.proofs.Common.{◌≡◌, ℕ, suc, ◌<◌, inl, inr, arith, nat_lt, if◌then◌else◌, Bool, true, false, Ordering, List, [], ◌∷◌, ◌++◌, map, ap, ap₂, refl, ◌∙◌, All, IsPermutation}
use Rattle.std.specs.List.{AllByRecursion}
use Rattle.std.specs.List.Sorted.{IsSortedByKey}
use Rattle.std.specs.Ordering.{nat_cmp, ordering_then}
use Rattle.std.specs.declared.cmp.Ordering.TheVariants.{Less}
use Rattle.std.proofs.lemmas.Bool.{lt-ltb}
use Rattle.std.proofs.lemmas.Cmp.{nat_cmp_total, on_total, then_total, tied_itself}
use Rattle.std.proofs.lemmas.List.Elements.{All-weaker, recursion_from_All}
use Rattle.std.proofs.lemmas.List.Sorted.{IsPermutation-sym}
use Rattle.plain_tables.specs.Lists.{IsAscending}
use Rattle.run_stores.specs.HeldHeads.{CoefEntry, EventEntry, PlacedName, coefs_at, coefs_from, events_from, placed}
use Rattle.run_lists.specs.HeadLines.{derived_place, entry_of_coef, entry_of_event}
use Rattle.run_lists.specs.declared.head_lines.HeadEvent.{HeadEvent}
use Rattle.run_lists.specs.declared.head_lines.HeadDerived.{HeadDerived}
use Rattle.run_lists.specs.declared.head_lines.HeadCoef.{HeadCoef}
use Rattle.run_lists.proofs.HeadServed.{IsFrom, from_row, later_rows}
use Rattle.run_lists.proofs.SortedRows.{sorted_is}
use Rattle.page_lists.specs.Heads.{AreInPlaces}

-- ---- the entries of a head rise

less : (a b : ℕ) → a < b → nat_cmp a b ≡ Less
less a b low = rw (lt-ltb a b low) refl

abbrev event_cmp : EventEntry → EventEntry → Ordering
event_cmp a b = nat_cmp a.place b.place

events_behind : (place at : ℕ) (names : List (List ℕ)) (sums : List ℕ) → place < at → AllByRecursion (λ (e : EventEntry). nat_cmp place e.place ≡ Less) (events_from at names sums)
events_behind place at [] sums under = tt
events_behind place at (name ∷ names) [] under = (less place at under, events_behind place (suc at) names [] (omega (arith, under)))
events_behind place at (name ∷ names) (sum ∷ sums) under = (less place at under, events_behind place (suc at) names sums (omega (arith, under)))

events_rise : (at : ℕ) (names : List (List ℕ)) (sums : List ℕ) → IsAscending (λ a b. event_cmp a b ≡ Less) (events_from at names sums)
events_rise at [] sums = tt
events_rise at (name ∷ names) [] = (events_behind at (suc at) names [] (omega arith), events_rise (suc at) names [])
events_rise at (name ∷ names) (sum ∷ sums) = (events_behind at (suc at) names sums (omega arith), events_rise (suc at) names sums)

abbrev name_cmp : PlacedName → PlacedName → Ordering
name_cmp a b = nat_cmp a.place b.place

names_behind : (place at : ℕ) (names : List (List ℕ)) → place < at → AllByRecursion (λ (p : PlacedName). nat_cmp place p.place ≡ Less) (placed at names)
names_behind place at [] under = tt
names_behind place at (name ∷ names) under = (less place at under, names_behind place (suc at) names (omega (arith, under)))

names_rise : (at : ℕ) (names : List (List ℕ)) → IsAscending (λ a b. name_cmp a b ≡ Less) (placed at names)
names_rise at [] = tt
names_rise at (name ∷ names) = (names_behind at (suc at) names (omega arith), names_rise (suc at) names)

abbrev coef_cmp : CoefEntry → CoefEntry → Ordering
coef_cmp a b = ordering_then (nat_cmp a.place b.place) (nat_cmp a.event b.event)

abbrev Rise : List CoefEntry → Type 0
Rise = IsAscending (λ a b. coef_cmp a b ≡ Less)

from_behind : (place event times : ℕ) (c : CoefEntry) → IsFrom place (suc event) c → coef_cmp (record { place = place; event = event; times = times }) c ≡ Less
from_behind place event times c (inl later) = ap (λ r. ordering_then r (nat_cmp event c.event)) (less place c.place later)
from_behind place event times c (inr same) = ap₂ ordering_then (ap (nat_cmp place) same.0 ∙ tied_itself nat_cmp_total place) (less event c.event (omega (arith, same.1)))

row_rises : (place event : ℕ) (row : List ℕ) (rest : List CoefEntry) → All (λ c. place < c.place) rest → Rise rest → Rise (coefs_at place event row ++ rest)
row_rises place event [] rest later up = up
row_rises place event (n ∷ row) rest later up =
    go (nat_lt 0 n) (recursion_from_All (λ c. coef_cmp one c ≡ Less) _ (All-weaker (IsFrom place (suc event)) (λ c. coef_cmp one c ≡ Less) (from_behind place event n) _ (from_row place (suc event) row rest later)))
    (row_rises place (suc event) row rest later up)
  where
    one : CoefEntry
    one = record { place = place; event = event; times = n }

    go : (b : Bool) → AllByRecursion (λ c. coef_cmp one c ≡ Less) (coefs_at place (suc event) row ++ rest) → Rise (coefs_at place (suc event) row ++ rest)
        → Rise ((if b then one ∷ coefs_at place (suc event) row else coefs_at place (suc event) row) ++ rest)
    go true behind more = (behind, more)
    go false behind more = more

rows_rise : (place : ℕ) (rows : List (List ℕ)) → Rise (coefs_from place rows)
rows_rise place [] = tt
rows_rise place (row ∷ rows) = row_rises place 0 row (coefs_from (suc place) rows) (later_rows place (suc place) rows (omega arith)) (rows_rise (suc place) rows)

-- ---- sorted lines of a head

pub events_sorted : (lines : List HeadEvent) (names : List (List ℕ)) (sums : List ℕ) → IsSortedByKey (λ (line : HeadEvent). line.place) nat_cmp lines → IsPermutation (events_from 0 names sums) (map entry_of_event lines)
    → map entry_of_event lines ≡ events_from 0 names sums
events_sorted lines names sums sorted moved =
    sorted_is entry_of_event event_cmp (on_total (λ (e : EventEntry). e.place) nat_cmp_total) lines (events_from 0 names sums) sorted (events_rise 0 names sums) (IsPermutation-sym _ _ moved)

pub derived_sorted : (lines : List HeadDerived) (names : List (List ℕ)) → IsSortedByKey (λ (line : HeadDerived). line.place) nat_cmp lines → IsPermutation (placed 0 names) (map derived_place lines) → map derived_place lines ≡ placed 0 names
derived_sorted lines names sorted moved =
    sorted_is derived_place name_cmp (on_total (λ (p : PlacedName). p.place) nat_cmp_total) lines (placed 0 names) sorted (names_rise 0 names) (IsPermutation-sym _ _ moved)

pub coefs_sorted : (lines : List HeadCoef) (rows : List (List ℕ)) → AreInPlaces lines → IsPermutation (coefs_from 0 rows) (map entry_of_coef lines) → map entry_of_coef lines ≡ coefs_from 0 rows
coefs_sorted lines rows sorted moved =
    sorted_is entry_of_coef coef_cmp (then_total (on_total (λ (c : CoefEntry). c.place) nat_cmp_total) (on_total (λ (c : CoefEntry). c.event) nat_cmp_total)) lines (coefs_from 0 rows) sorted (rows_rise 0 rows) (IsPermutation-sym _ _ moved)
