-- The sums of a run's events, and sums over all runs.
use Rattle.std.proofs.Common.{◌≡◌, ◌<◌, ◌+◌, ◌++◌, ◌==◌, ℕ, suc, List, [], ◌∷◌, map, filter, take, length, get_or, sum_by, bytes_eq, IsPermutation, refl, sym, ap, ap₂, subst₂, ◌∙◌, arith}
use Rattle.std.proofs.lemmas.List.{map_push, take_more}
use Rattle.std.proofs.lemmas.List.Folds.{fold-map}
use Rattle.std.proofs.lemmas.List.Sorted.{IsPermutation-map}
use Rattle.plain_tables.specs.Tables.{Tables, EventRow}
use Rattle.run_stores.specs.Totals.{held_self, held_calls}
use Rattle.run_stores.specs.SelfSums.{AreSelfSums, PlacedSum, events_of_run, self_of_line, sums_from}
use Rattle.run_lists.specs.Listed.{AreListed, event_row}
use Rattle.run_lists.specs.Sums.{calls_sum, events_named, placed_sum, self_sum}
use Rattle.run_lists.specs.declared.listed.ListedEvent.{ListedEvent}
use Rattle.run_lists.specs.declared.listed.RunLists.{RunLists}
use Rattle.run_lists.proofs.Rows.{filter_row, map_row}

-- ---- the sums of a run

abbrev at_place : ℕ → ℕ → PlacedSum
at_place place sum = record { place = place; sum = sum }

sums_append : (place : ℕ) (sums : List ℕ) (sum : ℕ) → sums_from place (sums ++ sum ∷ []) ≡ sums_from place sums ++ at_place (place + length sums) sum ∷ []
sums_append place [] sum = ap (λ k. at_place k sum ∷ []) (omega arith)
sums_append place (first ∷ sums) sum =
    ap (λ l. at_place place first ∷ l) (sums_append (suc place) sums sum ∙ ap (λ k. sums_from (suc place) sums ++ at_place k sum ∷ []) (omega arith))

-- one sum more is read
pub sums_more : (placed : List (ℕ × ℕ)) (at : ℕ) (sums : List ℕ) → at < length placed → (get_or placed at (0, 0)).0 ≡ length sums → sums_from 0 sums ≡ map placed_sum (take at placed)
    → sums_from 0 (sums ++ (get_or placed at (0, 0)).1 ∷ []) ≡ map placed_sum (take (at + 1) placed)
sums_more placed at sums low same was =
    let it = get_or placed at (0, 0) in
    let here : 0 + length sums ≡ it.0 = omega (arith, same) in
    sums_append 0 sums it.1 ∙ ap₂ (λ l k. l ++ at_place k it.1 ∷ []) was here
    ∙ sym (ap (map placed_sum) (take_more placed at (0, 0) low) ∙ map_push placed_sum (take at placed) it)

-- the rows of a run's events are its places with their sums
pub rows_placed : (t : Tables) (lists : RunLists) → AreListed t lists → (run : ℕ) (placed : List (ℕ × ℕ)) → placed ≡ map (λ (e : ListedEvent). (e.place, e.self_cost)) (filter (λ (e : ListedEvent). e.run == run) lists.events)
    → map self_of_line (events_of_run run t) ≡ map placed_sum placed
rows_placed t lists was run placed read =
    let is_it = λ (e : EventRow). e.run == run in
    let events = filter (λ (e : ListedEvent). e.run == run) lists.events in
    ap (λ l. map self_of_line (filter is_it l)) (sym was.events) ∙ ap (map self_of_line) (filter_row event_row is_it lists.events)
    ∙ sym (map_row event_row self_of_line events) ∙ map_row (λ (e : ListedEvent). (e.place, e.self_cost)) placed_sum events ∙ ap (map placed_sum) (sym read)

-- what was sorted has the sums of the rows
pub sums_told : (t : Tables) (lists : RunLists) → AreListed t lists → (run : ℕ) (placed sorted : List (ℕ × ℕ)) (sums : List ℕ)
    → placed ≡ map (λ (e : ListedEvent). (e.place, e.self_cost)) (filter (λ (e : ListedEvent). e.run == run) lists.events) → IsPermutation placed sorted → sums_from 0 sums ≡ map placed_sum sorted → AreSelfSums (events_of_run run t) sums
sums_told t lists was run placed sorted sums read moved are =
    subst₂ IsPermutation (sym (rows_placed t lists was run placed read)) (sym are) (IsPermutation-map placed_sum placed sorted moved)

-- ---- over all runs

-- a sum over rows
pub sum_row : {X Y : Type 0} (row : X → Y) (f : Y → ℕ) (xs : List X) (lines : List Y) → map row xs ≡ lines → sum_by (λ x. f (row x)) xs ≡ sum_by f lines
sum_row row f xs lines was = sym (fold-map (λ n y. n + f y) row 0 xs) ∙ ap (sum_by f) was

module _ (t : Tables) (lists : RunLists) (was : AreListed t lists) where
  named_rows : (name : List ℕ) → map event_row (events_named name lists.events) ≡ filter (λ (e : EventRow). bytes_eq e.name name) t.events
  named_rows name =
      sym (filter_row event_row (λ (e : EventRow). bytes_eq e.name name) lists.events) ∙ ap (filter (λ (e : EventRow). bytes_eq e.name name)) was.events

  pub self_told : (name : List ℕ) → self_sum lists.events name ≡ held_self t name
  self_told name = sum_row event_row (λ (e : EventRow). e.self_cost) (events_named name lists.events) (filter (λ (e : EventRow). bytes_eq e.name name) t.events) (named_rows name)

  pub calls_told : (name : List ℕ) → calls_sum lists.events name ≡ held_calls t name
  calls_told name = sum_row event_row (λ (e : EventRow). e.call_cost) (events_named name lists.events) (filter (λ (e : EventRow). bytes_eq e.name name) t.events) (named_rows name)

-- functions with the same values
pub map_same : {X Y : Type 0} (f g : X → Y) (xs : List X) → ((x : X) → f x ≡ g x) → map f xs ≡ map g xs
map_same f g [] same = refl
map_same f g (x ∷ xs) same = ap₂ ◌∷◌ (same x) (map_same f g xs same)
