-- Cells that sum to records sum to their costs by the names of events.
use Rattle.std.proofs.Common.{zero, suc, ◌≡◌, ℕ, ◌+◌, Bool, true, false, ◌&&◌, ◌==◌, if◌then◌else◌, List, [], ◌∷◌, ◌++◌, fold, slice_get, slice_index, Option, Some, None, refl, sym, ap, ap₂, ◌∙◌, arith}
use Rattle.std.proofs.Math.Bool.{and-false, and-true}
use Rattle.std.proofs.lemmas.Bool.{eq-eqb}
use Rattle.std.proofs.Math.Nat.{add-zero, zero-add}
use Rattle.std.proofs.lemmas.Bool.Decides.{nat_tests}
use Rattle.cost_rows.specs.Keys.{place_of_row}
use Rattle.cost_rows.specs.Merging.{sum_where}
use Rattle.cost_rows.specs.Sums.{Spot, any_thread, spot_of, self_sum}
use Rattle.cost_rows.specs.WalkSums.{rows_cost}
use Rattle.cost_rows.specs.declared.rows.CellRow.{CellRow}
use Rattle.profile_records.specs.Records.{Cost, Record, Own, Called}
use Rattle.cost_reports.proofs.CostLemmas.{swap_sums}
use Rattle.report_texts.specs.Amounts.{with_amount}
use Rattle.report_texts.specs.Csv.{EventSpot, NamedCells, NamedRecords, NamesStandForEach, all_named, costs_from, csv_of_cells, csv_of_records, event_spot_cmp, named_costs, with_cell_in, with_cell_of, with_cells}
use Rattle.cost_exports.proofs.AmountLemmas.{same_amounts, sum-append}
use Rattle.cost_exports.proofs.SpreadLemmas.{event_spot-apart, event_spot-total}

-- ---- the amounts of rows

amount_named : CellRow (List ℕ) → Option (List ℕ) → List (EventSpot × ℕ)
amount_named r None = []
amount_named r (Some event) = (record { spot = any_thread (place_of_row r); event = event }, r.cost) ∷ []

amounts_of : List (List ℕ) → List (CellRow (List ℕ)) → List (EventSpot × ℕ)
amounts_of events [] = []
amounts_of events (r ∷ cells) = amount_named r (slice_get events r.event) ++ amounts_of events cells

amounts_of_runs : List NamedCells → List (EventSpot × ℕ)
amounts_of_runs [] = []
amounts_of_runs (r ∷ runs) = amounts_of r.events r.cells ++ amounts_of_runs runs

abbrev added : List (EventSpot × ℕ) → List (EventSpot × ℕ) → List (EventSpot × ℕ)
added sums amounts = fold (λ s (a : EventSpot × ℕ). with_amount event_spot_cmp s a.0 a.1) sums amounts

added-append : (sums xs ys : List (EventSpot × ℕ)) → added sums (xs ++ ys) ≡ added (added sums xs) ys
added-append sums [] ys = refl
added-append sums (x ∷ xs) ys = added-append (with_amount event_spot_cmp sums x.0 x.1) xs ys

one_added : (sums : List (EventSpot × ℕ)) (r : CellRow (List ℕ)) (event : Option (List ℕ)) → with_cell_of sums r event ≡ added sums (amount_named r event)
unfolding amount_named
one_added sums r None = refl
one_added sums r (Some event) = refl

cells_added : (events : List (List ℕ)) (sums : List (EventSpot × ℕ)) (cells : List (CellRow (List ℕ))) → fold (with_cell_in events) sums cells ≡ added sums (amounts_of events cells)
unfolding amounts_of
cells_added events sums [] = refl
cells_added events sums (r ∷ cells) =
    let here = amount_named r (slice_get events r.event) in
    cells_added events (with_cell_in events sums r) cells
    ∙ ap (λ s. added s (amounts_of events cells)) (one_added sums r (slice_get events r.event))
    ∙ sym (added-append sums here (amounts_of events cells))

runs_added : (sums : List (EventSpot × ℕ)) (runs : List NamedCells) → fold with_cells sums runs ≡ added sums (amounts_of_runs runs)
unfolding amounts_of_runs
runs_added sums [] = refl
runs_added sums (r ∷ runs) =
    runs_added (with_cells sums r) runs
    ∙ ap (λ s. added s (amounts_of_runs runs)) (cells_added r.events sums r.cells)
    ∙ sym (added-append sums (amounts_of r.events r.cells) (amounts_of_runs runs))

-- ---- a sum over columns, each by its event's name

module _ (test : EventSpot → Bool) where
  abbrev at : List ℕ → Spot → Bool
  at event p = test (record { spot = any_thread p; event = event })

  over : (k : ℕ) (events : List (List ℕ)) (cost : (Spot → Bool) → ℕ → ℕ) → ℕ
  over k [] cost = 0
  over k (event ∷ events) cost = cost (at event) k + over (k + 1) events cost

  over-same : (k : ℕ) (events : List (List ℕ)) (f g : (Spot → Bool) → ℕ → ℕ) → ((passes : Spot → Bool) (j : ℕ) → f passes j ≡ g passes j) → over k events f ≡ over k events g
  unfolding over
  over-same k [] f g same = refl
  over-same k (event ∷ events) f g same = ap₂ ◌+◌ (same (at event) k) (over-same (k + 1) events f g same)

  over-sum : (k : ℕ) (events : List (List ℕ)) (f g : (Spot → Bool) → ℕ → ℕ) → over k events (λ passes j. f passes j + g passes j) ≡ over k events f + over k events g
  unfolding over
  over-sum k [] f g = refl
  over-sum k (event ∷ events) f g =
      ap (λ n. (f (at event) k + g (at event) k) + n) (over-sum (k + 1) events f g)
      ∙ swap_sums (f (at event) k) (g (at event) k) (over (k + 1) events f) (over (k + 1) events g)

  over-none : (k : ℕ) (events : List (List ℕ)) → over k events (λ _ _. 0) ≡ 0
  unfolding over
  over-none k [] = refl
  over-none k (event ∷ events) = zero-add (over (k + 1) events (λ _ _. 0)) ∙ over-none (k + 1) events

  abbrev sum : List (EventSpot × ℕ) → ℕ
  sum amounts = sum_where test (λ n. n) amounts

  -- ---- records

  one_record : (cost : Cost) (k : ℕ) (events : List (List ℕ)) → sum (costs_from cost k events) ≡ over k events (λ passes j. if passes (spot_of cost) then slice_index cost.costs j else 0)
  unfolding over
  one_record cost k [] = refl
  one_record cost k (event ∷ events) = ap (λ n. (if at event (spot_of cost) then slice_index cost.costs k else 0) + n) (one_record cost (k + 1) events)

  of_records : (events : List (List ℕ)) (records : List Record) → sum (named_costs events records) ≡ over 0 events (λ passes k. self_sum passes k records)
  of_records events [] = sym (over-none 0 events)
  of_records events (Own cost ∷ records) =
      sum-append test (costs_from cost 0 events) (named_costs events records)
      ∙ ap₂ ◌+◌ (one_record cost 0 events) (of_records events records)
      ∙ sym (over-sum 0 events (λ passes k. if passes (spot_of cost) then slice_index cost.costs k else 0) (λ passes k. self_sum passes k records))
  of_records events (Called callee cost ∷ records) = of_records events records

  -- ---- rows

  abbrev in_column : Spot → ℕ → ℕ → (Spot → Bool) → ℕ → ℕ
  in_column p n cost passes j = if passes p && (n == j) then cost else 0

  not_at : (p : Spot) (n cost : ℕ) (passes : Spot → Bool) (j : ℕ) → (n == j) ≡ false → in_column p n cost passes j ≡ 0
  not_at p n cost passes j other = ap (λ b. if passes p && b then cost else 0) other ∙ ap (λ b. if b then cost else 0) (and-false (passes p))

  is_at : (p : Spot) (n cost : ℕ) (passes : Spot → Bool) (j : ℕ) → (n == j) ≡ true → in_column p n cost passes j ≡ (if passes p then cost else 0)
  is_at p n cost passes j same = ap (λ b. if passes p && b then cost else 0) same ∙ ap (λ b. if b then cost else 0) (and-true (passes p))

  before : (k i : ℕ) → (k == suc (k + i)) ≡ false
  before k i = grind (arith, nat_tests)

  behind : (k i : ℕ) → (k + suc i == k) ≡ false
  behind k i = grind (arith, nat_tests)

  -- past its column a row has none
  none_behind : (p : Spot) (n cost k : ℕ) (events : List (List ℕ)) → ((i : ℕ) → (n == k + i) ≡ false) → over k events (in_column p n cost) ≡ 0
  unfolding over
  none_behind p n cost k [] other = refl
  none_behind p n cost k (event ∷ events) other =
      let here = not_at p n cost (at event) k (ap (λ j. n == j) (sym (add-zero k)) ∙ other 0) in
      let rest = none_behind p n cost (k + 1) events (λ i. ap (λ j. n == j) (further k i) ∙ other (suc i)) in
      omega (arith, here, rest)
    where
      further : (m i : ℕ) → (m + 1) + i ≡ m + suc i
      further m i = omega arith

  abbrev named : Spot → ℕ → Option (List ℕ) → ℕ
  named p cost None = 0
  named p cost (Some event) = if at event p then cost else 0

  one_row : (p : Spot) (cost k i : ℕ) (events : List (List ℕ)) → named p cost (slice_get events i) ≡ over k events (in_column p (k + i) cost)
  unfolding over
  one_row p cost k i [] = refl
  one_row p cost k zero (event ∷ events) =
      let here = is_at p (k + 0) cost (at event) k (ap (λ j. j == k) (add-zero k) ∙ eq-eqb k k refl) in
      let rest = none_behind p (k + 0) cost (k + 1) events (λ j. ap₂ (λ m n. m == n) (add-zero k) (next k j) ∙ before k j) in
      let goal : (if at event p then cost else 0) ≡ in_column p (k + 0) cost (at event) k + over (k + 1) events (in_column p (k + 0) cost) = omega (arith, here, rest) in
      goal
    where
      next : (m j : ℕ) → (m + 1) + j ≡ suc (m + j)
      next m j = omega arith
  one_row p cost k (suc i) (event ∷ events) =
      let here = not_at p (k + suc i) cost (at event) k (behind k i) in
      let rest = one_row p cost (k + 1) i events ∙ ap (λ n. over (k + 1) events (in_column p n cost)) (further k i) in
      let goal : named p cost (slice_get events i) ≡ in_column p (k + suc i) cost (at event) k + over (k + 1) events (in_column p (k + suc i) cost) = omega (arith, here, rest) in
      goal
    where
      further : (m j : ℕ) → (m + 1) + j ≡ m + suc j
      further m j = omega arith

  sum_named : (r : CellRow (List ℕ)) (event : Option (List ℕ)) → sum (amount_named r event) ≡ named (place_of_row r) r.cost event
  unfolding amount_named
  sum_named r None = refl
  sum_named r (Some event) = add-zero (if at event (place_of_row r) then r.cost else 0)

  of_cells : (events : List (List ℕ)) (cells : List (CellRow (List ℕ))) → sum (amounts_of events cells) ≡ over 0 events (λ passes k. rows_cost passes k cells)
  unfolding amounts_of
  of_cells events [] = sym (over-none 0 events)
  of_cells events (r ∷ cells) =
      sum-append test (amount_named r (slice_get events r.event)) (amounts_of events cells)
      ∙ ap₂ ◌+◌ (sum_named r (slice_get events r.event) ∙ one_row (place_of_row r) r.cost 0 r.event events ∙ ap (λ n. over 0 events (in_column (place_of_row r) n r.cost)) (zero-add r.event)) (of_cells events cells)
      ∙ sym (over-sum 0 events (in_column (place_of_row r) r.event r.cost) (λ passes k. rows_cost passes k cells))

  of_runs : (files : List NamedRecords) (runs : List NamedCells) → NamesStandForEach files runs → sum (amounts_of_runs runs) ≡ sum (all_named files)
  unfolding amounts_of_runs
  of_runs [] [] stand = refl
  of_runs [] (r ∷ runs) stand = absurd stand
  of_runs (f ∷ files) [] stand = absurd stand
  of_runs (f ∷ files) (r ∷ runs) stand =
      sum-append test (amounts_of r.events r.cells) (amounts_of_runs runs)
      ∙ ap₂ ◌+◌
      (of_cells r.events r.cells
      ∙ over-same 0 r.events (λ passes k. rows_cost passes k r.cells) (λ passes k. self_sum passes k f.records) stand.0.cells
      ∙ ap (λ events. over 0 events (λ passes k. self_sum passes k f.records)) stand.0.events
      ∙ sym (of_records f.events f.records))
      (of_runs files runs stand.1)
      ∙ sym (sum-append test (named_costs f.events f.records) (all_named files))

pub csv-records : (files : List NamedRecords) (runs : List NamedCells) → NamesStandForEach files runs → csv_of_cells runs ≡ csv_of_records files
csv-records files runs stand =
    runs_added [] runs
    ∙ same_amounts event_spot-total event_spot-apart (amounts_of_runs runs) (all_named files) (λ test. of_runs test files runs stand)
