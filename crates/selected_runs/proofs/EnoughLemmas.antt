-- Sums whose costs fall: a front of them that no equal cost follows is enough for a cut.
use Rattle.std.proofs.Common.{◌≡◌, ℕ, zero, suc, ◌+◌, ◌-◌, ◌*◌, ◌≤◌, ◌<◌, false, List, [], ◌∷◌, length, take, drop, get_or, sum_by, inl, inr, refl, sym, ap, ◌∙◌, add-one, arith, IsPermutation, length-take, length-drop, get_or-take, get_or-drop}
use Rattle.std.specs.List.{AllByRecursion}
use Rattle.std.specs.List.Sorted.{IsSortedBy}
use Rattle.std.specs.Ordering.{is_lt, nat_cmp, ordering_then}
use Rattle.std.proofs.lemmas.Bool.{cases_lt, lt-ltb}
use Rattle.std.proofs.lemmas.List.{drop_all, get_or-map, get_or_default, length-map, take-append-drop}
use Rattle.std.proofs.lemmas.List.Elements.{recursion_from_All}
use Rattle.std.proofs.lemmas.List.Sorted.{IsPermutation-refl, sum_by-IsPermutation}
use Rattle.std.proofs.lemmas.List.Sums.{sum_by-cons}
use Rattle.cost_reports.specs.Enough.{AreAbove, AreEnough, Suffice}
use Rattle.report_texts.specs.declared.cuts.Cut.{Cut}
use Rattle.selected_runs.specs.Ranked.{sum_of, sums_of, CostsFall, Reached, IsApart}
use Rattle.selected_runs.specs.Sums.{numbers_cmp, numbers_total}
use Rattle.selected_runs.specs.declared.parts.NumberPart.{NumberPart}
use Rattle.selected_runs.specs.declared.parts.PartSum.{PartSum}

-- ---- totals

pub total_sum : (sums : List (NumberPart × ℕ)) → numbers_total sums ≡ sum_by (λ (e : NumberPart × ℕ). e.1) sums
total_sum [] = refl
total_sum (e ∷ sums) = ap (λ n. e.1 + n) (total_sum sums) ∙ sym (sum_by-cons (λ (e : NumberPart × ℕ). e.1) e sums)

-- in another order they have the same total
pub total_moved : (a b : List (NumberPart × ℕ)) → IsPermutation a b → numbers_total b ≡ numbers_total a
total_moved a b moved = total_sum b ∙ sum_by-IsPermutation (λ (e : NumberPart × ℕ). e.1) a b moved ∙ sym (total_sum a)

-- a front has at most what a longer one has
pub total_front : (m n : ℕ) (sums : List (NumberPart × ℕ)) → m ≤ n → numbers_total (take m sums) ≤ numbers_total (take n sums)
total_front zero n sums less = omega arith
total_front (suc m) zero sums less = absurd (omega (arith, less))
total_front (suc m) (suc n) [] less = omega arith
total_front (suc m) (suc n) (e ∷ sums) less = let rest = total_front m n sums (omega (arith, less)) in omega (arith, rest)

pub total_within : (n : ℕ) (sums : List (NumberPart × ℕ)) → numbers_total (take n sums) ≤ numbers_total sums
total_within zero sums = omega arith
total_within (suc n) [] = omega arith
total_within (suc n) (e ∷ sums) = let rest = total_within n sums in omega (arith, rest)

-- a row, where there is none
abbrev pub no_row : PartSum
no_row = record { cost = record { 0 = 0 }; part = record { object = 0; file = 0; function = 0; line = 0; thread = 0 } }

-- a front with the next row costs what this one costs more
next_front : (rows : List PartSum) (k : ℕ) (d : PartSum) → k < length rows
    → numbers_total (take (suc k) (sums_of rows)) ≡ numbers_total (take k (sums_of rows)) + (get_or rows k d).cost.0
next_front [] k d within = absurd (omega (arith, within))
next_front (row ∷ rows) zero d within = omega arith
next_front (row ∷ rows) (suc k) d within = let rest = next_front rows k d (omega (arith, within)) in omega (arith, rest)

pub total_next : (rows : List PartSum) (k : ℕ) (d : PartSum) → k < length rows
    → numbers_total (take (k + 1) (sums_of rows)) ≡ numbers_total (take k (sums_of rows)) + (get_or rows k d).cost.0
total_next rows k d within = rw add-one (next_front rows k d within)

-- ---- costs that fall

-- a front of sums whose costs fall
pub falls_front : (n : ℕ) (sums : List (NumberPart × ℕ)) → CostsFall sums → CostsFall (take n sums)
falls_front n sums falls i j d order within =
    let cut : length (take n sums) ≤ n = simp length-take (omega arith) in
    let short : length (take n sums) ≤ length sums = simp length-take (omega arith) in
    let later = get_or-take n sums j d (omega (arith, cut, within)) in
    let sooner = get_or-take n sums i d (omega (arith, cut, within, order)) in
    let fall = falls i j d order (omega (arith, short, within)) in
    let at : NumberPart × ℕ → ℕ = λ e. e.1 in
    let x = ap at later in
    let y = ap at sooner in
    omega (arith, x, y, fall)

-- from what a sort of rows ensures
module _ (rows : List PartSum) (sorted : IsSortedBy (λ (a : PartSum) (b : PartSum). is_lt (ordering_then (nat_cmp b.cost.0 a.cost.0) (numbers_cmp a.part b.part))) rows) where
  not_above : (a b : PartSum) → is_lt (ordering_then (nat_cmp b.cost.0 a.cost.0) (numbers_cmp a.part b.part)) ≡ false → a.cost.0 ≤ b.cost.0
  not_above a b h = elim (cases_lt b.cost.0 a.cost.0) [
    | inl less ↦ let k = rw (lt-ltb b.cost.0 a.cost.0 less) at h in absurd cc
    | inr most ↦ most
  ]

  falls_by : (gap i : ℕ) (d : PartSum) → i + gap < length rows → (get_or rows (i + gap) d).cost.0 ≤ (get_or rows i d).cost.0
  falls_by zero i d within = let e : i + 0 ≡ i = omega arith in rw e (omega arith)
  falls_by (suc gap) i d within =
      let rest = falls_by gap i d (omega (arith, within)) in
      let e : i + suc gap ≡ (i + gap) + 1 = omega arith in
      let step = not_above (get_or rows ((i + gap) + 1) d) (get_or rows (i + gap) d) (sorted (i + gap) d (omega arith) (omega (arith, within))) in
      rw e (omega (arith, rest, step))

  pub falls_sorted : CostsFall (sums_of rows)
  falls_sorted i j d order within =
      let inside : j < length rows = omega (arith, length-map rows sum_of, within) in
      let e : PartSum = record { cost = record { 0 = d.1 }; part = d.0 } in
      let later = get_or-map sum_of rows j e d inside in
      let sooner = get_or-map sum_of rows i e d (omega (arith, order, inside)) in
      let at : NumberPart × ℕ → ℕ = λ s. s.1 in
      let x = ap at later in
      let y = ap at sooner in
      let k : i + (j - i) ≡ j = omega (arith, order) in
      let fall = rw k at (falls_by (j - i) i e (omega (arith, order, inside))) in
      omega (arith, x, y, fall)

-- ---- enough for a cut

module _ (sums : List (NumberPart × ℕ)) (falls : CostsFall sums) (end : ℕ) (within : end ≤ length sums) (apart : IsApart sums end) where
  below : (k m : ℕ) (d : NumberPart × ℕ) → k < end → end + m < length sums → (get_or sums (end + m) d).1 < (get_or sums k d).1
  below k m d before after =
      let differ = apart (omega (arith, before)) (omega (arith, after)) d in
      let last = falls (end - 1) end d (omega (arith, before)) (omega (arith, after)) in
      let first = falls k (end - 1) d (omega (arith, before)) (omega (arith, after, before)) in
      let rest = falls end (end + m) d (omega arith) after in
      omega (arith, differ, last, first, rest)

  above : AreAbove (λ (e : NumberPart × ℕ). e.1) (take end sums) (drop end sums)
  above =
      recursion_from_All (λ (a : NumberPart × ℕ). AllByRecursion (λ (b : NumberPart × ℕ). b.1 < a.1) (drop end sums)) (take end sums) (λ k d in_front.
      recursion_from_All (λ (b : NumberPart × ℕ). b.1 < (get_or (take end sums) k d).1) (drop end sums) (λ m e in_rest.
      let before : k < end = omega (arith, length-take end sums, in_front) in
      let after : end + m < length sums = omega (arith, length-drop end sums, in_rest) in
      let at : NumberPart × ℕ → ℕ = λ s. s.1 in
      let x = ap at (get_or-take end sums k d before) in
      let y = ap at (get_or-drop end sums m e ∙ get_or_default sums (end + m) e d after) in
      let less = below k m d before after in
      omega (arith, x, y, less)))

  suffices : (cut : Cut) (count : ℕ) → count ≤ end → Reached (cut.threshold * numbers_total sums) cut.limit sums count
      → Suffice (λ (e : NumberPart × ℕ). e.1) cut sums (take end sums) (drop end sums)
  suffices cut count least reached = elim reached.1 [
    | inl all ↦ inl (drop_all end sums (omega (arith, all, least)))
    | inr part ↦ elim part [
      | inl limit ↦ inr (inl (count, limit, omega (arith, length-take end sums, least, within)))
      | inr need ↦
          let all = ap (λ n. cut.threshold * n) (total_sum sums) in
          let shown = total_sum (take end sums) in
          let more = total_front count end sums least in
          inr (inr (omega (arith, all, shown, more, need)))
    ]
  ]

  pub enough_front : (cut : Cut) (count : ℕ) → count ≤ end → Reached (cut.threshold * numbers_total sums) cut.limit sums count
      → AreEnough (λ (e : NumberPart × ℕ). e.1) cut sums (take end sums)
  enough_front cut count least reached = record {
    others = drop end sums;
    are_all = rw take-append-drop (IsPermutation-refl sums);
    above = above;
    suffice = suffices cut count least reached;
  }
