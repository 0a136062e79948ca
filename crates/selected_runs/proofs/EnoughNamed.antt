-- What is enough of sums by number is enough of the sums by name.
use Rattle.std.proofs.Common.{◌≡◌, ℕ, ◌*◌, ◌<◌, ◌++◌, List, [], ◌∷◌, fold, map, sum_by, inl, inr, refl, ap, ◌∙◌, subst, arith, IsPermutation}
use Rattle.std.specs.List.{AllByRecursion}
use Rattle.std.proofs.lemmas.List.{length-map, map-append}
use Rattle.std.proofs.lemmas.List.Sorted.{IsPermutation-map, IsPermutation-trans, sum_by-IsPermutation}
use Rattle.std.proofs.lemmas.List.Sums.{sum_by-cons}
use Rattle.cost_reports.specs.Enough.{AreAbove, AreEnough}
use Rattle.cost_rows.specs.KeySums.{sums_by}
use Rattle.cost_rows.specs.Sums.{Spot}
use Rattle.cost_rows.specs.declared.keys.Key.{Key}
use Rattle.cost_rows.specs.declared.rows.CellRow.{CellRow}
use Rattle.plain_tables.specs.Tables.{NameRow}
use Rattle.run_stores.specs.Book.{IsHeld}
use Rattle.report_texts.specs.declared.cuts.Cut.{Cut}
use Rattle.run_stores.specs.Names.{named_cell, AreApart}
use Rattle.selected_runs.specs.Named.{named_sum}
use Rattle.selected_runs.specs.Sums.{numbers_told, with_number}
use Rattle.selected_runs.specs.declared.parts.NumberPart.{NumberPart}
use Rattle.selected_runs.proofs.OnceNamed.{once_named}

-- ---- elements seen as others of the same cost

module _ {X Y : Type 0} (see : X → Y) (cost : X → ℕ) (seen_cost : Y → ℕ) (same : (x : X) → seen_cost (see x) ≡ cost x) where
  sum_seen : (xs : List X) → sum_by seen_cost (map see xs) ≡ sum_by cost xs
  sum_seen [] = refl
  sum_seen (x ∷ xs) =
      let here = same x in
      let rest = sum_seen xs in
      let one = sum_by-cons seen_cost (see x) (map see xs) in
      let other = sum_by-cons cost x xs in
      omega (arith, here, rest, one, other)

  below_seen : (a : X) (others : List X) → AllByRecursion (λ b. cost b < cost a) others → AllByRecursion (λ b. seen_cost b < seen_cost (see a)) (map see others)
  below_seen a [] all = tt
  below_seen a (b ∷ others) all = ((let x = same a in let y = same b in omega (arith, x, y, all.0)), below_seen a others all.1)

  above_seen : (some others : List X) → AreAbove cost some others → AreAbove seen_cost (map see some) (map see others)
  above_seen [] others all = tt
  above_seen (a ∷ some) others all = (below_seen a others all.0, above_seen some others all.1)

  -- of all in another order, seen as others
  pub enough_seen : (cut : Cut) (all some : List X) (others : List Y) → IsPermutation (map see all) others → AreEnough cost cut all some → AreEnough seen_cost cut others (map see some)
  enough_seen cut all some others moved enough = record {
    others = map see enough.others;
    are_all = IsPermutation-trans (map see some ++ map see enough.others) (map see all) others
        (subst (λ (ys : List Y). IsPermutation ys (map see all)) (map-append see some enough.others) (IsPermutation-map see (some ++ enough.others) all enough.are_all)) moved;
    above = above_seen some enough.others enough.above;
    suffice = elim enough.suffice [
      | inl none ↦ inl (ap (map see) none)
      | inr more ↦ elim more [
        | inl limit ↦ inr (inl (limit.0, limit.1, omega (arith, limit.2, length-map some see)))
        | inr need ↦
            let whole = ap (λ n. cut.threshold * n) (sum_by-IsPermutation seen_cost (map see all) others moved ∙ sum_seen all) in
            let part = sum_seen some in
            inr (inr (omega (arith, whole, part, need)))
      ]
    ];
  }

-- ---- sums by name

-- what is enough of the sums by number, in any order, is enough of the sums by name
pub enough_named : (names : List NameRow) (key : Key) (cut : Cut) (rows : List (CellRow ℕ)) (ranked kept : List (NumberPart × ℕ)) → AreApart names
    → AllByRecursion (IsHeld names) (numbers_told key (fold with_number (record { key = key; sums = [] }) rows).sums)
    → IsPermutation ranked (fold with_number (record { key = key; sums = [] }) rows).sums
    → AreEnough (λ (e : NumberPart × ℕ). e.1) cut ranked kept
    → AreEnough (λ (e : Spot × ℕ). e.1) cut (sums_by key (map (named_cell names) rows)) (map (named_sum names key) kept)
enough_named names key cut rows ranked kept apart held moved enough =
    let sums : List (NumberPart × ℕ) = (fold with_number (record { key = key; sums = [] }) rows).sums in
    let by_name : List (Spot × ℕ) = sums_by key (map (named_cell names) rows) in
    enough_seen (named_sum names key) (λ (e : NumberPart × ℕ). e.1) (λ (e : Spot × ℕ). e.1) (λ e. refl) cut ranked kept by_name
    (IsPermutation-trans (map (named_sum names key) ranked) (map (named_sum names key) sums) by_name
    (IsPermutation-map (named_sum names key) ranked sums moved) (once_named names apart key rows held)) enough
