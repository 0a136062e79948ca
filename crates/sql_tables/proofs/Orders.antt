-- Rows that rise, and what an answer shows of all rows.
use Rattle.std.proofs.Common.{◌≡◌, ℕ, suc, ◌+◌, ◌<◌, List, [], ◌∷◌, length, map, drop, true, false, get_or, ap, ap₂, subst, ◌∙◌, refl, arith}
use Rattle.std.specs.List.{AllByRecursion, AllAdjacentBelow}
use Rattle.sqlite_trees.specs.Tree.{IsAscending}
use Rattle.sqlite_value.specs.declared.value.Value.{Value}
use Rattle.sqlite_value.specs.Order.{Row}
use Rattle.sql_tables.proofs.Rows.{Numbered}

module _ {X : Type 0} (n : X → ℕ) where
  abbrev Rises : List X → Type 0
  Rises xs = AllAdjacentBelow (λ a b. n a < n b) xs (length xs)

  rest_rises : (x : X) (xs : List X) → Rises (x ∷ xs) → Rises xs
  rest_rises x xs h k d low =
      let next : suc k + 1 ≡ suc (k + 1) = omega arith in
      subst (λ j. n (get_or xs k d) < n (get_or (x ∷ xs) j d)) next (h (suc k) d (omega arith))

  above : (x y : X) (ys : List X) → n x < n y → AllByRecursion (λ z. n y < n z) ys → AllByRecursion (λ z. n x < n z) ys
  above x y [] less h = tt
  above x y (z ∷ ys) less h = (omega (arith, h.0), above x y ys less h.1)

  -- each is below all that follow
  pub rising : (xs : List X) → Rises xs → IsAscending (λ a b. n a < n b) xs
  rising [] h = tt
  rising (x ∷ []) h = (tt, tt)
  rising (x ∷ y ∷ ys) h =
      let more = rising (y ∷ ys) (rest_rises x (y ∷ ys) h) in
      let first : n x < n y = h 0 x (omega arith) in
      ((first, above x y ys first more.0), more)

-- what is seen of the rows of a table whose rowids nobody reads
pub seen_columns : {X : Type 0} (columns shown : X → Row) (seen : Row → Row) → ((id : Value) (x : X) → seen (id ∷ columns x) ≡ shown x) → (rows : List Row) (xs : List X) → AllByRecursion Numbered rows → map (drop 1) rows ≡ map columns xs
    → map seen rows ≡ map shown xs
seen_columns columns shown seen same [] [] all h = refl
seen_columns columns shown seen same [] (x ∷ xs) all h = absurd cc
seen_columns columns shown seen same (r ∷ rows) [] all h = absurd cc
seen_columns columns shown seen same ([] ∷ rows) (x ∷ xs) all h = absurd (let bad : false ≡ true = all.0 in cc)
seen_columns columns shown seen same ((id ∷ cs) ∷ rows) (x ∷ xs) all h =
    let first : cs ≡ columns x = cc in
    let rest : map (drop 1) rows ≡ map columns xs = cc in
    let here : seen (id ∷ cs) ≡ shown x = ap (λ l. seen (id ∷ l)) first ∙ same id x in
    let cons = ap₂ {A = Row} ◌∷◌ here (seen_columns columns shown seen same rows xs all.1 rest) in cons
