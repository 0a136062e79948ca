-- Sums over rows, by the columns in which they stand.
use Rattle.std.proofs.Common.{◌≡◌, ℕ, ◌+◌, ◌==◌, Bool, true, false, if◌then◌else◌, List, [], ◌∷◌, filter, sum_by, refl, ap, ◌∙◌, arith}
use Rattle.std.proofs.lemmas.List.Sums.{sum_by-cons}
use Rattle.run_lists.specs.RowSums.{sum_of_part}

abbrev pub part : Bool → ℕ → ℕ
part b n = if b then n else 0

module _ {X : Type 0} (place amount : X → ℕ) where
  -- what those of a column sum to
  abbrev pub at : ℕ → List X → ℕ
  at k [] = 0
  at k (x ∷ xs) = part (place x == k) (amount x) + at k xs

  pub at_part : (k : ℕ) (xs : List X) → sum_of_part place amount k xs ≡ at k xs
  at_part k [] = refl
  at_part k (x ∷ xs) = go (place x == k) (at_part k xs)
    where
      go : (b : Bool) → sum_by amount (filter (λ y. place y == k) xs) ≡ at k xs
          → sum_by amount (if b then x ∷ filter (λ y. place y == k) xs else filter (λ y. place y == k) xs) ≡ part b (amount x) + at k xs
      go true rest = sum_by-cons amount x (filter (λ y. place y == k) xs) ∙ ap (λ n. amount x + n) rest
      go false rest = omega (arith, rest)
