-- Costs, each as often as it counts, from the front.
use Rattle.std.proofs.Common.{◌≡◌, ℕ, zero, suc, ◌+◌, ◌*◌, ◌<◌, List, [], ◌∷◌, length, take, get_or, zip, arith, add-one}
use Rattle.std.proofs.lemmas.List.Sums.{sum_by-cons}
use Rattle.cg_formulas.specs.Formulas.{product, weighed}

pub weighed-cons : (x y : ℕ) (xs ys : List ℕ) → weighed (x ∷ xs) (y ∷ ys) ≡ x * y + weighed xs ys
weighed-cons x y xs ys = sum_by-cons product (x, y) (zip xs ys)

weighed-step : (k : ℕ) (xs ys : List ℕ) → k < length xs → k < length ys → weighed (take (suc k) xs) (take (suc k) ys) ≡ weighed (take k xs) (take k ys) + get_or xs k 0 * get_or ys k 0
weighed-step k [] ys inx iny = absurd (omega (arith, inx))
weighed-step k (x ∷ xs) [] inx iny = absurd (omega (arith, iny))
weighed-step zero (x ∷ xs) (y ∷ ys) inx iny = let one = weighed-cons x y [] [] in omega (arith, one)
weighed-step (suc k) (x ∷ xs) (y ∷ ys) inx iny =
    let rest = weighed-step k xs ys (omega (arith, inx)) (omega (arith, iny)) in
    let left = weighed-cons x y (take (suc k) xs) (take (suc k) ys) in
    let right = weighed-cons x y (take k xs) (take k ys) in
    omega (arith, rest, left, right)

pub weighed_more : (k : ℕ) (xs ys : List ℕ) → k < length xs → k < length ys → weighed (take (k + 1) xs) (take (k + 1) ys) ≡ weighed (take k xs) (take k ys) + get_or xs k 0 * get_or ys k 0
weighed_more k xs ys inx iny = rw add-one (weighed-step k xs ys inx iny)
