-- Costs that are weighed column by column.
use Rattle.std.proofs.Common.{◌≡◌, ℕ, zero, suc, ◌+◌, ◌*◌, ◌<◌, List, [], ◌∷◌, length, get_or, take, zip, slice_index, refl, sym, ap, ◌∙◌, arith}
use Rattle.std.proofs.Math.Nat.{mul-zero}
use Rattle.std.proofs.lemmas.List.Sums.{sum_by-cons}
use Rattle.cg_formulas.specs.Formulas.{product, weighed}

together : (a b c : ℕ) → a + (b + c) ≡ (a + b) + c
together a b c = omega arith

none_more : (n : ℕ) → n ≡ 0 → 0 ≡ 0 + n
none_more n is = omega (arith, is)

-- past the last cost there is none
weighed_more_from : (k : ℕ) (counts costs : List ℕ) → k < length counts → weighed (take (suc k) counts) costs ≡ weighed (take k counts) costs + get_or counts k 0 * slice_index costs k
weighed_more_from k [] costs low = absurd (omega (arith, low))
weighed_more_from zero (count ∷ counts) [] low = none_more (count * 0) (mul-zero count)
weighed_more_from zero (count ∷ counts) (cost ∷ costs) low = refl
weighed_more_from (suc k) (count ∷ counts) [] low = none_more (get_or counts k 0 * 0) (mul-zero (get_or counts k 0))
weighed_more_from (suc k) (count ∷ counts) (cost ∷ costs) low =
    sum_by-cons product (count, cost) (zip (take (suc k) counts) costs)
    ∙ ap (λ n. count * cost + n) (weighed_more_from k counts costs (omega (arith, low)))
    ∙ together (count * cost) (weighed (take k counts) costs) (get_or counts k 0 * slice_index costs k)
    ∙ ap (λ n. n + get_or counts k 0 * slice_index costs k) (sym (sum_by-cons product (count, cost) (zip (take k counts) costs)))

pub weighed_more : (k : ℕ) (counts costs : List ℕ) → k < length counts → weighed (take (k + 1) counts) costs ≡ weighed (take k counts) costs + get_or counts k 0 * slice_index costs k
weighed_more k counts costs low =
    let next : k + 1 ≡ suc k = omega arith in
    ap (λ n. weighed (take n counts) costs) next ∙ weighed_more_from k counts costs low
