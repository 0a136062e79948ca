-- Costs by column, added.
use Rattle.std.proofs.Common.{◌≡◌, ℕ, ◌+◌, ◌<◌, ◌≤◌, zero, suc, List, [], ◌∷◌, ◌++◌, length, replicate, slice_index, sym, ◌∙◌, ap, refl, inl, inr, arith, add-zero, zero-add}
use Rattle.std.proofs.lemmas.List.{ext_get_or, get_or_past}
use Rattle.std.proofs.lemmas.Bool.{cases_lt}
use Rattle.profile_records.specs.Columns.{added}

pub slice_index-added : (sums costs : List ℕ) (k : ℕ) → slice_index (added sums costs) k ≡ slice_index sums k + slice_index costs k
slice_index-added [] costs k = sym (zero-add (slice_index costs k))
slice_index-added (sum ∷ sums) [] k = sym (add-zero (slice_index (sum ∷ sums) k))
slice_index-added (sum ∷ sums) (cost ∷ costs) zero = refl
slice_index-added (sum ∷ sums) (cost ∷ costs) (suc k) = slice_index-added sums costs k

pub length-added : (sums costs : List ℕ) → length costs ≤ length sums → length (added sums costs) ≡ length sums
length-added [] [] few = refl
length-added [] (cost ∷ costs) few = absurd (omega arith)
length-added (sum ∷ sums) [] few = refl
length-added (sum ∷ sums) (cost ∷ costs) few = ap (λ n. suc n) (length-added sums costs (omega arith))

added-zeros : (costs : List ℕ) → added (replicate (length costs) 0) costs ≡ costs
added-zeros [] = refl
added-zeros (cost ∷ costs) = ap (λ c. c ∷ added (replicate (length costs) 0) costs) (zero-add cost) ∙ ap (λ cs. cost ∷ cs) (added-zeros costs)

-- zeros for the columns that the sums lack change nothing
pub added-widened : (sums costs : List ℕ) (n : ℕ) → length sums + n ≡ length costs → added (sums ++ replicate n 0) costs ≡ added sums costs
added-widened [] costs n e = let same : n ≡ length costs = omega arith in rw same (added-zeros costs)
added-widened (sum ∷ sums) [] n e = absurd (omega arith)
added-widened (sum ∷ sums) (cost ∷ costs) n e = ap (λ cs. (sum + cost) ∷ cs) (added-widened sums costs n (omega arith))

-- each of the first n columns has its cost, and no further column has one
by_column : (sums costs new : List ℕ) (n k : ℕ) → length costs ≤ n → (k < n → slice_index new k ≡ slice_index sums k + slice_index costs k) → (n ≤ k → slice_index new k ≡ slice_index sums k) → slice_index new k ≡ slice_index sums k + slice_index costs k
by_column sums costs new n k few gained kept = elim (cases_lt k n) [
  | inl below ↦ gained below
  | inr past ↦ rw (get_or_past costs k 0 (omega arith)) (kept past ∙ sym (add-zero (slice_index sums k)))
]

-- sums to which the first n columns of costs were added, where there are no more, are the sums with the costs
pub added-by_column : (sums costs new : List ℕ) (n : ℕ) → length costs ≤ length sums → length new ≡ length sums → length costs ≤ n → ((k : ℕ) → k < n → slice_index new k ≡ slice_index sums k + slice_index costs k) → ((k : ℕ) → n ≤ k → slice_index new k ≡ slice_index sums k) → new ≡ added sums costs
added-by_column sums costs new n wide same few gained kept =
    ext_get_or 0 new (added sums costs) (same ∙ sym (length-added sums costs wide))
    (λ k below. by_column sums costs new n k few (gained k) (kept k) ∙ sym (slice_index-added sums costs k))
