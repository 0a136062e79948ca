-- Sums by column: what the sink keeps is the sum of each column over the self records.
use Rattle.std.proofs.Common.{◌≡◌, ℕ, ◌+◌, ◌*◌, ◌<◌, ◌≤◌, zero, suc, List, [], ◌∷◌, fold, slice_index, All, lit<, ◌^◌, sym, ◌∙◌, ap, arith, add_assoc, add-zero}
use Rattle.std.proofs.lemmas.List.Elements.{All-from_get_or}
use Rattle.profile_records.specs.Columns.{added}
use Rattle.profile_records.specs.Records.{Record, Own, Called}
use Rattle.profile_records.proofs.ColumnsLemmas.{slice_index-added}
use Rattle.file_reading.specs.Sums.{self_sum, add_record}

-- what the sink keeps
pub slice_index-fold : (records : List Record) (sums : List ℕ) (k : ℕ) → slice_index (fold add_record sums records) k ≡ slice_index sums k + self_sum k records
slice_index-fold [] sums k = sym (add-zero (slice_index sums k))
slice_index-fold (Own cost ∷ records) sums k =
    slice_index-fold records (added sums cost.costs) k
    ∙ ap (λ n. n + self_sum k records) (slice_index-added sums cost.costs k)
    ∙ add_assoc (slice_index sums k) (slice_index cost.costs k) (self_sum k records)
slice_index-fold (Called callee cost ∷ records) sums k = slice_index-fold records sums k

at_most : (xs : List ℕ) (k n : ℕ) → All (λ x. x ≤ n) xs → slice_index xs k ≤ n
at_most [] k n all = omega arith
at_most (x ∷ xs) zero n all = all 0 0 (omega arith)
at_most (x ∷ xs) (suc k) n all = at_most xs k n (λ j d below. all (suc j) d (omega arith))

below_bound : (xs : List ℕ) (k n : ℕ) → 0 < n → All (λ x. x < n) xs → slice_index xs k < n
below_bound [] k n some all = some
below_bound (x ∷ xs) zero n some all = all 0 0 (omega arith)
below_bound (x ∷ xs) (suc k) n some all = below_bound xs k n some (λ j d below. all (suc j) d (omega arith))

-- the bound on the sums rises with each record
pub small-added : (sums costs : List ℕ) (n more : ℕ) → n < more → All (λ s. s ≤ n * 2 ^ 63) sums → All (λ c. c < 2 ^ 63) costs → All (λ s. s ≤ more * 2 ^ 63) (added sums costs)
small-added sums costs n more rises small low =
    All-from_get_or (λ s. s ≤ more * 2 ^ 63) (added sums costs) 0
    (λ k below.
    let sum : slice_index sums k ≤ n * 2 ^ 63 = at_most sums k (n * 2 ^ 63) small in
    let cost : slice_index costs k < 2 ^ 63 = below_bound costs k (2 ^ 63) (lit< tt) low in
    rw (slice_index-added sums costs k) (omega arith))
