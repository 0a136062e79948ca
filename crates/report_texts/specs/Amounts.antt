-- Amounts above 0, added up by key.
use Rattle.std.specs.Prelude.{ℕ, true, nat_eq, if◌then◌else◌, List, [], fold}
use Rattle.std.specs.declared.cmp.Ordering.{Ordering}
use Rattle.cost_rows.specs.Merging.{merge, sum_where}
use Rattle.cost_rows.specs.Stacks.{counts_added}

-- an amount is added at its key; one of 0 adds nothing
abbrev pub with_amount : {K : Type 0} → (K → K → Ordering) → List (K × ℕ) → K → ℕ → List (K × ℕ)
with_amount cmp sums key n = if nat_eq n 0 then sums else merge cmp counts_added sums key n

-- amounts, added up by their keys: each key once, in order, with a sum above 0
abbrev pub amounts_by : {K : Type 0} → (K → K → Ordering) → List (K × ℕ) → List (K × ℕ)
amounts_by cmp amounts = fold (λ sums a. with_amount cmp sums a.0 a.1) [] amounts

-- what they sum to
abbrev pub amount_of : {K : Type 0} → List (K × ℕ) → ℕ
amount_of sums = sum_where (λ _. true) (λ n. n) sums
