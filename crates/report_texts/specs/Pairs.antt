-- Two sums side by side for each place, and what is added to them.
use Rattle.std.specs.Prelude.{ℕ, ◌+◌, ◌<◌, true, List, []}
use Rattle.cost_rows.specs.Keys.{named_cmp}
use Rattle.cost_rows.specs.Merging.{merge, merge_all, sum_where}
use Rattle.cost_rows.specs.Sums.{Spot}
use Rattle.cost_rows.specs.KeySums.{sum_end}
use Rattle.report_texts.specs.declared.pairs.Pair.{Pair}

abbrev pub pairs_added : Pair → Pair → Pair
pairs_added held more = record { first = held.first + more.first; second = held.second + more.second }

-- two numbers are added at a place
abbrev pub pairs_with : Spot → Pair → List (Spot × Pair) → List (Spot × Pair)
pairs_with place pair sums = merge named_cmp pairs_added sums place pair

-- numbers at places, added up place by place, in the order of places
abbrev pub pairs_by : List (Spot × Pair) → List (Spot × Pair)
pairs_by amounts = merge_all named_cmp pairs_added [] amounts

abbrev pub firsts_of : List (Spot × Pair) → ℕ
firsts_of = sum_where (λ _. true) (λ (p : Pair). p.first)

abbrev pub seconds_of : List (Spot × Pair) → ℕ
seconds_of = sum_where (λ _. true) (λ (p : Pair). p.second)

abbrev pub pair_total : List (Spot × Pair) → Pair
pair_total sums = record { first = firsts_of sums; second = seconds_of sums }

-- both sum to less than a report may show
pub record AreBelow (m n : ℕ) : Type 0 where
  pub first : m < sum_end
  pub second : n < sum_end
