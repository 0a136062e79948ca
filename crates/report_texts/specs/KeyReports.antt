-- A report by key: the sums above 0, the greatest first, cut, with what is left.
use Rattle.std.specs.Prelude.{◌≡◌, ℕ, ◌+◌, ◌-◌, ◌*◌, ◌≤◌, ◌<◌, nat_le, if◌then◌else◌, List, [], ◌∷◌, length, take, Option, Some, None}
use Rattle.std.specs.declared.cmp.Ordering.{Ordering}
use Rattle.std.specs.Ordering.{nat_cmp, ordering_then}
use Rattle.cost_rows.specs.KeySums.{total_of}
use Rattle.cost_rows.specs.Keys.{named_cmp}
use Rattle.cost_rows.specs.Sums.{Spot}
use Rattle.cost_rows.specs.declared.keys.Key.{Key}
use Rattle.report_texts.specs.Ranking.{ranked}
use Rattle.report_texts.specs.declared.cuts.Cut.{Cut}

-- the greatest cost first; of equal costs by the part of the place
abbrev pub rank_cmp : Spot × ℕ → Spot × ℕ → Ordering
rank_cmp a b = ordering_then (nat_cmp b.1 a.1) (named_cmp a.0 b.0)

-- rows until they come, with what stands before them, to a hundredth of what is needed
abbrev pub reaching : ℕ → ℕ → List (Spot × ℕ) → List (Spot × ℕ)
reaching need before [] = []
reaching need before (e ∷ sums) = if nat_le need (before * 100) then [] else e ∷ reaching need (before + e.1) sums

-- at most so many
abbrev pub limited : Option ℕ → List (Spot × ℕ) → List (Spot × ℕ)
limited None sums = sums
limited (Some limit) sums = take limit sums

-- rows until they sum to the threshold, in percent of the total
abbrev pub enough : ℕ → List (Spot × ℕ) → List (Spot × ℕ)
enough threshold sums = reaching (threshold * total_of sums) 0 (ranked rank_cmp sums)

abbrev pub shown : Cut → List (Spot × ℕ) → List (Spot × ℕ)
shown cut sums = limited cut.limit (enough cut.threshold sums)

pub record ReportByKey : Type 0 where
  pub key : Key
  pub rows : List (Spot × ℕ)
  pub rest : ℕ
  pub total : ℕ

-- of sums above 0 by key, each part of a place once
abbrev pub report_of : Key → Cut → List (Spot × ℕ) → ReportByKey
report_of key cut sums = record {
  key = key;
  rows = shown cut sums;
  rest = total_of sums - total_of (shown cut sums);
  total = total_of sums;
}

-- rows begin others and sum to a hundredth of what is needed, and no shorter beginning does
pub record IsShortest (need : ℕ) (all rows : List (Spot × ℕ)) : Type 0 where
  pub begins : rows ≡ take (length rows) all
  pub reaches : need ≤ total_of rows * 100
  pub shortest : (n : ℕ) → n < length rows → total_of (take n all) * 100 < need
