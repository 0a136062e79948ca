use Rattle.std.proofs.Common.{[], ◌∙◌}
use Rattle.std.proofs.Math.Nat.{zero-add}
use Rattle.std.specs.List.Sorted.{IsStrictlySortedBy}
use Rattle.cost_rows.specs.KeySums.{cost_where}
use Rattle.cost_rows.proofs.KeySumsLemmas.{sums-rows, sums-are}
use Rattle.cost_rows.proofs.laws.rows_add_up_by_key.Goals as goal

pub returns : goal.returns
unfolding IsStrictlySortedBy
returns c = λ key rows. record {
  sums = λ passes. sums-rows passes rows (record { key = key; sums = [] }) ∙ zero-add (cost_where key passes rows);
  are = sums-are rows (record { key = key; sums = [] }) (record { order = tt; above = tt });
}
