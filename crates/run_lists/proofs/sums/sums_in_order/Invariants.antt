use Rattle.std.proofs.Common.{◌≡◌, map, take}
use Rattle.run_stores.specs.SelfSums.{sums_from}
use Rattle.run_lists.specs.Sums.{placed_sum}
use Rattle.run_lists.proofs.sums.sums_in_order.Given as goal

abbrev pub invariant-loop-place : goal.invariant-loop-place
invariant-loop-place l = sums_from 0 l.sums ≡ map placed_sum (take l.place-index l.placed)
