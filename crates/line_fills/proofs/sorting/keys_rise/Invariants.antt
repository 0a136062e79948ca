use Rattle.std.proofs.Common.{◌≡◌, ◌<◌, ℕ, suc, get_or, map, Less}
use Rattle.sqlite_value.specs.Order.{row_cmp}
use Rattle.line_fills.specs.Rows.{key_at}
use Rattle.line_fills.proofs.sorting.keys_rise.Given as goal

-- so far each key is below the next
abbrev pub invariant-loop-i : goal.invariant-loop-i
invariant-loop-i g l =
    (j : ℕ) → suc j < l.i
    → row_cmp (key_at l.columns l.first (map g.L.PageLine.columns l.lines) (get_or l.places j 0)) (key_at l.columns l.first (map g.L.PageLine.columns l.lines) (get_or l.places (suc j) 0)) ≡ Less
