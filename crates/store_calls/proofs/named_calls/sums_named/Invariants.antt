use Rattle.std.proofs.Common.{◌≡◌, ◌+◌, ◌<◌, List, drop, map, take, sum_by}
use Rattle.cost_rows.specs.KeySums.{sum_end}
use Rattle.report_texts.specs.Pairs.{firsts_of, pairs_by, seconds_of}
use Rattle.plain_tables.specs.Tables.{NameRow}
use Rattle.selected_runs.specs.Named.{AreOf}
use Rattle.store_calls.specs.KeptCalls.{other_named, spot_asked}
use Rattle.store_calls.specs.declared.kept_rows.KeptCall.{KeptCall}
use Rattle.store_calls.proofs.named_calls.sums_named.Given as goal

-- the calls so far, and room for the others
abbrev pub invariant-loop-call : goal.invariant-loop-call
invariant-loop-call g l = record {
  sums : (all : List NameRow) → AreOf all (g.N.NameTable.name_rows l.names)
      → l.sums ≡ record { side = l.calls.side; function = spot_asked l.asked; sums = pairs_by (map (other_named all) (take l.call-index l.calls.rows.items)) };
  first : firsts_of l.sums.sums + sum_by (λ (c : KeptCall). c.sum.first) (drop l.call-index l.calls.rows.items) < sum_end;
  second : seconds_of l.sums.sums + sum_by (λ (c : KeptCall). c.sum.second) (drop l.call-index l.calls.rows.items) < sum_end;
}
