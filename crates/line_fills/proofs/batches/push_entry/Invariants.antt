use Rattle.std.proofs.Common.{◌∷◌, map, pos, take}
use Rattle.sqlite_value.specs.declared.value.Value.TheVariants.{Int}
use Rattle.sqlite_value.specs.Order.{column}
use Rattle.line_fills.specs.Written.{HasValues}
use Rattle.line_fills.proofs.batches.push_entry.Given as goal

abbrev pub invariant-loop-at : goal.invariant-loop-at
invariant-loop-at g l = HasValues l.encoder (map (column (Int (pos l.rowid) ∷ g.L.PageLine.columns l.line)) (take l.at-index l.columns))
