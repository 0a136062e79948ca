use Rattle.std.proofs.Common.{◌≡◌, ◌∷◌, take}
use Rattle.sqlite_value.specs.declared.value.Value.TheVariants.{Int}
use Rattle.row_writes.proofs.records.with_rowid.Given as goal

abbrev pub invariant-loop-at : goal.invariant-loop-at
invariant-loop-at l = l.row ≡ Int l.rowid ∷ take l.at l.columns
