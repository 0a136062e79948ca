use Rattle.std.proofs.Common.{◌≡◌, ◌++◌, map, drop}
use Rattle.run_stores.specs.Heads.{derived_rows_from}
use Rattle.prof_store.specs.Lines.{derived_row}
use Rattle.page_imports.proofs.head_lines.derived_rows.Given as goal

-- the lines so far, and those of the derived events that are left, are all of them
abbrev pub invariant-derived : goal.invariant-derived
invariant-derived l = map derived_row l.lines.items ++ derived_rows_from l.run l.at (drop l.at l.derived) ≡ derived_rows_from l.run 0 l.derived
