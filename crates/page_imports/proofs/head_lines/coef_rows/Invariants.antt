use Rattle.std.proofs.Common.{◌≡◌, ◌++◌, map, drop}
use Rattle.run_stores.specs.Heads.{coef_rows_from}
use Rattle.prof_store.specs.Lines.{coef_row}
use Rattle.page_imports.proofs.head_lines.coef_rows.Given as goal

-- the lines so far, and those of the derived events that are left, are all of them
abbrev pub invariant-derived : goal.invariant-derived
invariant-derived l = map coef_row l.lines.items ++ coef_rows_from l.run l.at (drop l.at l.derived) ≡ coef_rows_from l.run 0 l.derived
