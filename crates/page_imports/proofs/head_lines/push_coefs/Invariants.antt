use Rattle.std.proofs.Common.{◌≡◌, ◌++◌, map, drop}
use Rattle.run_stores.specs.Heads.{coef_rows_at}
use Rattle.prof_store.specs.Lines.{coef_row}
use Rattle.page_imports.proofs.head_lines.push_coefs.Given as goal

-- the lines so far, and those of the events that are left, are all of them
abbrev pub invariant-events : goal.invariant-events
invariant-events l = map coef_row l.lines.items ++ coef_rows_at l.run l.fn.place l.event (drop l.event l.coefficients) ≡ map coef_row l.fn.lines.items ++ coef_rows_at l.run l.fn.place 0 l.coefficients
