use Rattle.std.proofs.Common.{◌≡◌, ◌++◌, map, take}
use Rattle.run_stores.specs.Files.{cell_rows_at}
use Rattle.page_imports.specs.Lines.{cell_line}
use Rattle.page_imports.proofs.cell_lines.add_costs.Given as goal

-- the lines of the costs so far
abbrev pub invariant-costs : goal.invariant-costs
invariant-costs l = map cell_line l.lines.items ≡ map cell_line l.fn.lines.items ++ cell_rows_at l.names.run l.names.numbers.now l.place 0 (take l.event l.costs)
