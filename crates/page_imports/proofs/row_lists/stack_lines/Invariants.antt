use Rattle.std.proofs.Common.{◌≡◌, map}
use Rattle.page_imports.specs.FromRows.{line_of_stack}
use Rattle.prof_store.specs.Lines.{stack_row}
use Rattle.page_imports.proofs.row_lists.stack_lines.Given as goal

-- the lines of the rows so far
abbrev pub invariant-rows : goal.invariant-rows
invariant-rows l = map stack_row l.lines.items ≡ map (line_of_stack l.run) l.yielded
