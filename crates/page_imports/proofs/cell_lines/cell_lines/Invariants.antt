use Rattle.std.proofs.Common.{◌≡◌, flat_map, map}
use Rattle.page_imports.specs.Lines.{cell_line, event_rows}
use Rattle.page_imports.proofs.cell_lines.cell_lines.Given as goal

-- the lines of the places so far
abbrev pub invariant-rows : goal.invariant-rows
invariant-rows l = map cell_line l.lines.items ≡ flat_map (event_rows l.names) l.yielded
