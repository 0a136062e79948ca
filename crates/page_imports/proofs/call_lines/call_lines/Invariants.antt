use Rattle.std.proofs.Common.{◌≡◌, flat_map, map}
use Rattle.page_imports.specs.Lines.{call_line, part_rows}
use Rattle.page_imports.proofs.call_lines.call_lines.Given as goal

-- the lines of the calls so far
abbrev pub invariant-rows : goal.invariant-rows
invariant-rows l = map call_line l.lines.items ≡ flat_map (part_rows l.names) l.yielded
