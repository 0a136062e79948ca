use Rattle.std.proofs.Common.{◌≡◌, ◌++◌, ◌∷◌, map, take}
use Rattle.run_stores.specs.Files.{call_rows_from}
use Rattle.page_imports.specs.Lines.{call_line, part_row}
use Rattle.page_imports.proofs.call_lines.add_calls.Given as goal

-- the lines of the number of calls and of the costs so far
abbrev pub invariant-costs : goal.invariant-costs
invariant-costs l =
    map call_line l.lines.items ≡ map call_line l.fn.lines.items ++ part_row l.names l.call 0 l.calls.count ∷ call_rows_from l.names.run l.names.numbers.now l.call 1 (take l.column l.costs)
