use Rattle.std.proofs.Common.{◌≡◌, ◌-◌, ◌≤◌, ◌++◌, map, take, drop}
use Rattle.sqlite_format.specs.Node.{IsSound, node_cells}
use Rattle.page_files.proofs.trims.push_cells.Given as goal

abbrev pub invariant-loop-i : goal.invariant-loop-i
invariant-loop-i l = (l.fn.from ≤ l.i) × (l.i ≤ l.fn.to) × (IsSound l.fn.node → map (λ cell. cell.now) l.cells.items ≡ map (λ cell. cell.now) l.fn.cells.items ++ take (l.i - l.fn.from) (drop l.fn.from (node_cells l.fn.node)))
