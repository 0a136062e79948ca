use Rattle.std.proofs.Common.{◌-◌, ◌≤◌, length, map, take}
use Rattle.sqlite_pool.specs.Pool.{state}
use Rattle.sqlite_pool.specs.Stored.{Keeps}
use Rattle.sqlite_trees.specs.Tree.{put_row}
use Rattle.sqlite_trees.specs.declared.store.Shape.TheVariants.{Table}
use Rattle.page_files.specs.Files.{IsUsable}
use Rattle.line_fills.specs.Rows.{numbered}
use Rattle.line_fills.proofs.Steps.{HasCome, HasPlaced}
use Rattle.line_fills.proofs.appends.append_rows.Given as goal

abbrev pub invariant-loop-done : goal.invariant-loop-done
invariant-loop-done g l =
    HasCome (l.done ≤ length l.fn.lines) (Keeps (state l.fn.file.pool) (state l.file.pool)) (IsUsable l.fn.file → IsUsable l.file)
    (HasPlaced Table l.fn.root put_row l.fn.file l.file (numbered l.fn.first (map g.L.PageLine.columns (take l.done l.fn.lines))))

abbrev pub decreases-loop-done : goal.decreases-loop-done
decreases-loop-done g l = length l.fn.lines - l.done
