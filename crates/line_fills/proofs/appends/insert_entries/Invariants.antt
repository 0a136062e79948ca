use Rattle.std.proofs.Common.{◌-◌, ◌≤◌, length, map, take}
use Rattle.sqlite_pool.specs.Pool.{state}
use Rattle.sqlite_pool.specs.Stored.{Keeps}
use Rattle.sqlite_trees.specs.Tree.{insert_entry}
use Rattle.sqlite_trees.specs.declared.store.Shape.TheVariants.{Index}
use Rattle.sqlite_value.specs.Keys.{plain}
use Rattle.page_files.specs.Files.{IsUsable}
use Rattle.line_fills.specs.Rows.{entries_at}
use Rattle.line_fills.proofs.Steps.{HasCome, HasPlaced}
use Rattle.line_fills.proofs.appends.insert_entries.Given as goal

abbrev pub invariant-loop-done : goal.invariant-loop-done
invariant-loop-done g l =
    HasCome (l.done ≤ length l.fn.places) (Keeps (state l.fn.file.pool) (state l.file.pool)) (IsUsable l.fn.file → IsUsable l.file)
    (HasPlaced (Index plain) l.fn.index.root (insert_entry plain) l.fn.file l.file (entries_at l.fn.index.columns.now l.fn.first (map g.L.PageLine.columns l.fn.lines) (take l.done l.fn.places)))

abbrev pub decreases-loop-done : goal.decreases-loop-done
decreases-loop-done g l = length l.fn.places - l.done
