use Rattle.std.proofs.Common.{◌≡◌, ◌≤◌, ◌<◌, ◌-◌, List, length, get_or, map, filter, take}
use Rattle.std.specs.List.Sorted.{IsNonDecreasing}
use Rattle.sqlite_value.specs.Order.{Row}
use Rattle.page_files.specs.Files.{IsFaithful, OnlyReads}
use Rattle.page_lists.specs.Among.{is_among}
use Rattle.page_lists.specs.Shown.{ShowsRows}
use Rattle.page_lists.proofs.some_rows.rows_of_sorted.Given as goal

abbrev pub invariant-groups : goal.invariant-groups
invariant-groups g l = record {
  within : l.at ≤ length l.sorted;
  far : 0 < l.at → l.at < length l.sorted → get_or l.sorted (l.at - 1) 0 < get_or l.sorted l.at 0;
  reads : OnlyReads l.fn.file l.file;
  read : IsNonDecreasing l.sorted → IsFaithful l.file → (rows : List Row) → ShowsRows l.fn.file l.root rows
      → map g.L.FromRecord.columns l.lines.items ≡ map g.L.FromRecord.seen (filter (is_among (take l.at l.sorted)) rows);
}

abbrev pub decreases-groups : goal.decreases-groups
decreases-groups g l = length l.sorted - l.at
