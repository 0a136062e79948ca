use Rattle.std.proofs.Common.{◌≤◌, ◌^◌, List}
use Rattle.sqlite_value.specs.Order.{Row}
use Rattle.page_files.specs.Files.{IsFaithful, OnlyReads}
use Rattle.page_lists.specs.Shown.{ShowsRows}
use Rattle.page_lists.specs.Walks.{AllEarlier, InOrder}
use Rattle.page_runs.proofs.places.place_of.Given as goal

abbrev pub invariant-halves : goal.invariant-halves
invariant-halves g l =
    (IsFaithful l.file → (rows : List Row) → ShowsRows l.fn.file l.root rows → InOrder rows → AllEarlier l.run l.from rows)
    × OnlyReads l.fn.file l.file × (l.high ≤ 2 ^ 63)
