use Rattle.std.proofs.Common.{◌≡◌, ◌^◌, ℤ, pos, ℕ, List, [], map}
use Rattle.std.specs.Int.{int_gap}
use Rattle.sqlite_pages.specs.Calls.{IsClean, Continues}
use Rattle.sqlite_btree.specs.Chain.{Layout}
use Rattle.sqlite_btree.specs.Cut.{from_cut}
use Rattle.sqlite_btree.specs.Stored.{by_rowid, IsTable, IsLaidIn}
use Rattle.sqlite_store.specs.Db.{table_row}
use Rattle.page_rows.specs.Places.{IsAt}
use Rattle.page_rows.specs.Walks.{IsBehind}
use Rattle.page_rows.proofs.walks.walk.Given as goal

-- the rowids from the next one on
abbrev pub decreases-rows : goal.decreases-rows
decreases-rows g l = int_gap l.next (pos (2 ^ 63))

abbrev pub invariant-rows : goal.invariant-rows
invariant-rows g l =
    let size = g.P.Pages.size l.fn.store in
    let pages = g.P.Pages.pages l.fn.store in
    let t = g.T.RowSink in
    (IsClean g.P.Pages l.store → (layout : Layout) (raw : List (ℤ × List ℕ)) → IsLaidIn layout pages → IsTable size layout l.root raw
    → IsAt layout size pages raw l.next l.batch
    × ((start : t.Start) → t.Has start [] l.fn.sink → IsBehind t.Has start (map table_row (from_cut (by_rowid l.next) raw)) l.sink (map table_row (from_cut (by_rowid l.fn.from) raw))))
    × Continues g.P.Pages l.fn.store l.store × (g.P.Pages.pages l.store ≡ pages)
