use Rattle.std.proofs.Common.{◌≡◌, ℕ, List, [], map}
use Rattle.sqlite_pages.specs.Calls.{IsClean, Continues}
use Rattle.sqlite_btree.specs.Chain.{Layout}
use Rattle.sqlite_btree.specs.Cut.{from_cut}
use Rattle.sqlite_btree.specs.Stored.{IsIndex, IsLaidIn}
use Rattle.sqlite_record.specs.Record.{decode}
use Rattle.sqlite_store.specs.Db.{record_order}
use Rattle.page_rows.specs.Indexes.{at_row}
use Rattle.page_rows.proofs.IndexCuts.{HasPassed}
use Rattle.page_rows.proofs.entry_walks.walk_entries.Given as goal

abbrev pub invariant-batches : goal.invariant-batches
invariant-batches g l =
    let size = g.P.Pages.size l.fn.store in
    let pages = g.P.Pages.pages l.fn.store in
    let t = g.T.EntrySink in
    (IsClean g.P.Pages l.store → (layout : Layout) (records : List (List ℕ)) → IsLaidIn layout pages → IsIndex (record_order l.fn.order) size layout l.fn.root records
    → (start : t.Start) → t.Has start [] l.fn.sink → HasPassed t.Has start records l.last.items l.sink (map decode (from_cut (at_row l.fn.order l.fn.from) records)))
    × Continues g.P.Pages l.fn.store l.store × (g.P.Pages.pages l.store ≡ pages)
