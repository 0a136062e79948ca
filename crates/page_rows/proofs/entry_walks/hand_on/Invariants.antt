use Rattle.std.proofs.Common.{◌≡◌}
use Rattle.sqlite_pages.specs.Calls.{IsClean, Continues}
use Rattle.sqlite_btree.specs.Batch.{IsBatchOf}
use Rattle.sqlite_btree.specs.Chain.{Layout}
use Rattle.sqlite_btree.specs.Stored.{IsLaidIn}
use Rattle.page_rows.proofs.EntrySteps.{IsAmid}
use Rattle.page_rows.proofs.entry_walks.hand_on.Given as goal

abbrev pub invariant-entries : goal.invariant-entries
invariant-entries g l =
    let size = g.P.Pages.size l.fn.store in
    let pages = g.P.Pages.pages l.fn.store in
    (IsClean g.P.Pages l.store → (layout : Layout) → IsLaidIn layout pages → IsBatchOf layout size l.fn.batch
    → IsAmid g.T.EntrySink.Has layout size pages l.fn.batch l.batch l.fn.sink l.sink)
    × Continues g.P.Pages l.fn.store l.store × (g.P.Pages.pages l.store ≡ pages)
