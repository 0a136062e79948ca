use Rattle.std.proofs.Common.{◌≡◌, [], fold, take}
use Rattle.run_stores.specs.Calls.{Asked, IsFaithful, ReadsAs}
use Rattle.plain_tables.specs.Tables.{Tables}
use Rattle.store_reports.specs.Reported.{numbers_from}
use Rattle.store_reports.proofs.merging.number_runs.Given as goal

-- the runs so far were added
abbrev pub invariant-loop-run : goal.invariant-loop-run
invariant-loop-run g l = record {
  asked : IsFaithful g.S.StoreState l.store → Asked g.S.StoreState (g.S.StoreState.is_usable l.fn.store) l.fn.store l.store;
  told : IsFaithful g.S.StoreState l.store → (t : Tables) → ReadsAs g.S.StoreState t l.fn.store → l.sums ≡ fold (numbers_from t) (record { key = l.fn.key; sums = [] }) (take l.run-index l.runs);
}
