use Rattle.std.proofs.Common.{take}
use Rattle.run_stores.specs.Calls.{Asked, IsFaithful, ReadsAs}
use Rattle.plain_tables.specs.Tables.{Tables}
use Rattle.selected_runs.specs.Added.{AreAdded}
use Rattle.selected_runs.proofs.adding.fold_runs.Given as goal

-- the runs so far were added
abbrev pub invariant-loop-run : goal.invariant-loop-run
invariant-loop-run g l = record {
  asked : IsFaithful g.S.StoreState l.store → Asked g.S.StoreState (g.S.StoreState.is_usable l.fn.store) l.fn.store l.store;
  told : IsFaithful g.S.StoreState l.store → (t : Tables) → ReadsAs g.S.StoreState t l.fn.store → AreAdded (g.A.RunFold.Step l.adder t) (take l.run-index l.runs) l.fn.sums l.sums;
}
