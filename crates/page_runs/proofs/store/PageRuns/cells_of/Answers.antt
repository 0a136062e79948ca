use Rattle.std.proofs.Common.{refl}
use Rattle.page_runs.proofs.store.PageRuns.cells_of.Goals as goal

pub returns : goal.returns
returns g c t listed = record { root_is = refl; run_is = refl; sums_are = c.in_ok-cell_sums_of.ensures.told t listed; runs_are = c.run_count.ensures.told t listed }
