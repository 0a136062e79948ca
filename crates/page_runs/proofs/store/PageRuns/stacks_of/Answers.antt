use Rattle.std.proofs.Common.{refl}
use Rattle.page_runs.proofs.store.PageRuns.stacks_of.Goals as goal

pub returns : goal.returns
returns g c t listed =
    let (kind, is, sums) = c.in_ok-sums.ensures.told t listed in
    (kind, is, record { root_is = refl; run_is = refl; sums_are = sums; runs_are = c.run_count.ensures.told t listed })
