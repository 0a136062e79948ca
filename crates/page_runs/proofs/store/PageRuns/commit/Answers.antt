use Rattle.std.proofs.Common.{refl}
use Rattle.page_runs.proofs.store.PageRuns.commit.Goals as goal

pub returns-in-Err : goal.returns-in-Err
returns-in-Err g c = record {
  stays = c.commit.ensures.stays;
  usable = tt;
  made = tt;
  rests = λ faithful wanted known was next writes. tt;
  undone = λ faithful usable. record { lists = refl; roots = refl; kept_cells = refl; forgets = c.in-Err.ensures.forgets faithful usable; rests = λ wanted known was stands. c.in-Err.ensures.failed faithful wanted known was stands usable };
  crash = c.commit.ensures.crash;
}
