use Rattle.std.proofs.Common.{◌-◌}
use Rattle.page_files.proofs.leaves.+last_below.Given as goal

abbrev pub decreases-last_below : goal.decreases-last_below
decreases-last_below g l = 20 - l.depth
