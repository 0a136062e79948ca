use Rattle.std.proofs.Common.{◌-◌}
use Rattle.page_files.proofs.trims.+leaf_below.Given as goal

abbrev pub decreases-leaf_below : goal.decreases-leaf_below
decreases-leaf_below g l = 20 - l.depth
