use Rattle.std.proofs.Common.{◌∙◌}
use Rattle.line_fills.proofs.Numbers.{places_more}
use Rattle.line_fills.proofs.sorting.sorted.Goals as goal

pub loop-at-preserved : goal.loop-at-preserved
loop-at-preserved g c = c.in_ok-push.ensures.items ∙ places_more c.loop-at.at c.loop-at.places.items c.loop-at.invariant
