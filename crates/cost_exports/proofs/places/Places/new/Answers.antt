use Rattle.std.proofs.Common.{length, ap}
use Rattle.cost_rows.specs.Merging.{seen}
use Rattle.cost_exports.specs.Views.{held_names, names_cmp}
use Rattle.cost_rows.proofs.SlotsLemmas.{no_slots}
use Rattle.cost_exports.proofs.places.Places.new.Goals as goal

pub invariant_of-result : goal.invariant_of-result
invariant_of-result c = no_slots names_cmp _ (length c.new-2.result.items) (ap (seen held_names) c.new.ensures.empty)
