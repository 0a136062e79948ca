use Rattle.std.proofs.Common.{sym}
use Rattle.selected_runs.proofs.SlotLemmas.{found_slot}
use Rattle.selected_runs.proofs.part_sums.find.Goals as goal

pub returns-then-is_slot_of : goal.returns-then-is_slot_of
returns-then-is_slot_of c = sym (found_slot c.args.places.now.entries c.args.slots.now c.args.here c.args.part.now c.requires (c.is_slot_of.ensures c.if-is_slot_of.true))

pub returns-then-is_slot_of-2 : goal.returns-then-is_slot_of-2
returns-then-is_slot_of-2 c = sym (found_slot c.args.places.now.entries c.args.slots.now _ c.args.part.now c.requires (c.is_slot_of-2.ensures c.if-is_slot_of-2.true))
