use Rattle.std.proofs.Common.{◌≡◌, length, arith}
use Rattle.selected_runs.proofs.SlotLemmas.{lead_put, sums_put}
use Rattle.selected_runs.proofs.part_sums.put.Goals as goal

last : (c : goal.In_default) → c.len-slot.result ≡ length c.args.slots.now.items
last c = omega (arith, c.len-slot.ensures, c.args.slots.now.ok.0)

pub returns-clause-lead : goal.returns-clause-lead
returns-clause-lead c =
    lead_put c.args.places.now.entries c.insert.new.self.entries c.args.slots.now.items c.push.new.self.items c.args.part.now c.len-slot.result c.args.cost
    c.requires.lead c.requires.absent (last c) c.in_ok-push.ensures.items c.in_default.ensures.entries c.in_default.ensures.ordered

pub returns-clause-ok : goal.returns-clause-ok
returns-clause-ok c =
    sums_put c.args.places.now.entries c.insert.new.self.entries c.args.slots.now.items c.push.new.self.items c.args.part.now c.len-slot.result c.args.cost
    c.requires.lead c.requires.absent (last c) c.in_ok-push.ensures.items c.in_default.ensures.entries
