use Rattle.std.proofs.Common.{refl}
use Rattle.selected_runs.proofs.SlotLemmas.{costs_written, parts_left}
use Rattle.selected_runs.proofs.part_sums.raise.Goals as goal

pub returns-clause-parts : goal.returns-clause-parts
returns-clause-parts c = parts_left c.args.slots.now c.args.slot _ _ refl

pub returns-clause-costs : goal.returns-clause-costs
returns-clause-costs c = costs_written c.args.slots.now c.args.slot c.args.cost _ c.requires.in_range
