use Rattle.std.proofs.Common.{ℕ, List, ◌∙◌, ap}
use Rattle.cost_rows.specs.Slots.{Slotted}
use Rattle.cost_rows.specs.StackCounts.{slot_of_stack}
use Rattle.cost_rows.specs.Stacks.{bytes_cmp}
use Rattle.cost_rows.proofs.SeenLemmas.{seen-lookup}
use Rattle.cost_rows.proofs.stack_counts.StackCounts.search.Goals as goal

pub returns : goal.returns
returns c =
    c.copied.ensures ∙ c.get.ensures.value ∙ seen-lookup (λ key. key.items) bytes_cmp c.self.inside.slots.entries c.args.frames.now
    ∙ ap (λ (s : Slotted (List ℕ)). slot_of_stack c.args.frames.now s.slots) c.self.view_is
