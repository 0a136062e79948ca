use Rattle.std.proofs.Common.{◌≡◌, ℕ, List, length, slice_index, ◌∙◌, ap}
use Rattle.std.specs.Map.{remove_entry}
use Rattle.std.specs.BTreeMap.{is_at}
use Rattle.cost_rows.specs.Slots.{Slotted, sums_in, with_sums}
use Rattle.cost_rows.specs.Stacks.{bytes_cmp, by_bytes}
use Rattle.cost_rows.proofs.SeenLemmas.{seen-remove, seen-sorted}
use Rattle.cost_rows.proofs.OwnLemmas.{remove-valued}
use Rattle.cost_rows.proofs.SlotsLemmas.{are-removed}
use Rattle.cost_rows.proofs.StackCountsLemmas.{none_found}
use Rattle.cost_rows.proofs.stack_counts.StackCounts.forget.Goals as goal
use Rattle.cost_rows.proofs.stack_counts.StackCounts.forget.Goals.{After-remove}

gone : (c : After-remove) → by_bytes c.remove.new.self.entries ≡ remove_entry (is_at (bytes_cmp c.args.frames.now)) (by_bytes c.self.inside.slots.entries)
gone c = ap by_bytes c.remove.ensures.entries ∙ seen-remove (λ key. key.items) bytes_cmp c.self.inside.slots.entries c.args.frames.now

pub invariant_of-self : goal.invariant_of-self
invariant_of-self c = record {
  are = are-removed bytes_cmp (by_bytes c.self.inside.slots.entries) (by_bytes c.remove.new.self.entries) (length c.self.inside.counts.items) (is_at (bytes_cmp c.args.frames.now)) c.self.invariant.are (gone c)
      (seen-sorted (λ key. key.items) bytes_cmp c.remove.new.self.entries c.remove.ensures.ordered);
  kept = none_found _ c.clear.new.self.items c.clear.ensures.items;
}

pub returns : goal.returns
returns c =
    ap (with_sums c.self.inside.counts.items) (gone c) ∙ remove-valued (λ n. slice_index c.self.inside.counts.items n) (is_at (bytes_cmp c.args.frames.now)) (by_bytes c.self.inside.slots.entries)
    ∙ ap (λ (s : Slotted (List ℕ)). remove_entry (is_at (bytes_cmp c.args.frames.now)) (sums_in s)) c.self.view_is
