use Rattle.std.proofs.Common.{◌≡◌, ℕ, ◌++◌, List, [], ◌∷◌, None, length, ◌∙◌, ap, arith}
use Rattle.std.specs.BTreeMap.{insert_entry}
use Rattle.cost_rows.specs.Content.{stacks_with}
use Rattle.cost_rows.specs.Slots.{Slotted, sums_in}
use Rattle.cost_rows.specs.StackCounts.{slot_of_stack}
use Rattle.cost_rows.specs.Stacks.{bytes_cmp, by_bytes}
use Rattle.cost_rows.proofs.SeenLemmas.{seen-insert, seen-sorted}
use Rattle.cost_rows.proofs.SlotsLemmas.{slot-put, are-put}
use Rattle.cost_rows.proofs.StackCountsLemmas.{found-kept}
use Rattle.cost_rows.proofs.StacksLemmas.{bytes_cmp-total}
use Rattle.cost_rows.proofs.stack_counts.StackCounts.put.Goals as goal

-- the stack goes to its place in the order
placed : (c : goal.In_default) → by_bytes c.insert.new.self.entries ≡ insert_entry bytes_cmp (by_bytes c.self.inside.slots.entries) c.args.frames.now c.len-slot.result
placed c =
    let slots = by_bytes c.self.inside.slots.entries in
    ap by_bytes c.in_default.ensures.entries
    ∙ seen-insert (λ key. key.items) bytes_cmp c.self.inside.slots.entries c.in_ok-frames.frames c.len-slot.result
    ∙ ap (λ (p : List ℕ). insert_entry bytes_cmp slots p c.len-slot.result) (c.in_ok-frames.ensures.items_if_clones_equal (λ x y e. e))

last : (c : goal.In_default) → c.len-slot.result ≡ length c.self.inside.counts.items
last c = omega (arith, c.len-slot.ensures, c.self.inside.counts.ok.0)

absent : (c : goal.In_default) → slot_of_stack c.args.frames.now (by_bytes c.self.inside.slots.entries) ≡ None
absent c = ap (λ (s : Slotted (List ℕ)). slot_of_stack c.args.frames.now s.slots) c.self.view_is ∙ c.requires

pushed : (c : goal.In_default) → c.push.new.self.items ≡ c.self.inside.counts.items ++ c.args.count ∷ []
pushed c = c.in_ok-push.ensures.items ∙ ap (λ n. c.self.inside.counts.items ++ n ∷ []) c.from.ensures

pub invariant_of-self-in_default : goal.invariant_of-self-in_default
invariant_of-self-in_default c = record {
  are = are-put bytes_cmp (by_bytes c.self.inside.slots.entries) (by_bytes c.insert.new.self.entries) c.self.inside.counts.items c.push.new.self.items
      c.args.frames.now c.len-slot.result c.args.count c.self.invariant.are (last c) (pushed c) (placed c)
      (seen-sorted (λ key. key.items) bytes_cmp c.insert.new.self.entries c.in_default.ensures.ordered);
  kept = found-kept (by_bytes c.self.inside.slots.entries) (by_bytes c.insert.new.self.entries) c.args.frames.now c.len-slot.result c.self.inside.found.items (absent c) (placed c) c.self.invariant.kept;
}

pub returns-clause-ok : goal.returns-clause-ok
returns-clause-ok c =
    slot-put bytes_cmp bytes_cmp-total (by_bytes c.self.inside.slots.entries) (by_bytes c.insert.new.self.entries) c.self.inside.counts.items c.push.new.self.items
    c.args.frames.now c.len-slot.result c.args.count c.self.invariant.are (absent c) (last c) (pushed c) (placed c)
    ∙ ap (λ (s : Slotted (List ℕ)). stacks_with c.args.frames.now c.args.count (sums_in s)) c.self.view_is
