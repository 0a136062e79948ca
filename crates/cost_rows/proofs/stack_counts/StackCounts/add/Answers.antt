use Rattle.std.proofs.Common.{◌≡◌, ℕ, ◌+◌, ◌<◌, List, Some, length, slice_index, slice_set, sym, ◌∙◌, ap, subst, arith, length-set}
use Rattle.std.proofs.lemmas.List.{with_items_is}
use Rattle.cost_rows.specs.Content.{stacks_with}
use Rattle.cost_rows.specs.Slots.{Slotted, sums_in, with_sums}
use Rattle.cost_rows.specs.StackCounts.{slot_of_stack}
use Rattle.cost_rows.specs.Stacks.{bytes_cmp, by_bytes}
use Rattle.cost_rows.proofs.SlotsLemmas.{slot-in_range, slot-least, slot-raised}
use Rattle.cost_rows.proofs.StacksLemmas.{bytes_cmp-total}
use Rattle.cost_rows.proofs.stack_counts.StackCounts.add.Goals as goal

pub raise-requires-clause-in_range : goal.raise-requires-clause-in_range
raise-requires-clause-in_range c =
    let frames : List ℕ = c.requires.known.0 in
    let slots = by_bytes c.self.inside.slots.entries in
    let found : slot_of_stack frames slots ≡ Some c.args.slot = ap (λ (s : Slotted (List ℕ)). slot_of_stack frames s.slots) c.self.view_is ∙ c.requires.known.1 in
    let small = slot-in_range bytes_cmp slots (length c.self.inside.counts.items) frames c.args.slot c.self.invariant.are found in
    let P : List ℕ → Type 0 = λ xs. c.args.slot < length xs in
    subst P (sym c.as_mut_slice.ensures.value) small

pub raise-requires-clause-small : goal.raise-requires-clause-small
raise-requires-clause-small c =
    let least = slot-least bytes_cmp c.args.self.now c.requires.known.0 c.args.slot c.requires.known.1 in
    let same : slice_index c.as_mut_slice.result.now c.args.slot ≡ slice_index c.args.self.now.sums c.args.slot =
    ap (λ xs. slice_index xs c.args.slot) (c.as_mut_slice.ensures.value ∙ ap (λ (s : Slotted (List ℕ)). s.sums) c.self.view_is) in
    let count = c.from.ensures in
    omega (arith, least, same, count, c.requires.small)

pub returns : goal.returns
returns c = λ frames found.
    let slot = c.args.slot in
    let slots = by_bytes c.self.inside.slots.entries in
    let counts = c.self.inside.counts.items in
    let here : slot_of_stack frames slots ≡ Some slot = ap (λ (s : Slotted (List ℕ)). slot_of_stack frames s.slots) c.self.view_is ∙ found in
    let now : c.raise.new.counts ≡ slice_set counts slot (slice_index counts slot + c.args.count) =
    c.raise.ensures ∙ ap (λ (xs : List ℕ). slice_set xs slot (slice_index xs slot + c.from.result)) c.as_mut_slice.ensures.value ∙ ap (λ n. slice_set counts slot (slice_index counts slot + n)) c.from.ensures in
    let size : length c.raise.new.counts ≡ length counts = ap length now ∙ length-set counts slot (slice_index counts slot + c.args.count) in
    let kept = with_items_is c.self.inside.counts c.raise.new.counts (omega (arith, size, c.self.inside.counts.ok.0)) in
    ap (λ (xs : List ℕ). with_sums xs slots) (kept ∙ now)
    ∙ slot-raised bytes_cmp bytes_cmp-total slots counts frames slot c.args.count c.self.invariant.are here
    ∙ ap (λ (s : Slotted (List ℕ)). stacks_with frames c.args.count (sums_in s)) c.self.view_is
