use Rattle.std.proofs.Common.{◌≡◌, ℕ, ◌+◌, ◌<◌, List, length, slice_index, slice_set, sym, ◌∙◌, ap, subst, arith}
use Rattle.std.proofs.lemmas.List.{length-map, with_items_is}
use Rattle.selected_runs.specs.Slots.{costs_of, sums_at}
use Rattle.selected_runs.specs.Sums.{numbers_total, numbers_with}
use Rattle.selected_runs.specs.declared.parts.NumberPart.{NumberPart}
use Rattle.selected_runs.specs.declared.parts.PartSum.{PartSum}
use Rattle.selected_runs.proofs.SlotLemmas.{slot_within, sum_within, sums_raised}
use Rattle.selected_runs.proofs.part_sums.PartSums.add.Goals as goal

pub raise-requires-clause-in_range : goal.raise-requires-clause-in_range
raise-requires-clause-in_range c =
    let within = slot_within c.self.inside.places.entries c.self.inside.slots.items c.args.part.now c.in-Some.slot c.self.invariant (sym c.in-Some.ensures) in
    let P : List PartSum → Type 0 = λ slots. c.in-Some.slot < length slots in
    subst P (sym c.as_mut_slice.ensures.value) within

pub raise-requires-clause-small : goal.raise-requires-clause-small
raise-requires-clause-small c =
    let least = sum_within c.self.inside.places.entries c.self.inside.slots.items c.args.part.now c.in-Some.slot c.self.invariant (sym c.in-Some.ensures) in
    let same = ap (λ (slots : List PartSum). slice_index (costs_of slots) c.in-Some.slot) c.as_mut_slice.ensures.value in
    let all = ap (λ (sums : List (NumberPart × ℕ)). numbers_total sums) c.self.view_is in
    omega (arith, least, same, all, c.requires.small)

pub returns-in-Some-clause-ok : goal.returns-in-Some-clause-ok
returns-in-Some-clause-ok c =
    let places = c.self.inside.places.entries in
    let slots : List PartSum = c.self.inside.slots.items in
    let new : List PartSum = c.raise.new.slots in
    let slot : ℕ = c.in-Some.slot in
    let now : costs_of new ≡ slice_set (costs_of slots) slot (slice_index (costs_of slots) slot + c.args.cost) =
    c.raise.ensures.costs ∙ ap (λ (xs : List PartSum). slice_set (costs_of xs) slot (slice_index (costs_of xs) slot + c.args.cost)) c.as_mut_slice.ensures.value in
    let parts = ap length c.raise.ensures.parts in
    let lent = ap (λ (xs : List PartSum). length xs) c.as_mut_slice.ensures.value in
    let size : length new ≡ length slots = omega (arith, parts, lent, length-map new (λ (s : PartSum). s.part), length-map c.as_mut_slice.result.now (λ (s : PartSum). s.part)) in
    let kept = with_items_is c.self.inside.slots new (omega (arith, size, c.self.inside.slots.ok.0)) in
    ap (λ (xs : List PartSum). sums_at places xs) kept
    ∙ sums_raised places slots c.args.part.now slot c.self.invariant (sym c.in-Some.ensures) new c.args.cost now
    ∙ ap (λ (sums : List (NumberPart × ℕ)). numbers_with c.args.part.now c.args.cost sums) c.self.view_is
