use Rattle.std.proofs.Common.{◌≡◌, ℕ, ◌<◌, List, Some, length, slice_index_or, slice_set, [], sym, ◌∙◌, ap, subst, arith, length-set}
use Rattle.std.proofs.lemmas.List.{with_items_is}
use Rattle.std.proofs.lemmas.Result.{on_err_weaker, on_ok_weaker}
use Rattle.cost_rows.specs.Merging.{merge}
use Rattle.cost_rows.specs.Stacks.{counts_added}
use Rattle.cost_rows.proofs.SlotsLemmas.{slot-in_range}
use Rattle.report_texts.specs.Amounts.{amount_of}
use Rattle.report_texts.specs.Csv.{event_spot_cmp}
use Rattle.cost_exports.specs.Views.{LineEvent, PlaceNames, Slotted, held_line, held_slots, line_cmp, names_cmp, slot_of, spot_with, spread, sums_in, with_lines}
use Rattle.cost_exports.proofs.SlotLemmas.{slot-least, slot-raised}
use Rattle.cost_exports.proofs.places.Places.add.Goals as goal

abbrev Lines : Type 0
Lines = List (LineEvent × ℕ)

pub add_in-requires-clause-in_range : goal.add_in-requires-clause-in_range
add_in-requires-clause-in_range c =
    let names : PlaceNames = c.requires.known.0 in
    let slots = held_slots c.self.inside.slots.entries in
    let found : slot_of names slots ≡ Some c.args.slot = ap (λ (s : Slotted). slot_of names s.slots) c.self.view_is ∙ c.requires.known.1 in
    let small = slot-in_range names_cmp slots (length c.self.inside.lines.items) names c.args.slot c.self.invariant found in
    let P : List Lines → Type 0 = λ xs. c.args.slot < length xs in
    subst P (sym c.as_mut_slice.ensures.value) small

pub add_in-requires-clause-small : goal.add_in-requires-clause-small
add_in-requires-clause-small c =
    let least = slot-least c.args.self.now c.requires.known.0 c.args.slot c.requires.known.1 in
    let same = ap (λ (xs : List Lines). amount_of (slice_index_or xs c.args.slot [])) (c.as_mut_slice.ensures.value ∙ ap (λ (s : Slotted). s.lines) c.self.view_is) in
    omega (arith, least, same, c.requires.small)

pub returns-clause-ok : goal.returns-clause-ok
returns-clause-ok c = λ names found.
    on_ok_weaker c.add_in.result
    (λ written.
    let slot = c.args.slot in
    let line = held_line c.args.line.now in
    let slots = held_slots c.self.inside.slots.entries in
    let lines = c.self.inside.lines.items in
    let raised : List Lines → List Lines = λ xs. slice_set xs slot (merge line_cmp counts_added (slice_index_or xs slot []) line c.args.cost) in
    let here : slot_of names slots ≡ Some slot = ap (λ (s : Slotted). slot_of names s.slots) c.self.view_is ∙ found in
    let now : c.add_in.new.lines ≡ raised lines = written ∙ ap raised c.as_mut_slice.ensures.value in
    let size : length c.add_in.new.lines ≡ length lines = ap length now ∙ length-set lines slot (merge line_cmp counts_added (slice_index_or lines slot []) line c.args.cost) in
    let kept = with_items_is c.self.inside.lines c.add_in.new.lines (omega (arith, size, c.self.inside.lines.ok.0)) in
    ap (λ (xs : List Lines). spread (with_lines xs slots)) (kept ∙ now)
    ∙ slot-raised slots lines names slot line c.args.cost c.self.invariant here
    ∙ ap (λ (s : Slotted). merge event_spot_cmp counts_added (sums_in s) (spot_with names line) c.args.cost) c.self.view_is)
    c.add_in.ensures.ok

pub returns-clause-err : goal.returns-clause-err
returns-clause-err c =
    on_err_weaker c.add_in.result
    (λ same.
    let now = same ∙ c.as_mut_slice.ensures.value in
    let size = ap length now in
    let kept = with_items_is c.self.inside.lines c.add_in.new.lines (omega (arith, size, c.self.inside.lines.ok.0)) in
    ap (λ (xs : List Lines). spread (with_lines xs (held_slots c.self.inside.slots.entries))) (kept ∙ now) ∙ ap (λ (s : Slotted). sums_in s) c.self.view_is)
    c.add_in.ensures.err
