use Rattle.std.proofs.Common.{◌≡◌, ◌++◌, [], ◌∷◌, None, length, ◌∙◌, ap, arith}
use Rattle.std.specs.BTreeMap.{insert_entry}
use Rattle.cost_rows.specs.Merging.{seen}
use Rattle.cost_rows.proofs.SeenLemmas.{seen-insert, seen-sorted}
use Rattle.cost_rows.proofs.SlotsLemmas.{are-put, put-found}
use Rattle.cost_exports.specs.Views.{PlaceNames, Slotted, held_names, held_slots, names_cmp, slot_of, sums_in}
use Rattle.cost_exports.proofs.SlotLemmas.{slot-put}
use Rattle.cost_exports.proofs.SpreadLemmas.{names-total}
use Rattle.cost_exports.proofs.places.Places.put.Goals as goal

-- the names go to their place in the order
placed : (c : goal.In_default) → held_slots c.insert.new.self.entries ≡ insert_entry names_cmp (held_slots c.self.inside.slots.entries) (held_names c.args.names.now) c.len-slot.result
placed c =
    let slots = held_slots c.self.inside.slots.entries in
    ap (seen held_names) c.in_default.ensures.entries
    ∙ seen-insert held_names names_cmp c.self.inside.slots.entries c.in_ok-names.names c.len-slot.result
    ∙ ap (λ (n : PlaceNames). insert_entry names_cmp slots n c.len-slot.result) c.in_ok-names.ensures

last : (c : goal.In_default) → c.len-slot.result ≡ length c.self.inside.lines.items
last c = omega (arith, c.len-slot.ensures, c.self.inside.lines.ok.0)

pushed : (c : goal.In_default) → c.push.new.self.items ≡ c.self.inside.lines.items ++ [] ∷ []
pushed c = c.in_ok-push.ensures.items ∙ ap (λ lines. c.self.inside.lines.items ++ lines ∷ []) c.new.ensures

absent : (c : goal.In_default) → slot_of (held_names c.args.names.now) (held_slots c.self.inside.slots.entries) ≡ None
absent c = ap (λ (s : Slotted). slot_of (held_names c.args.names.now) s.slots) c.self.view_is ∙ c.requires

pub invariant_of-self-in_default : goal.invariant_of-self-in_default
invariant_of-self-in_default c =
    are-put names_cmp (held_slots c.self.inside.slots.entries) (held_slots c.insert.new.self.entries) c.self.inside.lines.items c.push.new.self.items
    (held_names c.args.names.now) c.len-slot.result [] c.self.invariant (last c) (pushed c) (placed c)
    (seen-sorted held_names names_cmp c.insert.new.self.entries c.in_default.ensures.ordered)

pub returns-clause-slot : goal.returns-clause-slot
returns-clause-slot c =
    put-found names_cmp names-total (held_slots c.self.inside.slots.entries) (held_slots c.insert.new.self.entries) (held_names c.args.names.now) c.len-slot.result (placed c)

pub returns-clause-sums : goal.returns-clause-sums
returns-clause-sums c =
    slot-put (held_slots c.self.inside.slots.entries) (held_slots c.insert.new.self.entries) c.self.inside.lines.items c.push.new.self.items
    (held_names c.args.names.now) c.len-slot.result c.self.invariant (absent c) (last c) (pushed c) (placed c)
    ∙ ap (λ (s : Slotted). sums_in s) c.self.view_is
