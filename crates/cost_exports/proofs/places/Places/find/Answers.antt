use Rattle.std.proofs.Common.{◌∙◌, ap}
use Rattle.cost_rows.proofs.SeenLemmas.{seen-lookup}
use Rattle.cost_exports.specs.Views.{Slotted, held_names, names_cmp, slot_of}
use Rattle.cost_exports.proofs.places.Places.find.Goals as goal

pub returns : goal.returns
returns c =
    c.copied.ensures ∙ c.get.ensures.value ∙ seen-lookup held_names names_cmp c.self.inside.slots.entries (held_names c.args.names.now)
    ∙ ap (λ (s : Slotted). slot_of (held_names c.args.names.now) s.slots) c.self.view_is
