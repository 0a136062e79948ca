use Rattle.std.proofs.Common.{ℕ, List, subst, IsPermutation}
use Rattle.selected_runs.specs.Ranked.{sums_of}
use Rattle.selected_runs.specs.declared.parts.NumberPart.{NumberPart}
use Rattle.selected_runs.proofs.SlotLemmas.{slots_moved}
use Rattle.selected_runs.proofs.part_sums.PartSums.into_slots.Goals as goal

pub returns : goal.returns
returns c =
    let P : List (NumberPart × ℕ) → Type 0 = λ sums. IsPermutation (sums_of c.self.inside.slots.items) sums in
    subst P c.self.view_is (slots_moved c.self.inside.places.entries c.self.inside.slots.items c.self.invariant)
