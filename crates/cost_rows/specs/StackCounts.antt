-- Stacks in slots, and those of them that are kept beside the slots.
use Rattle.std.specs.Prelude.{◌≡◌, ℕ, Option, Some, IfSome, List, All}
use Rattle.std.specs.BTreeMap.{is_at}
use Rattle.std.specs.Map.{lookup}
use Rattle.cost_rows.specs.Slots.{AreSlotsBy}
use Rattle.cost_rows.specs.Stacks.{bytes_cmp}
use Rattle.cost_rows.specs.declared.stack_counts.FoundStack.{FoundStack}

-- the slot of a stack, if it has one
abbrev pub slot_of_stack : List ℕ → List (List ℕ × ℕ) → Option ℕ
slot_of_stack frames slots = lookup (is_at (bytes_cmp frames)) slots

-- a stack that is kept has the slot that is kept with it
abbrev pub IsFound : List (List ℕ × ℕ) → Option FoundStack → Type 0
IsFound slots kept = IfSome kept (λ f. slot_of_stack f.frames.items slots ≡ Some f.slot)

abbrev pub AreFound : List (List ℕ × ℕ) → List (Option FoundStack) → Type 0
AreFound slots found = All (IsFound slots) found

-- the stacks stand in order, each with a slot of its own, there are so many slots, and what is kept of them is right
pub record AreCounted (slots : List (List ℕ × ℕ)) (count : ℕ) (found : List (Option FoundStack)) : Type 0 where
  pub are : AreSlotsBy bytes_cmp slots count
  pub kept : AreFound slots found
