-- Stacks in slots, and those of them that are kept beside the slots.
use Rattle.std.proofs.Common.{◌≡◌, ℕ, List, [], Option, Some, None, sym, ap, subst, ◌∙◌}
use Rattle.std.specs.Map.{remove_entry}
use Rattle.std.specs.BTreeMap.{is_at, insert_entry}
use Rattle.std.proofs.lemmas.List.Elements.{All-nil, All-weaker}
use Rattle.std.proofs.lemmas.Map.Lookups.{exact_bytes}
use Rattle.cost_rows.specs.Content.{stacks_with}
use Rattle.cost_rows.specs.Slots.{Slotted, sums_in}
use Rattle.cost_rows.specs.Stacks.{bytes_cmp}
use Rattle.cost_rows.specs.StackCounts.{slot_of_stack, IsFound, AreFound}
use Rattle.cost_rows.specs.declared.stack_counts.FoundStack.{FoundStack}
use Rattle.cost_rows.proofs.StacksLemmas.{bytes_cmp-total, forgotten}
use Rattle.cost_rows.proofs.SlotsLemmas.{put-keeps, slot-absent}

pub none_found : (slots : List (List ℕ × ℕ)) (found : List (Option FoundStack)) → found ≡ [] → AreFound slots found
none_found slots found none = subst (AreFound slots) (sym none) (All-nil (IsFound slots))

-- what is kept is still right when a stack is counted for the first time
kept-one : (es new : List (List ℕ × ℕ)) (frames : List ℕ) (slot : ℕ) → slot_of_stack frames es ≡ None → new ≡ insert_entry bytes_cmp es frames slot → (kept : Option FoundStack) → IsFound es kept → IsFound new kept
kept-one es new frames slot absent put None is = is
kept-one es new frames slot absent put (Some f) is = put-keeps bytes_cmp bytes_cmp-total exact_bytes es new frames slot absent put f.frames.items f.slot is

pub found-kept : (es new : List (List ℕ × ℕ)) (frames : List ℕ) (slot : ℕ) (found : List (Option FoundStack)) → slot_of_stack frames es ≡ None → new ≡ insert_entry bytes_cmp es frames slot → AreFound es found → AreFound new found
found-kept es new frames slot found absent put are =
    All-weaker (IsFound es) (IsFound new) (λ kept is. kept-one es new frames slot absent put kept is) found are

-- a stack that was counted for the first time and is forgotten leaves the counts as they were
pub forgotten_again : (old found put now : Slotted (List ℕ)) (frames : List ℕ) (count : ℕ) (known : Option ℕ) → known ≡ slot_of_stack frames old.slots → known ≡ None → found ≡ old
    → sums_in put ≡ stacks_with frames count (sums_in found) → sums_in now ≡ remove_entry (is_at (bytes_cmp frames)) (sums_in put) → sums_in now ≡ sums_in old
forgotten_again old found put now frames count known is none same counted gone =
    let absent : slot_of_stack frames old.slots ≡ None = sym is ∙ none in
    forgotten (sums_in old) (sums_in put) (sums_in now) frames count (slot-absent bytes_cmp 0 old.sums old.slots frames absent)
    (counted ∙ ap (λ (s : Slotted (List ℕ)). stacks_with frames count (sums_in s)) same) gone
