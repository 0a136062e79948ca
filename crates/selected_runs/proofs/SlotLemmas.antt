-- Sums in slots: a part leads to its slot, and what is done there is done to its sum.
use Rattle.std.proofs.Common.{◌≡◌, ℕ, zero, suc, ◌+◌, ◌<◌, ◌≤◌, List, [], ◌∷◌, ◌++◌, length, get_or, Some, None, cond, slice_index, slice_set, refl, sym, ap, subst, ◌∙◌, arith, IsPermutation}
use Rattle.std.specs.declared.cmp.Ordering.{Ordering}
use Rattle.std.specs.declared.cmp.Ordering.TheVariants.{Less, Equal, Greater}
use Rattle.std.specs.BTreeMap.{is_at, insert_entry}
use Rattle.std.specs.List.Sorted.{IsStrictlySortedBy}
use Rattle.std.specs.Map.{lookup, keys_of}
use Rattle.std.specs.Ordering.{match_ordering, is_eq}
use Rattle.std.proofs.lemmas.Cmp.{eq_by_cmp_equiv}
use Rattle.std.proofs.lemmas.List.{append_assoc, get_or-map, get_or_push, get_or_append_left, length-map, length_push, map-append, map-set}
use Rattle.std.proofs.lemmas.List.Sorted.{Contains-permutation, IsPermutation-cons, IsPermutation-map, IsPermutation-middle, IsPermutation-refl, IsPermutation-to_front, IsPermutation-trans}
use Rattle.std.proofs.lemmas.Map.Entries.{lookup_from_place}
use Rattle.std.proofs.lemmas.Map.Keys.{IsDistinct-from_sorted}
use Rattle.std.proofs.lemmas.Option.{slice_get-get_or}
use Rattle.cost_rows.specs.Slots.{with_sums, AreSlotsBy}
use Rattle.cost_rows.proofs.SlotsLemmas.{are-put, slot-in_range, slot-least, slot-put, slot-raised}
use Rattle.selected_runs.specs.Ranked.{sums_of}
use Rattle.selected_runs.specs.Slots.{costs_of, numbered, parts_of, sums_at, IsSlotOf, LeadToParts}
use Rattle.selected_runs.specs.Sums.{numbers_cmp, numbers_total, numbers_with}
use Rattle.selected_runs.specs.declared.parts.NumberPart.{NumberPart}
use Rattle.selected_runs.specs.declared.parts.PartSum.{PartSum}
use Rattle.selected_runs.proofs.NumberLemmas.{numbers_cmp_total}

-- ---- parts with the numbers of their slots

length-numbered : (from : ℕ) (parts : List NumberPart) → length (numbered from parts) ≡ length parts
length-numbered from [] = refl
length-numbered from (p ∷ parts) = ap suc (length-numbered (from + 1) parts)

numbered_at : (from : ℕ) (parts : List NumberPart) (i : ℕ) (e : NumberPart × ℕ) (d : NumberPart) → i < length parts → get_or (numbered from parts) i e ≡ (get_or parts i d, from + i)
numbered_at from [] i e d within = absurd (omega (arith, within))
numbered_at from (p ∷ parts) zero e d within = let here : from ≡ from + 0 = omega arith in ap (λ n. (p, n)) here
numbered_at from (p ∷ parts) (suc i) e d within =
    let there : (from + 1) + i ≡ from + suc i = omega arith in
    numbered_at (from + 1) parts i e d (omega (arith, within)) ∙ ap (λ n. (get_or parts i d, n)) there

numbered_push : (from : ℕ) (parts : List NumberPart) (part : NumberPart) → numbered from (parts ++ part ∷ []) ≡ numbered from parts ++ (part, from + length parts) ∷ []
numbered_push from [] part = let here : from ≡ from + 0 = omega arith in ap (λ n. (part, n) ∷ []) here
numbered_push from (p ∷ parts) part =
    let there : (from + 1) + length parts ≡ from + suc (length parts) = omega arith in
    ap (λ rest. (p, from) ∷ rest) (numbered_push (from + 1) parts part ∙ ap (λ n. numbered (from + 1) parts ++ (part, n) ∷ []) there)

-- ---- a part and its slot

-- the part in a slot leads to it
found : (places : List (NumberPart × ℕ)) (parts : List NumberPart) (slot : ℕ) (part : NumberPart) → LeadToParts places parts → slot < length parts → get_or parts slot part ≡ part
    → lookup (is_at (numbers_cmp part)) places ≡ Some slot
found places parts slot part lead within is =
    let e : NumberPart × ℕ = (part, slot) in
    let zero_on : 0 + slot ≡ slot = omega arith in
    let here : get_or (numbered 0 parts) slot e ≡ e = numbered_at 0 parts slot e part within ∙ ap (λ p. (p, 0 + slot)) is ∙ ap (λ n. (part, n)) zero_on in
    let size = length-numbered 0 parts in
    let there = Contains-permutation (numbered 0 parts) places e lead.same (slot, omega (arith, size, within), here) in
    lookup_from_place (eq_by_cmp_equiv numbers_cmp_total) places there.0 part slot (IsDistinct-from_sorted numbers_cmp (keys_of places) lead.are.order)
    (slice_get-get_or places there.0 e there.1 ∙ ap Some there.2)

pub found_slot : (places : List (NumberPart × ℕ)) (slots : List PartSum) (slot : ℕ) (part : NumberPart) → LeadToParts places (parts_of slots) → IsSlotOf slots slot part
    → lookup (is_at (numbers_cmp part)) places ≡ Some slot
found_slot places slots slot part lead is =
    let none : PartSum = record { cost = record { 0 = 0 }; part = part } in
    let size = length-map slots (λ (s : PartSum). s.part) in
    found places (parts_of slots) slot part lead (omega (arith, size, is.0)) (get_or-map (λ (s : PartSum). s.part) slots slot none part is.0 ∙ is.1 none)

-- ---- a new slot

inserted-step : (key : NumberPart) (n : ℕ) (e : NumberPart × ℕ) (es : List (NumberPart × ℕ)) (r : Ordering) → cond (is_eq r) (Some e.1) (lookup (is_at (numbers_cmp key)) es) ≡ None
    → (lookup (is_at (numbers_cmp key)) es ≡ None → IsPermutation ((key, n) ∷ es) (insert_entry numbers_cmp es key n))
    → IsPermutation ((key, n) ∷ e ∷ es) (match_ordering r ((key, n) ∷ e ∷ es) ((e.0, n) ∷ es) (e ∷ insert_entry numbers_cmp es key n))
inserted-step key n e es Less absent rest = IsPermutation-refl ((key, n) ∷ e ∷ es)
inserted-step key n e es Equal absent rest = absurd cc
inserted-step key n e es Greater absent rest =
    IsPermutation-trans ((key, n) ∷ e ∷ es) (e ∷ (key, n) ∷ es) (e ∷ insert_entry numbers_cmp es key n)
    (IsPermutation-middle ((key, n) ∷ []) e es) (IsPermutation-cons e ((key, n) ∷ es) (insert_entry numbers_cmp es key n) (rest absent))

-- a part that is not there is one more
inserted : (key : NumberPart) (n : ℕ) (es : List (NumberPart × ℕ)) → lookup (is_at (numbers_cmp key)) es ≡ None → IsPermutation ((key, n) ∷ es) (insert_entry numbers_cmp es key n)
inserted key n [] absent = IsPermutation-refl ((key, n) ∷ [])
inserted key n (e ∷ es) absent = inserted-step key n e es (numbers_cmp key e.0) absent (inserted key n es)

module _ (places new : List (NumberPart × ℕ)) (slots more : List PartSum) (part : NumberPart) (slot cost : ℕ) (lead : LeadToParts places (parts_of slots))
    (absent : lookup (is_at (numbers_cmp part)) places ≡ None) (last : slot ≡ length slots) (pushed : more ≡ slots ++ (record { cost = record { 0 = cost }; part = part }) ∷ [])
    (put : new ≡ insert_entry numbers_cmp places part slot) where
  costs_pushed : costs_of more ≡ costs_of slots ++ cost ∷ []
  costs_pushed = ap costs_of pushed ∙ map-append (λ (s : PartSum). s.cost.0) slots ((record { cost = record { 0 = cost }; part = part }) ∷ [])

  parts_pushed : parts_of more ≡ parts_of slots ++ part ∷ []
  parts_pushed = ap parts_of pushed ∙ map-append (λ (s : PartSum). s.part) slots ((record { cost = record { 0 = cost }; part = part }) ∷ [])

  many_costs : length (parts_of slots) ≡ length (costs_of slots)
  many_costs = length-map slots (λ (s : PartSum). s.part) ∙ sym (length-map slots (λ (s : PartSum). s.cost.0))

  are_costs : AreSlotsBy numbers_cmp places (length (costs_of slots))
  are_costs = subst (AreSlotsBy numbers_cmp places) many_costs lead.are

  last_cost : slot ≡ length (costs_of slots)
  last_cost = last ∙ sym (length-map slots (λ (s : PartSum). s.cost.0))

  many_more : length (costs_of more) ≡ length (parts_of more)
  many_more = length-map more (λ (s : PartSum). s.cost.0) ∙ sym (length-map more (λ (s : PartSum). s.part))

  pub lead_put : IsStrictlySortedBy numbers_cmp (keys_of new) → LeadToParts new (parts_of more)
  lead_put order =
      let are = are-put numbers_cmp places new (costs_of slots) (costs_of more) part slot cost are_costs last_cost costs_pushed put order in
      let zero_on : 0 + length (parts_of slots) ≡ slot = omega (arith, last, length-map slots (λ (s : PartSum). s.part)) in
      let before = numbered 0 (parts_of slots) in
      let now : numbered 0 (parts_of more) ≡ before ++ (part, slot) ∷ [] =
      ap (numbered 0) parts_pushed ∙ numbered_push 0 (parts_of slots) part ∙ ap (λ n. before ++ (part, n) ∷ []) zero_on in
      let moved = IsPermutation-trans (before ++ (part, slot) ∷ []) ((part, slot) ∷ before) (insert_entry numbers_cmp places part slot) (IsPermutation-to_front before (part, slot))
      (IsPermutation-trans ((part, slot) ∷ before) ((part, slot) ∷ places) (insert_entry numbers_cmp places part slot)
      (IsPermutation-cons (part, slot) before places lead.same) (inserted part slot places absent)) in
      let P : List (NumberPart × ℕ) → Type 0 = λ xs. IsPermutation xs (insert_entry numbers_cmp places part slot) in
      let Q : List (NumberPart × ℕ) → Type 0 = λ es. IsPermutation (numbered 0 (parts_of more)) es in
      record { are = subst (AreSlotsBy numbers_cmp new) many_more are; same = subst Q (sym put) (subst P (sym now) moved) }

  pub sums_put : sums_at new more ≡ numbers_with part cost (sums_at places slots)
  sums_put = slot-put numbers_cmp numbers_cmp_total places new (costs_of slots) (costs_of more) part slot cost are_costs absent last_cost costs_pushed put

-- ---- a sum that grows

-- a write of the cost leaves the parts
pub parts_left : (slots : List PartSum) (slot : ℕ) (sum d : PartSum) → sum.part ≡ (get_or slots slot d).part → parts_of (slice_set slots slot sum) ≡ parts_of slots
parts_left [] slot sum d is = refl
parts_left (s ∷ slots) zero sum d is = ap (λ p. p ∷ parts_of slots) is
parts_left (s ∷ slots) (suc slot) sum d is = ap (λ parts. s.part ∷ parts) (parts_left slots slot sum d is)

-- and is one of the costs
pub costs_written : (slots : List PartSum) (slot cost : ℕ) (d : PartSum) → slot < length slots
    → costs_of (slice_set slots slot (record { cost = record { 0 = (get_or slots slot d).cost.0 + cost }; part = (get_or slots slot d).part }))
    ≡ slice_set (costs_of slots) slot (slice_index (costs_of slots) slot + cost)
costs_written slots slot cost d within =
    map-set (λ (s : PartSum). s.cost.0) slots slot (record { cost = record { 0 = (get_or slots slot d).cost.0 + cost }; part = (get_or slots slot d).part })
    ∙ ap (λ n. slice_set (costs_of slots) slot (n + cost)) (sym (get_or-map (λ (s : PartSum). s.cost.0) slots slot d 0 within))

module _ (places : List (NumberPart × ℕ)) (slots : List PartSum) (part : NumberPart) (slot : ℕ) (lead : LeadToParts places (parts_of slots))
    (held : lookup (is_at (numbers_cmp part)) places ≡ Some slot) where
  pub slot_within : slot < length slots
  slot_within =
      let size = length-map slots (λ (s : PartSum). s.part) in
      let below = slot-in_range numbers_cmp places (length (parts_of slots)) part slot lead.are held in
      omega (arith, size, below)

  pub sum_within : slice_index (costs_of slots) slot ≤ numbers_total (sums_at places slots)
  sum_within = slot-least numbers_cmp (record { slots = places; sums = costs_of slots }) part slot held

  pub sums_raised : (new : List PartSum) (cost : ℕ) → costs_of new ≡ slice_set (costs_of slots) slot (slice_index (costs_of slots) slot + cost)
      → sums_at places new ≡ numbers_with part cost (sums_at places slots)
  sums_raised new cost raised =
      let many : length (parts_of slots) ≡ length (costs_of slots) = length-map slots (λ (s : PartSum). s.part) ∙ sym (length-map slots (λ (s : PartSum). s.cost.0)) in
      ap (λ costs. with_sums costs places) raised
      ∙ slot-raised numbers_cmp numbers_cmp_total places (costs_of slots) part slot cost (subst (AreSlotsBy numbers_cmp places) many lead.are) held

-- ---- the sums in the order of the slots

abbrev summed : List ℕ → NumberPart × ℕ → NumberPart × ℕ
summed costs e = (e.0, slice_index costs e.1)

slots_summed : (before : List ℕ) (slots : List PartSum) (from : ℕ) → length before ≡ from → with_sums (before ++ costs_of slots) (numbered from (parts_of slots)) ≡ sums_of slots
slots_summed before [] from is = refl
slots_summed before (s ∷ slots) from is =
    let here : slice_index (before ++ s.cost.0 ∷ costs_of slots) from ≡ s.cost.0 =
    ap (λ xs. slice_index xs from) (sym (append_assoc before (s.cost.0 ∷ []) (costs_of slots)))
    ∙ get_or_append_left (before ++ s.cost.0 ∷ []) (costs_of slots) 0 from (omega (arith, length_push before s.cost.0, is))
    ∙ get_or_push before s.cost.0 0 from is in
    let rest : with_sums (before ++ s.cost.0 ∷ costs_of slots) (numbered (from + 1) (parts_of slots)) ≡ sums_of slots =
    ap (λ xs. with_sums xs (numbered (from + 1) (parts_of slots))) (sym (append_assoc before (s.cost.0 ∷ []) (costs_of slots)))
    ∙ slots_summed (before ++ s.cost.0 ∷ []) slots (from + 1) (length_push before s.cost.0 ∙ ap (λ n. n + 1) is) in
    ap (λ n. (s.part, n) ∷ with_sums (before ++ s.cost.0 ∷ costs_of slots) (numbered (from + 1) (parts_of slots))) here
    ∙ ap (λ more. (s.part, s.cost.0) ∷ more) rest

pub slots_moved : (places : List (NumberPart × ℕ)) (slots : List PartSum) → LeadToParts places (parts_of slots) → IsPermutation (sums_of slots) (sums_at places slots)
slots_moved places slots lead =
    subst (λ (xs : List (NumberPart × ℕ)). IsPermutation xs (sums_at places slots)) (slots_summed [] slots 0 refl)
    (IsPermutation-map (summed (costs_of slots)) (numbered 0 (parts_of slots)) places lead.same)
