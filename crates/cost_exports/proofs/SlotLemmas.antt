-- Lines in slots: what is done in a slot is done to the lines of its names.
use Rattle.std.proofs.Common.{◌≡◌, ℕ, ◌≤◌, cond, List, [], ◌∷◌, ◌++◌, length, Some, None, slice_index_or, slice_set, refl, sym, ap, ◌∙◌}
use Rattle.std.specs.declared.cmp.Ordering.{Ordering}
use Rattle.std.specs.declared.cmp.Ordering.TheVariants.{Less, Equal, Greater}
use Rattle.std.specs.Ordering.{match_ordering, is_eq}
use Rattle.std.specs.Map.{lookup}
use Rattle.std.specs.BTreeMap.{is_at, insert_entry}
use Rattle.cost_rows.specs.Merging.{merge}
use Rattle.cost_rows.specs.Stacks.{counts_added}
use Rattle.cost_rows.proofs.MergeLemmas.{merge-held}
use Rattle.cost_rows.proofs.SlotsLemmas.{slot-absent, slot-lookup, slot-new, slot-written, slots-rise}
use Rattle.report_texts.specs.Amounts.{amount_of}
use Rattle.report_texts.specs.Csv.{event_spot_cmp}
use Rattle.cost_exports.specs.Views.{AreSlots, LineEvent, PlaceNames, Slotted, line_cmp, lines_added, names_cmp, placed, slot_of, spot_with, spread, sums_in, with_lines}
use Rattle.cost_exports.proofs.SpreadLemmas.{names-total, spread-merge, under-least}

abbrev pub Lines : Type 0
Lines = List (LineEvent × ℕ)

-- what lines in the slot of some names cost is at most all
pub slot-least : (s : Slotted) (names : PlaceNames) (slot : ℕ) → slot_of names s.slots ≡ Some slot → amount_of (slice_index_or s.lines slot []) ≤ amount_of (sums_in s)
slot-least s names slot found =
    under-least (is_at (names_cmp names)) (with_lines s.lines s.slots) (slice_index_or s.lines slot []) (sym (slot-lookup names_cmp [] s.lines s.slots names slot found))

-- a cost that is merged into the lines of a slot is merged into the sums
pub slot-raised : (es : List (PlaceNames × ℕ)) (lines : List Lines) (names : PlaceNames) (slot : ℕ) (line : LineEvent) (cost : ℕ) → AreSlots es (length lines) → slot_of names es ≡ Some slot
    → spread (with_lines (slice_set lines slot (merge line_cmp counts_added (slice_index_or lines slot []) line cost)) es) ≡ merge event_spot_cmp counts_added (spread (with_lines lines es)) (spot_with names line) cost
slot-raised es lines names slot line cost are found =
    let sorted = slots-rise names_cmp [] lines es are.order in
    ap spread
    (slot-written names_cmp [] lines es names slot (merge line_cmp counts_added (slice_index_or lines slot []) line cost) are found
    ∙ merge-held names-total lines_added (with_lines lines es) names ((line, cost) ∷ []) (slice_index_or lines slot []) sorted (slot-lookup names_cmp [] lines es names slot found))
    ∙ spread-merge (with_lines lines es) names line cost sorted

-- new names without lines add nothing
none-step : (names : PlaceNames) (g : PlaceNames × Lines) (places : List (PlaceNames × Lines)) (r : Ordering) → cond (is_eq r) (Some g.1) (lookup (is_at (names_cmp names)) places) ≡ None
    → (lookup (is_at (names_cmp names)) places ≡ None → spread (insert_entry names_cmp places names []) ≡ spread places)
    → spread (match_ordering r ((names, []) ∷ g ∷ places) ((g.0, []) ∷ places) (g ∷ insert_entry names_cmp places names [])) ≡ spread (g ∷ places)
none-step names g places Less absent rest = refl
none-step names g places Equal absent rest = absurd (cc)
none-step names g places Greater absent rest = ap (λ more. placed g.0 g.1 ++ more) (rest absent)

spread-none : (places : List (PlaceNames × Lines)) (names : PlaceNames) → lookup (is_at (names_cmp names)) places ≡ None → spread (insert_entry names_cmp places names []) ≡ spread places
spread-none [] names absent = refl
spread-none (g ∷ places) names absent = none-step names g places (names_cmp names g.0) absent (spread-none places names)

pub slot-put : (es new : List (PlaceNames × ℕ)) (lines more : List Lines) (names : PlaceNames) (slot : ℕ) → AreSlots es (length lines) → slot_of names es ≡ None → slot ≡ length lines → more ≡ lines ++ [] ∷ [] → new ≡ insert_entry names_cmp es names slot
    → spread (with_lines more new) ≡ spread (with_lines lines es)
slot-put es new lines more names slot are absent last pushed put =
    ap spread (slot-new names_cmp [] lines more es new names slot [] are last pushed put)
    ∙ spread-none (with_lines lines es) names (slot-absent names_cmp [] lines es names absent)
