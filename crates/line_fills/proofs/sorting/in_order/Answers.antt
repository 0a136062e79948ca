use Rattle.std.proofs.Common.{◌≡◌, ◌++◌, IsPermutation, List, ℕ, length, map, take, refl, sym, subst, ◌∙◌}
use Rattle.std.specs.List.{range_with_len}
use Rattle.std.proofs.lemmas.List.{length-map}
use Rattle.std.proofs.lemmas.List.Sorted.{IsPermutation-trans, length_permutation}
use Rattle.line_fills.specs.Rows.{SortsByRank}
use Rattle.line_fills.proofs.Parts.{places_within}
use Rattle.line_fills.proofs.Tied.{tied_never, whole}
use Rattle.line_fills.proofs.sorting.in_order.Goals as goal

pub keys_rise-requires-clause-within : goal.keys_rise-requires-clause-within
keys_rise-requires-clause-within g c = rw c.as_slice.ensures.value (places_within c.args.lines.now c.in_ok-places.places.items c.in_ok-places.ensures)

-- the places once they are sorted by the keys
sorted_again : (n count : ℕ) (before after now kept : List ℕ) → IsPermutation (range_with_len 0 n) before → IsPermutation before after → count ≡ length before → now ≡ take count (after ++ kept)
    → (now ≡ after) × IsPermutation (range_with_len 0 n) now
sorted_again n count before after now kept order sorts len is =
    let same : now ≡ after = is ∙ whole count after kept (len ∙ sym (length_permutation before after sorts)) in
    (same, subst (IsPermutation (range_with_len 0 n)) (sym same) (IsPermutation-trans _ _ _ order sorts))

pub keys_rise-requires-2-clause-within : goal.keys_rise-requires-2-clause-within
keys_rise-requires-2-clause-within g c =
    let again = sorted_again (length c.args.lines.now) c.in_ok-places.places.len c.in_ok-places.places.items c.sort_by_keys.new.places c.as_slice-2.result.now _ c.in_ok-places.ensures
    (subst (λ l. IsPermutation l c.sort_by_keys.new.places) c.as_mut_slice.ensures.value c.sort_by_keys.ensures.same) c.in_ok-places.places.ok.0 c.as_slice-2.ensures.value in
    places_within c.args.lines.now c.as_slice-2.result.now again.1

pub returns-then-keys_rise-2-clause-all : goal.returns-then-keys_rise-2-clause-all
returns-then-keys_rise-2-clause-all g c =
    let again = sorted_again (length c.args.lines.now) c.in_ok-places.places.len c.in_ok-places.places.items c.sort_by_keys.new.places c.as_slice-2.result.now _ c.in_ok-places.ensures
    (subst (λ l. IsPermutation l c.sort_by_keys.new.places) c.as_mut_slice.ensures.value c.sort_by_keys.ensures.same) c.in_ok-places.places.ok.0 c.as_slice-2.ensures.value in
    subst (IsPermutation (range_with_len 0 (length c.args.lines.now))) c.as_slice-2.ensures.value again.1

pub returns-else-keys_rise-2-clause-none : goal.returns-else-keys_rise-2-clause-none
returns-else-keys_rise-2-clause-none g c = λ _ can.
    let lines = map g.L.PageLine.columns c.args.lines.now in
    let count : length c.args.lines.now ≡ length lines = sym (length-map c.args.lines.now g.L.PageLine.columns) in
    let again = sorted_again (length c.args.lines.now) c.in_ok-places.places.len c.in_ok-places.places.items c.sort_by_keys.new.places c.as_slice-2.result.now _ c.in_ok-places.ensures
    (subst (λ l. IsPermutation l c.sort_by_keys.new.places) c.as_mut_slice.ensures.value c.sort_by_keys.ensures.same) c.in_ok-places.places.ok.0 c.as_slice-2.ensures.value in
    tied_never c.args.columns.now c.args.first lines c.as_slice-2.result.now (subst (λ n. IsPermutation (range_with_len 0 n) c.as_slice-2.result.now) count again.1)
    (subst (SortsByRank c.args.columns.now lines) (sym again.0) c.sort_by_keys.ensures.sorted) (c.if-keys_rise-2.ensures.tied refl) can
