-- Counts of stacks by their bytes.
use Rattle.std.proofs.Common.{◌≡◌, ℕ, cond, List, [], ◌∷◌, None, Some, refl, sym, ap, ◌∙◌}
use Rattle.std.specs.declared.cmp.Ordering.{Ordering}
use Rattle.std.specs.declared.cmp.Ordering.TheVariants.{Less, Equal, Greater}
use Rattle.std.specs.Ordering.{match_ordering, is_eq}
use Rattle.std.specs.Cmp.{IsTotalOrder}
use Rattle.std.specs.Cmp.Lexicographic.{nat_list_cmp_total}
use Rattle.std.specs.Map.{lookup, remove_entry}
use Rattle.std.proofs.lemmas.Cmp.{tied_itself}
use Rattle.std.specs.BTreeMap.{is_at, insert_entry}
use Rattle.cost_rows.specs.Merging.{merge}
use Rattle.cost_rows.specs.Stacks.{bytes_cmp, counts_added}
use Rattle.cost_rows.proofs.MergeLemmas.{merge-new}

pub bytes_cmp-total : IsTotalOrder bytes_cmp
bytes_cmp-total = nat_list_cmp_total

-- ---- a new stack that is forgotten again

remove-step : {X : Type 0} (k : List ℕ) (v : X) (e : List ℕ × X) (es : List (List ℕ × X)) (r : Ordering) → bytes_cmp k e.0 ≡ r → cond (is_eq r) (Some e.1) (lookup (is_at (bytes_cmp k)) es) ≡ None
    → (lookup (is_at (bytes_cmp k)) es ≡ None → remove_entry (is_at (bytes_cmp k)) (insert_entry bytes_cmp es k v) ≡ es)
    → remove_entry (is_at (bytes_cmp k)) (match_ordering r ((k, v) ∷ e ∷ es) ((e.0, v) ∷ es) (e ∷ insert_entry bytes_cmp es k v)) ≡ e ∷ es
remove-step k v e es Less is none rest = rw (tied_itself bytes_cmp-total k) refl
remove-step k v e es Equal is none rest = absurd (cc)
remove-step k v e es Greater is none rest = rw is (ap (λ more. e ∷ more) (rest none))

remove-new : {X : Type 0} (es : List (List ℕ × X)) (k : List ℕ) (v : X) → lookup (is_at (bytes_cmp k)) es ≡ None → remove_entry (is_at (bytes_cmp k)) (insert_entry bytes_cmp es k v) ≡ es
remove-new [] k v none = rw (tied_itself bytes_cmp-total k) refl
remove-new (e ∷ es) k v none = remove-step k v e es (bytes_cmp k e.0) refl none (remove-new es k v)

-- a stack that was counted for the first time and is forgotten leaves the counts as they were
pub forgotten : (es merged now : List (List ℕ × ℕ)) (frames : List ℕ) (count : ℕ) → lookup (is_at (bytes_cmp frames)) es ≡ None → merged ≡ merge bytes_cmp counts_added es frames count → now ≡ remove_entry (is_at (bytes_cmp frames)) merged
    → now ≡ es
forgotten es merged now frames count absent is back =
    back ∙ ap (remove_entry (is_at (bytes_cmp frames))) (is ∙ sym (merge-new bytes_cmp-total counts_added es frames count absent))
    ∙ remove-new es frames count absent
