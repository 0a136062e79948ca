-- Sums in slots: what is done in a slot is done to the sum of its key.
use Rattle.std.proofs.Common.{inl, inr, ◌≡◌, ◌≢◌, ℕ, ◌+◌, ◌<◌, ◌≤◌, Bool, cond, List, [], ◌∷◌, ◌++◌, length, Some, None, option_map, slice_index, slice_index_or, slice_set, sym, ap, subst, ◌∙◌, arith}
use Rattle.std.specs.declared.cmp.Ordering.{Ordering}
use Rattle.std.specs.Cmp.{IsTotalOrder, Equal-is}
use Rattle.std.specs.Ordering.{is_eq}
use Rattle.std.specs.List.Sorted.{IsStrictlySortedBy}
use Rattle.std.specs.Map.{lookup, keys_of, set_value, remove_entry}
use Rattle.std.specs.BTreeMap.{is_at, insert_entry}
use Rattle.std.proofs.lemmas.Bool.{cases_Bool}
use Rattle.std.proofs.lemmas.Cmp.{alike_right, tied_itself}
use Rattle.std.proofs.lemmas.List.{get_or-set_same, get_or-set_other, get_or_append_left, get_or_push, length_push}
use Rattle.std.proofs.lemmas.List.Elements.{All-nil}
use Rattle.std.proofs.lemmas.Map.Made.{lookup-map_values}
use Rattle.cost_rows.specs.Merging.{merge, sum_of_all, TellsApart}
use Rattle.cost_rows.specs.Own.{valued}
use Rattle.cost_rows.specs.Slots.{Slotted, with_sums, sums_in, AreSlotsBy, Differ}
use Rattle.cost_rows.specs.Stacks.{counts_added}
use Rattle.cost_rows.proofs.MergeLemmas.{merge-new, merge-held}
use Rattle.cost_rows.proofs.NumberedLemmas.{lookup-insert_entry}
use Rattle.cost_rows.proofs.OwnLemmas.{of_found, sorted-valued, insert-valued, valued-same, own-written, own-put, own-removed}
use Rattle.cost_rows.proofs.SeenLemmas.{held-least}

-- ---- slots of keys

differ-back : (m n : ℕ) → m ≢ n → n ≢ m
differ-back m n other is = other (sym is)

module _ {K : Type 0} (cmp : K → K → Ordering) where
  unsorted : IsStrictlySortedBy cmp []
  unfolding IsStrictlySortedBy
  unsorted = tt

  pub no_slots : (es : List (K × ℕ)) (count : ℕ) → es ≡ [] → AreSlotsBy cmp es count
  no_slots es count none =
      let P : List (K × ℕ) → Type 0 = λ xs. AreSlotsBy cmp xs count in
      subst P (sym none) (record { order = unsorted; own = record { within = All-nil (λ n. n < count); apart = tt } })

  -- the slot of a key is one of the slots
  pub slot-in_range : (es : List (K × ℕ)) (count : ℕ) (key : K) (slot : ℕ) → AreSlotsBy cmp es count → lookup (is_at (cmp key)) es ≡ Some slot → slot < count
  slot-in_range es count key slot are found = of_found (λ n. n < count) (is_at (cmp key)) es slot found are.own.within

  pub are-put : {X : Type 0} (es new : List (K × ℕ)) (xs more : List X) (key : K) (slot : ℕ) (x : X) → AreSlotsBy cmp es (length xs) → slot ≡ length xs → more ≡ xs ++ x ∷ [] → new ≡ insert_entry cmp es key slot → IsStrictlySortedBy cmp (keys_of new)
      → AreSlotsBy cmp new (length more)
  are-put es new xs more key slot x are last pushed put order =
      let size : length more ≡ length xs + 1 = ap length pushed ∙ length_push xs x in
      record {
        order = order;
        own = own-put Differ differ-back (λ n. n < length xs) (λ n. n < length more) cmp es new key slot are.own (λ n below. omega (arith, below, size)) (λ n below is. omega (arith, below, is, last)) (omega (arith, last, size)) put;
      }

  -- a key that goes leaves the others their slots
  pub are-removed : (es new : List (K × ℕ)) (count : ℕ) (test : K → Bool) → AreSlotsBy cmp es count → new ≡ remove_entry test es → IsStrictlySortedBy cmp (keys_of new) → AreSlotsBy cmp new count
  are-removed es new count test are gone order = record { order = order; own = own-removed Differ (λ n. n < count) test es new are.own gone }

  -- ---- what stands in slots, d where there is no such slot

  module _ {X : Type 0} (d : X) where
    abbrev in_slots : List X → List (K × ℕ) → List (K × X)
    in_slots xs es = valued (λ n. slice_index_or xs n d) es

    -- what a key has is what stands in its slot
    pub slot-lookup : (xs : List X) (es : List (K × ℕ)) (key : K) (slot : ℕ) → lookup (is_at (cmp key)) es ≡ Some slot → lookup (is_at (cmp key)) (in_slots xs es) ≡ Some (slice_index_or xs slot d)
    slot-lookup xs es key slot found =
        lookup-map_values (λ n. slice_index_or xs n d) (is_at (cmp key)) es ∙ ap (option_map (λ n. slice_index_or xs n d)) found

    pub slot-absent : (xs : List X) (es : List (K × ℕ)) (key : K) → lookup (is_at (cmp key)) es ≡ None → lookup (is_at (cmp key)) (in_slots xs es) ≡ None
    slot-absent xs es key none = lookup-map_values (λ n. slice_index_or xs n d) (is_at (cmp key)) es ∙ ap (option_map (λ n. slice_index_or xs n d)) none

    pub slots-rise : (xs : List X) (es : List (K × ℕ)) → IsStrictlySortedBy cmp (keys_of es) → IsStrictlySortedBy cmp (keys_of (in_slots xs es))
    slots-rise xs es up = sorted-valued (λ n. slice_index_or xs n d) cmp es up

    -- a write in a slot is one to what its key has
    pub slot-written : (xs : List X) (es : List (K × ℕ)) (key : K) (slot : ℕ) (x : X) → AreSlotsBy cmp es (length xs) → lookup (is_at (cmp key)) es ≡ Some slot
        → in_slots (slice_set xs slot x) es ≡ set_value (is_at (cmp key)) (in_slots xs es) x
    slot-written xs es key slot x are found =
        own-written Differ differ-back (λ n. n < length xs) (λ n. slice_index_or xs n d) (λ n. slice_index_or (slice_set xs slot x) n d) slot (λ n below other. get_or-set_other xs slot n x d other) (is_at (cmp key)) es found are.own
        ∙ ap (set_value (is_at (cmp key)) (in_slots xs es)) (get_or-set_same xs slot x d (slot-in_range es (length xs) key slot are found))

    -- and one more at the end is one for a new key
    pub slot-new : (xs more : List X) (es new : List (K × ℕ)) (key : K) (slot : ℕ) (x : X) → AreSlotsBy cmp es (length xs) → slot ≡ length xs → more ≡ xs ++ x ∷ [] → new ≡ insert_entry cmp es key slot
        → in_slots more new ≡ insert_entry cmp (in_slots xs es) key x
    slot-new xs more es new key slot x are last pushed put =
        let now : List X = xs ++ x ∷ [] in
        ap (λ ys. in_slots ys new) pushed ∙ ap (in_slots now) put ∙ insert-valued (λ n. slice_index_or now n d) cmp es key slot
        ∙ ap (insert_entry cmp (in_slots now es) key) (get_or_push xs x d slot (sym last))
        ∙ ap (λ ys. insert_entry cmp ys key x) (valued-same (λ n. slice_index_or xs n d) (λ n. slice_index_or now n d) (λ n. n < length xs) (λ n below. get_or_append_left xs (x ∷ []) d n below) es are.own.within)

-- ---- sums in slots

-- the sum in a slot is at most that of all
pub slot-least : {K : Type 0} (cmp : K → K → Ordering) (s : Slotted K) (key : K) (slot : ℕ) → lookup (is_at (cmp key)) s.slots ≡ Some slot → slice_index s.sums slot ≤ sum_of_all (sums_in s)
slot-least cmp s key slot found =
    held-least (is_at (cmp key)) (sums_in s) (slice_index s.sums slot) (sym (slot-lookup cmp 0 s.sums s.slots key slot found))

module _ {K : Type 0} (cmp : K → K → Ordering) (total : IsTotalOrder cmp) where
  -- a sum that grows in its slot is merged into that of the key
  pub slot-raised : (es : List (K × ℕ)) (sums : List ℕ) (key : K) (slot cost : ℕ) → AreSlotsBy cmp es (length sums) → lookup (is_at (cmp key)) es ≡ Some slot
      → with_sums (slice_set sums slot (slice_index sums slot + cost)) es ≡ merge cmp counts_added (with_sums sums es) key cost
  slot-raised es sums key slot cost are found =
      slot-written cmp 0 sums es key slot (slice_index sums slot + cost) are found
      ∙ merge-held total counts_added (with_sums sums es) key cost (slice_index sums slot) (slots-rise cmp 0 sums es are.order) (slot-lookup cmp 0 sums es key slot found)

  -- a new slot is merged as a new key
  pub slot-put : (es new : List (K × ℕ)) (sums more : List ℕ) (key : K) (slot cost : ℕ) → AreSlotsBy cmp es (length sums) → lookup (is_at (cmp key)) es ≡ None → slot ≡ length sums → more ≡ sums ++ cost ∷ [] → new ≡ insert_entry cmp es key slot
      → with_sums more new ≡ merge cmp counts_added (with_sums sums es) key cost
  slot-put es new sums more key slot cost are absent last pushed put =
      slot-new cmp 0 sums more es new key slot cost are last pushed put
      ∙ merge-new total counts_added (with_sums sums es) key cost (slot-absent cmp 0 sums es key absent)

  -- what is found after a new key came in
  lookup-put : (es : List (K × ℕ)) (key q : K) (slot : ℕ) → lookup (is_at (cmp q)) (insert_entry cmp es key slot) ≡ cond (is_eq (cmp q key)) (Some slot) (lookup (is_at (cmp q)) es)
  lookup-put es key q slot =
      lookup-insert_entry cmp (is_at (cmp q)) (λ x y same. ap is_eq (alike_right total x y q same))
      (λ x y one two. sym (total.congr q x y ((Equal-is (cmp q x)).0 one)) ∙ (Equal-is (cmp q y)).0 two) key slot es

  -- the key has the slot
  pub put-found : (es new : List (K × ℕ)) (key : K) (slot : ℕ) → new ≡ insert_entry cmp es key slot → lookup (is_at (cmp key)) new ≡ Some slot
  put-found es new key slot put =
      ap (lookup (is_at (cmp key))) put ∙ lookup-put es key key slot
      ∙ ap (λ r. cond (is_eq r) (Some slot) (lookup (is_at (cmp key)) es)) (tied_itself total key)

  -- and the other keys have theirs
  pub put-keeps : TellsApart cmp → (es new : List (K × ℕ)) (key : K) (slot : ℕ) → lookup (is_at (cmp key)) es ≡ None → new ≡ insert_entry cmp es key slot
      → (q : K) (n : ℕ) → lookup (is_at (cmp q)) es ≡ Some n → lookup (is_at (cmp q)) new ≡ Some n
  put-keeps exact es new key slot absent put q n found = elim (cases_Bool (is_eq (cmp q key))) [
    | inl same ↦
        let is : q ≡ key = exact q key ((Equal-is (cmp q key)).0 same) in
        let clash : Some n ≡ None = sym found ∙ ap (λ p. lookup (is_at (cmp p)) es) is ∙ absent in
        absurd (cc)
    | inr other ↦ ap (lookup (is_at (cmp q))) put ∙ lookup-put es key q slot ∙ ap (λ b. cond b (Some slot) (lookup (is_at (cmp q)) es)) other ∙ found
  ]
