-- A map whose keys are seen as something else: what is done to it is done to its entries as they are seen.
use Rattle.std.proofs.Common.{inl, inr, ◌≡◌, ℕ, suc, ◌+◌, ◌≤◌, Bool, true, false, cond, List, [], ◌∷◌, length, Some, refl, ap, ◌∙◌, arith}
use Rattle.std.specs.declared.cmp.Ordering.{Ordering}
use Rattle.std.specs.declared.cmp.Ordering.TheVariants.{Less, Equal, Greater}
use Rattle.std.specs.Ordering.{match_ordering, is_eq}
use Rattle.std.specs.List.{AllByRecursion}
use Rattle.std.specs.List.Sorted.{IsStrictlySortedBy}
use Rattle.std.specs.Map.{lookup, keys_of, remove_entry}
use Rattle.std.specs.BTreeMap.{is_at, insert_entry}
use Rattle.std.proofs.lemmas.Bool.{cases_Bool}
use Rattle.cost_rows.specs.Merging.{merge, sum_of_all, seen}

-- keys by what they are seen as
abbrev pub key_cmp : {K L : Type 0} → (K → L) → (L → L → Ordering) → K → K → Ordering
key_cmp see cmp x y = cmp (see x) (see y)

-- what is asked of a key
abbrev pub asking : {K L : Type 0} → (K → L) → (L → L → Ordering) → L → K → Ordering
asking see cmp q k = cmp q (see k)

-- as many entries are seen as there are
pub length-seen : {K L X : Type 0} (see : K → L) (es : List (K × X)) → length (seen see es) ≡ length es
length-seen see [] = refl
length-seen see (e ∷ es) = ap (λ n. suc n) (length-seen see es)

module _ {K L X : Type 0} (see : K → L) (cmp : L → L → Ordering) where
  insert-step : (k : K) (v : X) (e : K × X) (es : List (K × X)) (r : Ordering) → seen see (insert_entry (key_cmp see cmp) es k v) ≡ insert_entry cmp (seen see es) (see k) v
      → seen see (match_ordering r ((k, v) ∷ e ∷ es) ((e.0, v) ∷ es) (e ∷ insert_entry (key_cmp see cmp) es k v)) ≡ match_ordering r ((see k, v) ∷ (see e.0, e.1) ∷ seen see es) ((see e.0, v) ∷ seen see es) ((see e.0, e.1) ∷ insert_entry cmp (seen see es) (see k) v)
  insert-step k v e es Less rest = refl
  insert-step k v e es Equal rest = refl
  insert-step k v e es Greater rest = ap (λ more. (see e.0, e.1) ∷ more) rest

  pub seen-insert : (es : List (K × X)) (k : K) (v : X) → seen see (insert_entry (key_cmp see cmp) es k v) ≡ insert_entry cmp (seen see es) (see k) v
  seen-insert [] k v = refl
  seen-insert (e ∷ es) k v = insert-step k v e es (key_cmp see cmp k e.0) (seen-insert es k v)

  merge-step : (add : X → X → X) (k : K) (v : X) (e : K × X) (es : List (K × X)) (r : Ordering) → seen see (merge (key_cmp see cmp) add es k v) ≡ merge cmp add (seen see es) (see k) v
      → seen see (match_ordering r ((k, v) ∷ e ∷ es) ((e.0, add e.1 v) ∷ es) (e ∷ merge (key_cmp see cmp) add es k v))
      ≡ match_ordering r ((see k, v) ∷ (see e.0, e.1) ∷ seen see es) ((see e.0, add e.1 v) ∷ seen see es) ((see e.0, e.1) ∷ merge cmp add (seen see es) (see k) v)
  merge-step add k v e es Less rest = refl
  merge-step add k v e es Equal rest = refl
  merge-step add k v e es Greater rest = ap (λ more. (see e.0, e.1) ∷ more) rest

  seen-merge : (add : X → X → X) (es : List (K × X)) (k : K) (v : X) → seen see (merge (key_cmp see cmp) add es k v) ≡ merge cmp add (seen see es) (see k) v
  seen-merge add [] k v = refl
  seen-merge add (e ∷ es) k v = merge-step add k v e es (key_cmp see cmp k e.0) (seen-merge add es k v)

  -- what is merged at a key is merged at what the key is seen as
  pub seen-with : (add : X → X → X) (es new : List (K × X)) (key : K) (q : L) (x : X) → new ≡ merge (key_cmp see cmp) add es key x → see key ≡ q → seen see new ≡ merge cmp add (seen see es) q x
  seen-with add es new key q x is same = ap (seen see) is ∙ seen-merge add es key x ∙ ap (λ p. merge cmp add (seen see es) p x) same

  pub seen-lookup : (es : List (K × X)) (q : L) → lookup (is_at (asking see cmp q)) es ≡ lookup (is_at (cmp q)) (seen see es)
  seen-lookup [] q = refl
  seen-lookup (e ∷ es) q = ap (cond (is_eq (asking see cmp q e.0)) (Some e.1)) (seen-lookup es q)

  remove-step : (q : L) (e : K × X) (es : List (K × X)) (b : Bool) → seen see (remove_entry (is_at (asking see cmp q)) es) ≡ remove_entry (is_at (cmp q)) (seen see es)
      → seen see (cond b es (e ∷ remove_entry (is_at (asking see cmp q)) es)) ≡ cond b (seen see es) ((see e.0, e.1) ∷ remove_entry (is_at (cmp q)) (seen see es))
  remove-step q e es true rest = refl
  remove-step q e es false rest = ap (λ more. (see e.0, e.1) ∷ more) rest

  pub seen-remove : (es : List (K × X)) (q : L) → seen see (remove_entry (is_at (asking see cmp q)) es) ≡ remove_entry (is_at (cmp q)) (seen see es)
  seen-remove [] q = refl
  seen-remove (e ∷ es) q = remove-step q e es (is_eq (asking see cmp q e.0)) (seen-remove es q)

  all-seen : (q : L) (es : List (K × X)) → AllByRecursion (λ y. asking see cmp q y ≡ Less) (keys_of es) → AllByRecursion (λ y. cmp q y ≡ Less) (keys_of (seen see es))
  all-seen q [] all = tt
  all-seen q (e ∷ es) all = (all.0, all-seen q es all.1)

  pub seen-sorted : (es : List (K × X)) → IsStrictlySortedBy (key_cmp see cmp) (keys_of es) → IsStrictlySortedBy cmp (keys_of (seen see es))
  unfolding IsStrictlySortedBy
  seen-sorted [] sorted = tt
  seen-sorted (e ∷ es) sorted = (all-seen (see e.0) es sorted.0, seen-sorted es sorted.1)

-- the sum of all is that of what is seen
pub sum-seen : {K L : Type 0} (see : K → L) (es : List (K × ℕ)) → sum_of_all (seen see es) ≡ sum_of_all es
sum-seen see [] = refl
sum-seen see (e ∷ es) = ap (λ n. e.1 + n) (sum-seen see es)

-- a sum that is held is at most that of all
pub held-least : {K : Type 0} (test : K → Bool) (es : List (K × ℕ)) (held : ℕ) → Some held ≡ lookup test es → held ≤ sum_of_all es
held-least test [] held found = cc
held-least test (e ∷ es) held found = elim (cases_Bool (test e.0)) [
  | inl is_here ↦
      let same : Some held ≡ Some e.1 = rw is_here at found in
      let is : held ≡ e.1 = cc in
      omega (arith, is)
  | inr further ↦
      let rest : Some held ≡ lookup test es = rw further at found in
      let least = held-least test es held rest in
      omega (arith, least)
]
