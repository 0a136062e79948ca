-- What merging keeps: the order of the keys, which keys there are, and each sum.
use Rattle.std.proofs.Common.{◌≡◌, ℕ, zero, suc, ◌+◌, ◌<◌, nat_eq, Bool, true, false, ◌||◌, cond, List, [], ◌∷◌, Option, Some, None, unwrap_or, if◌then◌else◌, refl, sym, ap, ◌∙◌, arith, add_assoc}
use Rattle.std.specs.declared.cmp.Ordering.{Ordering}
use Rattle.std.specs.declared.cmp.Ordering.TheVariants.{Less, Equal, Greater}
use Rattle.std.specs.Cmp.{IsTotalOrder}
use Rattle.std.specs.Ordering.{match_ordering, is_eq, ordering_reverse}
use Rattle.std.specs.List.{list_any, AllByRecursion}
use Rattle.std.specs.List.Sorted.{IsStrictlySortedBy}
use Rattle.std.specs.Map.{lookup, keys_of, values_of, set_value}
use Rattle.std.specs.BTreeMap.{BTreeMap, is_at, insert_entry, WritesThrough}
use Rattle.std.proofs.lemmas.Bool.{eqb-true}
use Rattle.std.proofs.lemmas.Map.Keys.{sorted_head, sorted_tail}
use Rattle.cost_rows.specs.Merging.{merge, merge_all, sum_where, TellsApart}
use Rattle.cost_rows.specs.Stacks.{counts_added}

-- ---- sums

module _ {K X : Type 0} {cmp : K → K → Ordering} (exact : TellsApart cmp) (add : X → X → X) (passes : K → Bool) (measure : X → ℕ) (adds : (x y : X) → measure (add x y) ≡ measure x + measure y) where
  -- what an amount counts for
  abbrev counts : K → X → ℕ
  counts key amount = if passes key then measure amount else 0

  both : (b : Bool) (x y : X) (n : ℕ) → (if b then measure (add x y) else 0) + n ≡ ((if b then measure x else 0) + n) + (if b then measure y else 0)
  both true x y n = let e : measure (add x y) ≡ measure x + measure y = adds x y in omega arith
  both false x y n = omega arith

  sum-step : (key : K) (amount : X) (e : K × X) (es : List (K × X)) (r : Ordering) → cmp key e.0 ≡ r → sum_where passes measure (merge cmp add es key amount) ≡ sum_where passes measure es + counts key amount
      → sum_where passes measure (match_ordering r ((key, amount) ∷ e ∷ es) ((e.0, add e.1 amount) ∷ es) (e ∷ merge cmp add es key amount)) ≡ sum_where passes measure (e ∷ es) + counts key amount
  sum-step key amount e es Less is rest = let n : ℕ = counts key amount in let m : ℕ = sum_where passes measure (e ∷ es) in let k : n + m ≡ m + n = omega arith in k
  sum-step key amount e es Equal is rest =
      both (passes e.0) e.1 amount (sum_where passes measure es)
      ∙ ap (λ b. sum_where passes measure (e ∷ es) + (if b then measure amount else 0)) (ap passes (sym (exact key e.0 is)))
  sum-step key amount e es Greater is rest =
      ap (λ n. (if passes e.0 then measure e.1 else 0) + n) rest
      ∙ sym (add_assoc (if passes e.0 then measure e.1 else 0) (sum_where passes measure es) (counts key amount))

  -- after a merge each sum is the one before and what was added
  pub sum-merge : (entries : List (K × X)) (key : K) (amount : X) → sum_where passes measure (merge cmp add entries key amount) ≡ sum_where passes measure entries + (if passes key then measure amount else 0)
  sum-merge [] key amount = let n : ℕ = counts key amount in let k : n + 0 ≡ 0 + n = omega arith in k
  sum-merge (e ∷ es) key amount = sum-step key amount e es (cmp key e.0) refl (sum-merge es key amount)

  -- merging keeps each sum of all amounts
  pub sum-merge_all : (entries amounts : List (K × X)) → sum_where passes measure (merge_all cmp add entries amounts) ≡ sum_where passes measure entries + sum_where passes measure amounts
  sum-merge_all entries [] = let n : ℕ = sum_where passes measure entries in let k : n ≡ n + 0 = omega arith in k
  sum-merge_all entries (a ∷ amounts) =
      sum-merge_all (merge cmp add entries a.0 a.1) amounts
      ∙ ap (λ n. n + sum_where passes measure amounts) (sum-merge entries a.0 a.1)
      ∙ add_assoc (sum_where passes measure entries) (counts a.0 a.1) (sum_where passes measure amounts)

-- ---- amounts above 0

-- an amount of 0 counts for nothing
pub nothing : (b : Bool) (n : ℕ) → nat_eq n 0 ≡ true → (if b then n else 0) ≡ 0
nothing true n h = eqb-true n 0 h
nothing false n h = refl

pub positive : (n : ℕ) → nat_eq n 0 ≡ false → 0 < n
positive zero h = cc
positive (suc n) h = omega arith

above-step : {K : Type 0} (cmp : K → K → Ordering) (key : K) (n : ℕ) (e : K × ℕ) (es : List (K × ℕ)) (r : Ordering) → 0 < n → AllByRecursion (λ m. 0 < m) (values_of (e ∷ es)) → AllByRecursion (λ m. 0 < m) (values_of (merge cmp counts_added es key n))
    → AllByRecursion (λ m. 0 < m) (values_of (match_ordering r ((key, n) ∷ e ∷ es) ((e.0, counts_added e.1 n) ∷ es) (e ∷ merge cmp counts_added es key n)))
above-step cmp key n e es Less some all rest = (some, all)
above-step cmp key n e es Equal some all rest = (omega (arith, some), all.1)
above-step cmp key n e es Greater some all rest = (all.0, rest)

-- one that is merged leaves each sum above 0
pub above-merge : {K : Type 0} (cmp : K → K → Ordering) (es : List (K × ℕ)) (key : K) (n : ℕ) → 0 < n → AllByRecursion (λ m. 0 < m) (values_of es) → AllByRecursion (λ m. 0 < m) (values_of (merge cmp counts_added es key n))
above-merge cmp [] key n some all = (some, tt)
above-merge cmp (e ∷ es) key n some all = above-step cmp key n e es (cmp key e.0) some all (above-merge cmp es key n some all.1)

-- ---- keys

module _ {K X : Type 0} {cmp : K → K → Ordering} (exact : TellsApart cmp) (add : X → X → X) (passes : K → Bool) where
  either : (b : Bool) (n : Bool) → (b || n) ≡ (b || (b || n))
  either true n = refl
  either false n = refl

  swapped : (a b n : Bool) → (a || (b || n)) ≡ (b || (a || n))
  swapped true true n = refl
  swapped true false n = refl
  swapped false true n = refl
  swapped false false n = refl

  keys-step : (key : K) (amount : X) (e : K × X) (es : List (K × X)) (r : Ordering) → cmp key e.0 ≡ r → list_any passes (keys_of (merge cmp add es key amount)) ≡ (passes key || list_any passes (keys_of es))
      → list_any passes (keys_of (match_ordering r ((key, amount) ∷ e ∷ es) ((e.0, add e.1 amount) ∷ es) (e ∷ merge cmp add es key amount))) ≡ (passes key || list_any passes (keys_of (e ∷ es)))
  keys-step key amount e es Less is rest = refl
  keys-step key amount e es Equal is rest =
      either (passes e.0) (list_any passes (keys_of es))
      ∙ ap (λ k. passes k || list_any passes (keys_of (e ∷ es))) (sym (exact key e.0 is))
  keys-step key amount e es Greater is rest =
      ap (λ b. passes e.0 || b) rest ∙ swapped (passes e.0) (passes key) (list_any passes (keys_of es))

  -- a key of the merged entries is the key of what was added, or one of those before, and the other way
  pub keys-merge : (entries : List (K × X)) (key : K) (amount : X) → list_any passes (keys_of (merge cmp add entries key amount)) ≡ (passes key || list_any passes (keys_of entries))
  keys-merge [] key amount = refl
  keys-merge (e ∷ es) key amount = keys-step key amount e es (cmp key e.0) refl (keys-merge es key amount)

  pub keys-merge_all : (entries amounts : List (K × X)) → list_any passes (keys_of (merge_all cmp add entries amounts)) ≡ (list_any passes (keys_of amounts) || list_any passes (keys_of entries))
  keys-merge_all entries [] = refl
  keys-merge_all entries (a ∷ amounts) =
      keys-merge_all (merge cmp add entries a.0 a.1) amounts
      ∙ ap (λ b. list_any passes (keys_of amounts) || b) (keys-merge entries a.0 a.1)
      ∙ regroup (list_any passes (keys_of amounts)) (passes a.0) (list_any passes (keys_of entries))
    where
      regroup : (x y z : Bool) → (x || (y || z)) ≡ ((y || x) || z)
      regroup true true z = refl
      regroup true false z = refl
      regroup false true z = refl
      regroup false false z = refl

-- ---- order

all-step : {K X : Type 0} (cmp : K → K → Ordering) (add : X → X → X) (P : K → Type 0) (e : K × X) (es : List (K × X)) (key : K) (amount : X) (r : Ordering) → AllByRecursion P (keys_of (e ∷ es)) → P key → AllByRecursion P (keys_of (merge cmp add es key amount))
    → AllByRecursion P (keys_of (match_ordering r ((key, amount) ∷ e ∷ es) ((e.0, add e.1 amount) ∷ es) (e ∷ merge cmp add es key amount)))
all-step cmp add P e es key amount Less all new rest = (new, all)
all-step cmp add P e es key amount Equal all new rest = all
all-step cmp add P e es key amount Greater all new rest = (all.0, rest)

-- what holds of each key and of a new one holds of each key after a merge
pub all-merge : {K X : Type 0} (cmp : K → K → Ordering) (add : X → X → X) (P : K → Type 0) (es : List (K × X)) (key : K) (amount : X) → AllByRecursion P (keys_of es) → P key → AllByRecursion P (keys_of (merge cmp add es key amount))
all-merge cmp add P [] key amount all new = (new, tt)
all-merge cmp add P (e ∷ es) key amount all new = all-step cmp add P e es key amount (cmp key e.0) all new (all-merge cmp add P es key amount all.1 new)

pub lower : {K : Type 0} {cmp : K → K → Ordering} (order : IsTotalOrder cmp) (low high : K) (ks : List K) → cmp low high ≡ Less → AllByRecursion (λ y. cmp high y ≡ Less) ks → AllByRecursion (λ y. cmp low y ≡ Less) ks
lower order low high [] below all = tt
lower order low high (k ∷ ks) below all = (order.trans low high k below all.0, lower order low high ks below all.1)

module _ {K X : Type 0} {cmp : K → K → Ordering} (order : IsTotalOrder cmp) (add : X → X → X) where
  flipped : (a b : K) → cmp a b ≡ Greater → cmp b a ≡ Less
  flipped a b h = order.antisymm b a ∙ ap ordering_reverse h

  sorted-step : (key : K) (amount : X) (e : K × X) (es : List (K × X)) (r : Ordering) → cmp key e.0 ≡ r → IsStrictlySortedBy cmp (keys_of (e ∷ es))
      → IsStrictlySortedBy cmp (keys_of (merge cmp add es key amount))
      → IsStrictlySortedBy cmp (keys_of (match_ordering r ((key, amount) ∷ e ∷ es) ((e.0, add e.1 amount) ∷ es) (e ∷ merge cmp add es key amount)))
  unfolding IsStrictlySortedBy
  sorted-step key amount e es Less is sorted rest = ((is, lower order key e.0 (keys_of es) is sorted.0), sorted)
  sorted-step key amount e es Equal is sorted rest = sorted
  sorted-step key amount e es Greater is sorted rest = (all-merge cmp add (λ y. cmp e.0 y ≡ Less) es key amount sorted.0 (flipped key e.0 is), rest)

  one_sorted : (key : K) → IsStrictlySortedBy cmp (key ∷ [])
  unfolding IsStrictlySortedBy
  one_sorted key = (tt, tt)

  -- the keys stay in order, each once
  pub sorted-merge : (entries : List (K × X)) (key : K) (amount : X) → IsStrictlySortedBy cmp (keys_of entries) → IsStrictlySortedBy cmp (keys_of (merge cmp add entries key amount))
  sorted-merge [] key amount sorted = one_sorted key
  sorted-merge (e ∷ es) key amount sorted = sorted-step key amount e es (cmp key e.0) refl sorted (sorted-merge es key amount (sorted_tail cmp e.0 (keys_of es) sorted))

  pub sorted-merge_all : (entries amounts : List (K × X)) → IsStrictlySortedBy cmp (keys_of entries) → IsStrictlySortedBy cmp (keys_of (merge_all cmp add entries amounts))
  sorted-merge_all entries [] sorted = sorted
  sorted-merge_all entries (a ∷ amounts) sorted = sorted-merge_all (merge cmp add entries a.0 a.1) amounts (sorted-merge entries a.0 a.1 sorted)

  -- ---- what the calls of a map make

  insert-step : (key : K) (amount : X) (e : K × X) (es : List (K × X)) (r : Ordering) → cond (is_eq r) (Some e.1) (lookup (is_at (cmp key)) es) ≡ None
      → (lookup (is_at (cmp key)) es ≡ None → insert_entry cmp es key amount ≡ merge cmp add es key amount)
      → match_ordering r ((key, amount) ∷ e ∷ es) ((e.0, amount) ∷ es) (e ∷ insert_entry cmp es key amount) ≡ match_ordering r ((key, amount) ∷ e ∷ es) ((e.0, add e.1 amount) ∷ es) (e ∷ merge cmp add es key amount)
  insert-step key amount e es Less none rest = refl
  insert-step key amount e es Equal none rest = absurd (cc)
  insert-step key amount e es Greater none rest = ap (λ more. e ∷ more) (rest none)

  -- an entry is put in for a key that is not there
  pub merge-new : (entries : List (K × X)) (key : K) (amount : X) → lookup (is_at (cmp key)) entries ≡ None → insert_entry cmp entries key amount ≡ merge cmp add entries key amount
  merge-new [] key amount none = refl
  merge-new (e ∷ es) key amount none = insert-step key amount e es (cmp key e.0) none (merge-new es key amount)

  none_above : (key : K) (es : List (K × X)) → AllByRecursion (λ y. cmp key y ≡ Less) (keys_of es) → lookup (is_at (cmp key)) es ≡ None
  none_above key [] all = refl
  none_above key (e ∷ es) all = ap (λ r. cond (is_eq r) (Some e.1) (lookup (is_at (cmp key)) es)) all.0 ∙ none_above key es all.1

  set-step : (key : K) (amount old : X) (e : K × X) (es : List (K × X)) (r : Ordering) → cmp key e.0 ≡ r → IsStrictlySortedBy cmp (keys_of (e ∷ es))
      → cond (is_eq r) (Some e.1) (lookup (is_at (cmp key)) es) ≡ Some old
      → (lookup (is_at (cmp key)) es ≡ Some old → set_value (is_at (cmp key)) es (add old amount) ≡ merge cmp add es key amount)
      → cond (is_eq r) ((e.0, add old amount) ∷ es) (e ∷ set_value (is_at (cmp key)) es (add old amount)) ≡ match_ordering r ((key, amount) ∷ e ∷ es) ((e.0, add e.1 amount) ∷ es) (e ∷ merge cmp add es key amount)
  set-step key amount old e es Less is sorted found rest =
      let all = lower order key e.0 (keys_of es) is (sorted_head cmp e.0 (keys_of es) sorted) in
      let none : lookup (is_at (cmp key)) es ≡ None = none_above key es all in
      let clash : None ≡ Some old = sym none ∙ found in
      absurd (cc)
  set-step key amount old e es Equal is sorted found rest = let same : old ≡ e.1 = cc in ap (λ x. (e.0, add x amount) ∷ es) same
  set-step key amount old e es Greater is sorted found rest = ap (λ more. e ∷ more) (rest found)

  -- the sum is written where the key is there
  pub merge-held : (entries : List (K × X)) (key : K) (amount old : X) → IsStrictlySortedBy cmp (keys_of entries) → lookup (is_at (cmp key)) entries ≡ Some old → set_value (is_at (cmp key)) entries (add old amount) ≡ merge cmp add entries key amount
  merge-held [] key amount old sorted found = absurd (cc)
  merge-held (e ∷ es) key amount old sorted found = set-step key amount old e es (cmp key e.0) refl sorted found (merge-held es key amount old (sorted_tail cmp e.0 (keys_of es) sorted))

  insert-step-held : (key : K) (old v : X) (e : K × X) (es : List (K × X)) (r : Ordering) → cmp key e.0 ≡ r → IsStrictlySortedBy cmp (keys_of (e ∷ es))
      → cond (is_eq r) (Some e.1) (lookup (is_at (cmp key)) es) ≡ Some old
      → (lookup (is_at (cmp key)) es ≡ Some old → insert_entry cmp es key v ≡ set_value (is_at (cmp key)) es v)
      → match_ordering r ((key, v) ∷ e ∷ es) ((e.0, v) ∷ es) (e ∷ insert_entry cmp es key v) ≡ cond (is_eq r) ((e.0, v) ∷ es) (e ∷ set_value (is_at (cmp key)) es v)
  insert-step-held key old v e es Less is sorted found rest =
      let all = lower order key e.0 (keys_of es) is (sorted_head cmp e.0 (keys_of es) sorted) in
      let none : lookup (is_at (cmp key)) es ≡ None = none_above key es all in
      let clash : None ≡ Some old = sym none ∙ found in
      absurd (cc)
  insert-step-held key old v e es Equal is sorted found rest = refl
  insert-step-held key old v e es Greater is sorted found rest = ap (λ more. e ∷ more) (rest found)

  -- what is put in for a key that is there takes the place of what it had
  insert-held : (entries : List (K × X)) (key : K) (old v : X) → IsStrictlySortedBy cmp (keys_of entries) → lookup (is_at (cmp key)) entries ≡ Some old → insert_entry cmp entries key v ≡ set_value (is_at (cmp key)) entries v
  insert-held [] key old v sorted found = absurd (cc)
  insert-held (e ∷ es) key old v sorted found = insert-step-held key old v e es (cmp key e.0) refl sorted found (insert-held es key old v (sorted_tail cmp e.0 (keys_of es) sorted))

  -- a sum is put in for its key, whether or not this is there
  pub merge-put : (entries : List (K × X)) (key : K) (amount none : X) (held : Option X) → add none amount ≡ amount → IsStrictlySortedBy cmp (keys_of entries) → lookup (is_at (cmp key)) entries ≡ held
      → insert_entry cmp entries key (add (unwrap_or held none) amount) ≡ merge cmp add entries key amount
  merge-put entries key amount none None same sorted found = ap (insert_entry cmp entries key) same ∙ merge-new entries key amount found
  merge-put entries key amount none (Some old) same sorted found = insert-held entries key old (add old amount) sorted found ∙ merge-held entries key amount old sorted found

  -- after a sum was written through what `get_mut` lent
  pub merge-written : (m n : BTreeMap K X) (key : K) (held new amount : X) → WritesThrough cmp (cmp key) m new n → IsStrictlySortedBy cmp (keys_of m.entries) → Some held ≡ lookup (is_at (cmp key)) m.entries → new ≡ add held amount → n.entries ≡ merge cmp add m.entries key amount
  merge-written m n key held new amount written sorted found sum =
      written.0 ∙ ap (set_value (is_at (cmp key)) m.entries) sum ∙ merge-held m.entries key amount held sorted (sym found)
