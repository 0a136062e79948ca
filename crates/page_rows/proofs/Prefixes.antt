-- The entries of an index that begin with a key stand together, and a walk from the key on begins with them.
use Rattle.std.proofs.Common.{◌≡◌, ◌⊎◌, ℕ, suc, ◌+◌, arith, take, true, false, List, [], ◌∷◌, filter, take_while, refl, sym, ap, ◌∙◌, inl, inr, Ordering, Less, Equal, Greater, is_lt, is_gt, is_eq}
use Rattle.std.proofs.lemmas.Bool.{cases_Bool, true≢false}
use Rattle.std.proofs.lemmas.Cmp.{tied_itself}
use Rattle.std.specs.List.{AllByRecursion}
use Rattle.sqlite_value.specs.declared.value.Value.{Value}
use Rattle.sqlite_value.specs.declared.keys.Order.{Order}
use Rattle.sqlite_value.specs.Keys.{by_key, entry_cmp, first_key, later, prefix_cmp}
use Rattle.sqlite_value.specs.Order.{Row}
use Rattle.sqlite_value.proofs.KeyLemmas.{by_key_total}
use Rattle.sqlite_value.proofs.OrderLemmas.{then-Equal}
use Rattle.sqlite_trees.specs.Tree.{IsIndex}
use Rattle.sqlite_trees.proofs.TreeLemmas.{prefix_cmp_follows}
use Rattle.page_rows.specs.Indexes.{begins_with, from_entry}

by_order : (P : Type 0) (o : Ordering) → (o ≡ Less → P) → (o ≡ Equal → P) → (o ≡ Greater → P) → P
by_order P Less a b c = a refl
by_order P Equal a b c = b refl
by_order P Greater a b c = c refl

-- what lies below a row lies below it as a key
same_side : (order : Order) (entry key : Row) → is_lt (entry_cmp order entry key) ≡ is_lt (prefix_cmp order entry key)
same_side order [] [] = refl
same_side order [] (k ∷ key) = refl
same_side order (v ∷ entry) [] = refl
same_side order (v ∷ entry) (k ∷ key) =
    by_order _ (by_key (first_key order) v k) (λ e. rw e) (λ e. rw e (same_side (later order) entry key)) (λ e. rw e)

below_begins_not : (o : Ordering) → is_lt o ≡ true → is_eq o ≡ false
below_begins_not Less low = refl
below_begins_not Equal low = absurd (true≢false (sym low))
below_begins_not Greater low = refl

one_more : (row : Row) (n : ℕ) (rows : List Row) → row ∷ take n rows ≡ take (1 + n) (row ∷ rows)
one_more row n rows = let same : suc n ≡ 1 + n = omega arith in ap (λ k. take k (row ∷ rows)) same

module _ (order : Order) (key : Row) where
  after_above : (entry : Row) (entries : List Row) → is_gt (prefix_cmp order entry key) ≡ true → AllByRecursion (λ b. entry_cmp order entry b ≡ Less) entries
      → filter (begins_with order key) entries ≡ []
  after_above entry [] high up = refl
  after_above entry (b ∷ bs) high up =
      let above = (prefix_cmp_follows order key entry b (ap is_gt up.0)).1 high in
      by_order _ (prefix_cmp order b key) (λ e. absurd (true≢false (sym above ∙ ap is_gt e))) (λ e. absurd (true≢false (sym above ∙ ap is_gt e))) (λ e. rw e (after_above entry bs high up.1))

  not_below : (entry : Row) (entries : List Row) → is_lt (prefix_cmp order entry key) ≡ false → AllByRecursion (λ b. entry_cmp order entry b ≡ Less) entries → IsIndex order entries
      → filter (begins_with order key) entries ≡ take_while (begins_with order key) entries
  not_below entry [] high all up = refl
  not_below entry (b ∷ bs) high all up = by_order _ (prefix_cmp order b key)
      (λ e. absurd (true≢false (sym ((prefix_cmp_follows order key entry b (ap is_gt all.0)).0 (ap is_lt e)) ∙ high)))
      (λ e. rw e (ap (λ l. b ∷ l) (not_below b bs (ap is_lt e) up.0 up.1) ∙ one_more b _ bs))
      (λ e. rw e (after_above b bs (ap is_gt e) up.0))

  stays_at : (e : Row) (es : List Row) → is_lt (prefix_cmp order e key) ≡ false → from_entry order key (e ∷ es) ≡ e ∷ es
  stays_at e es high = rw (same_side order e key, high)

  run_from : (e : Row) (es : List Row) → is_lt (prefix_cmp order e key) ≡ false → IsIndex order (e ∷ es) → filter (begins_with order key) (e ∷ es) ≡ take_while (begins_with order key) (e ∷ es)
  run_from e es high up = by_order _ (prefix_cmp order e key)
      (λ is. absurd (true≢false (sym (ap is_lt is) ∙ high)))
      (λ is. rw is (ap (λ l. e ∷ l) (not_below e es (ap is_lt is) up.0 up.1) ∙ one_more e _ es))
      (λ is. rw is (after_above e es (ap is_gt is) up.0))

  -- those that begin with the key are the first of those from it on
  pub those_that_begin : (entries : List Row) → IsIndex order entries → filter (begins_with order key) entries ≡ take_while (begins_with order key) (from_entry order key entries)
  those_that_begin [] up = refl
  those_that_begin (e ∷ es) up = elim (cases_Bool (is_lt (prefix_cmp order e key))) [
    | inl low ↦ (let other : begins_with order key e ≡ false = below_begins_not (prefix_cmp order e key) low in rw (same_side order e key, low, other) (those_that_begin es up.1))
    | inr high ↦ run_from e es high up ∙ ap (take_while (begins_with order key)) (sym (stays_at e es high))
  ]

  -- the first of them begins with it, or none does
  pub first_begins : (entries : List Row) → IsIndex order entries → (first : Row) (rest : List Row) → from_entry order key entries ≡ first ∷ rest
      → (begins_with order key first ≡ true) ⊎ (filter (begins_with order key) entries ≡ [])
  first_begins entries up first rest is = elim (cases_Bool (begins_with order key first)) [
    | inl begins ↦ inl begins
    | inr other ↦ inr (those_that_begin entries up ∙ ap (take_while (begins_with order key)) is ∙ rw other)
  ]

  -- where there is none from it on, none begins with it
  pub none_begins : (entries : List Row) → IsIndex order entries → from_entry order key entries ≡ [] → filter (begins_with order key) entries ≡ []
  none_begins entries up none = those_that_begin entries up ∙ ap (take_while (begins_with order key)) none

-- an entry begins with its own first column
pub begins_itself : (order : Order) (value : Value) (rest : Row) → begins_with order (value ∷ []) (value ∷ rest) ≡ true
begins_itself order value rest = ap is_eq (then-Equal _ ∙ tied_itself (by_key_total (first_key order)) value)
