-- Lines whose keys are new do not clash, and what SQL's equality says of a key's columns.
use Rattle.std.proofs.Common.{◌≡◌, ◌≢◌, ℕ, ℤ, List, [], ◌∷◌, ◌++◌, Bool, true, false, ◌||◌, ◌&&◌, cond, Some, refl, sym, ap, ap₂, subst, inl, inr, ◌∙◌}
use Rattle.std.specs.List.{AllByRecursion, list_any}
use Rattle.std.specs.Ordering.{is_ne}
use Rattle.std.proofs.lemmas.Bool.{and_parts, both_ways, eqb-true, false_from_ne_true}
use Rattle.std.proofs.lemmas.Cmp.{tied_itself}
use Rattle.std.proofs.lemmas.Slice.Eq.{bytes_eq-Decides}
use Rattle.sqlite_value.specs.declared.keys.Collation.TheVariants.{Binary}
use Rattle.sqlite_value.specs.declared.value.Value.{Value}
use Rattle.sqlite_value.specs.declared.value.Value.TheVariants.{Null, Int, Text, Blob}
use Rattle.sqlite_value.specs.Keys.{first_key, plain}
use Rattle.sqlite_value.specs.Order.{Row, column, value_cmp}
use Rattle.sqlite_value.proofs.OrderLemmas.{value_cmp_total}
use Rattle.sqlite_trees.specs.Tree.{rowid}
use Rattle.sqlite_sql.specs.Ops.{binary, from_truth, is_null, is_true}
use Rattle.sqlite_schema.specs.declared.schema.Table.{Table}
use Rattle.sqlite_schema.specs.Rules.{agree, clashes, differ, equal}
use Rattle.sqlite_rules.specs.Lists.{Has}
use Rattle.sqlite_rules.proofs.KeyLemmas.{agree_back}
use Rattle.sqlite_rules.proofs.ListLemmas.{all_has, has_either, some_has}
use Rattle.plain_tables.specs.Lists.{IsAscending}
use Rattle.sql_tables.proofs.Deletes.{row_of}
use Rattle.sql_tables.proofs.Rows.{id_of, numbers_equal, texts_equal}
use Rattle.prof_store.specs.Tables.{number}
use Rattle.prof_store.proofs.Values.{blobs_equal}
use Rattle.page_places.specs.Keys.{AreNew}
use Rattle.page_places.proofs.Contents.{Lined, line_of}

-- a value does not differ from itself
differs_none : (null : Bool) (v : Value) → is_true (cond null Null (from_truth (Some (is_ne (value_cmp v v))))) ≡ false
differs_none true v = refl
differs_none false v = ap (λ o. is_true (from_truth (Some (is_ne o)))) (tied_itself value_cmp_total v)

differs_itself : (v : Value) → differ v v ≡ false
unfolding binary
differs_itself v = differs_none (is_null v || is_null v) v

-- where the rows' places tell the lines' keys, lines whose keys are new do not clash
module _ {X : Type 0} (table : Table) (columns : X → Row) (key : X → List ℕ) (places : List ℕ)
    (reads : (a b : ℤ) (x y : X) → agree plain places (row_of table columns (Int a) x) places (row_of table columns (Int b) y) ≡ true → key x ≡ key y) where
  keys_same : (a b : Row) (x y : X) → a ≡ row_of table columns (Int (id_of a)) x → b ≡ row_of table columns (Int (id_of b)) y → agree plain places a places b ≡ true → key x ≡ key y
  keys_same a b x y is_a is_b h = reads (id_of a) (id_of b) x y (sym (ap₂ (λ q r. agree plain places q places r) is_a is_b) ∙ h)

  none_among : (news : List Row) (ys : List X) → Lined table columns news ys → IsAscending (λ x y. key x ≢ key y) ys → (a b : Row) → Has news a → Has news b → agree plain places a places b ≡ true → differ (rowid a) (rowid b) ≡ true → ⊥
  none_among [] ys l up a b has_a has_b h other = has_a
  none_among (r ∷ news) [] l up a b has_a has_b h other = l
  none_among (r ∷ news) (y ∷ ys) l up a b (inl is_a) (inl is_b) h other = both_ways _ (differs_itself (rowid r)) (sym (ap₂ (λ p q. differ (rowid p) (rowid q)) is_a is_b) ∙ other)
  none_among (r ∷ news) (y ∷ ys) l up a b (inl is_a) (inr has_b) h other =
      let z = line_of table columns news ys l.1 b has_b in all_has (λ x. key y ≢ key x) ys z.0 up.0 z.1 (keys_same r b y z.0 l.0 z.2 (sym (ap (λ q. agree plain places q places b) is_a) ∙ h))
  none_among (r ∷ news) (y ∷ ys) l up a b (inr has_a) (inl is_b) h other =
      let z = line_of table columns news ys l.1 a has_a in
      all_has (λ x. key y ≢ key x) ys z.0 up.0 z.1 (keys_same r a y z.0 l.0 z.2 (agree_back plain places places a r (sym (ap (λ q. agree plain places a places q) is_b) ∙ h)))
  none_among (r ∷ news) (y ∷ ys) l up a b (inr has_a) (inr has_b) h other = none_among news ys l.1 up.1 a b has_a has_b h other

  pub none_clash : (olds news rows : List Row) (xs ys : List X) → rows ≡ olds ++ news → Lined table columns olds xs → Lined table columns news ys → AreNew key xs ys → list_any (clashes plain places rows) news ≡ false
  none_clash olds news rows xs ys are old_lines new_lines new = false_from_ne_true _ (λ some.
      let b = some_has (clashes plain places rows) news some in
      let a = some_has (λ q. agree plain places q places b.0 && differ (rowid q) (rowid b.0)) rows b.2 in
      let parts = and_parts (agree plain places a.0 places b.0) (differ (rowid a.0) (rowid b.0)) a.2 in
      elim (has_either olds news a.0 (subst (λ l. Has l a.0) are a.1)) [
        | inl old ↦
            let x = line_of table columns olds xs old_lines a.0 old in
            let y = line_of table columns news ys new_lines b.0 b.1 in all_has (λ z. key x.0 ≢ key z) ys y.0 (all_has (λ w. AllByRecursion (λ z. key w ≢ key z) ys) xs x.0 new.apart x.1) y.1 (keys_same a.0 b.0 x.0 y.0 x.2 y.2 parts.0)
        | inr fresh ↦ none_among news ys new_lines new.among a.0 b.0 fresh b.1 parts.0 parts.1
      ])

-- ---- the columns of a key

pub number_is : (a b : ℕ) → equal Binary (number a) (number b) ≡ true → a ≡ b
number_is a b h = eqb-true a b (sym (numbers_equal a b) ∙ h)

pub text_is : (a b : List ℕ) → equal Binary (Text a) (Text b) ≡ true → a ≡ b
text_is a b h = (bytes_eq-Decides a b).0 (sym (texts_equal a b) ∙ h)

pub blob_is : (a b : List ℕ) → equal Binary (Blob a) (Blob b) ≡ true → a ≡ b
blob_is a b h = (bytes_eq-Decides a b).0 (sym (blobs_equal a b) ∙ h)

-- rows that agree do so at each place
pub agrees_at : (places : List ℕ) (a b : Row) → agree plain places a places b ≡ true → AllByRecursion (λ p. equal Binary (column a p) (column b p) ≡ true) places
unfolding first_key
agrees_at [] a b h = tt
agrees_at (p ∷ places) a b h = let parts = and_parts _ _ h in (parts.0, agrees_at places a b parts.1)
