-- Rows of one table: their rowids, the rows that a test picks, and what is left without them.
use Rattle.std.proofs.Common.{◌≡◌, inl, inr, ℕ, ℤ, pos, ◌<ℤ◌, List, [], ◌∷◌, ◌++◌, map, filter, Bool, true, false, not, ◌||◌, cond, is_eq, Equal, bytes_eq, eqb, Some, IsTrue, refl, sym, ap, subst, ◌∙◌, arith}
use Rattle.std.specs.List.{AllByRecursion, list_any, list_all}
use Rattle.std.specs.declared.cmp.Ordering.TheVariants.{Less, Greater}
use Rattle.std.specs.Ordering.{int_cmp}
use Rattle.sqlite_value.specs.declared.value.Value.TheVariants.{Int, Text}
use Rattle.sqlite_value.specs.Order.{Row, value_cmp}
use Rattle.sqlite_value.proofs.OrderLemmas.{value_cmp-Int, value_cmp-Text}
use Rattle.sqlite_trees.specs.Tree.{rowid, put_row, IsTable, has_rowid, without_rowid}
use Rattle.sqlite_trees.specs.View.{is_int, IsShaped}
use Rattle.sqlite_trees.specs.declared.store.Shape.TheVariants as shape
use Rattle.sqlite_rules.specs.Edit.{id_in, next_rowid, without_all, row_at}
use Rattle.sqlite_rules.proofs.TableLemmas.{int_is}
use Rattle.std.proofs.lemmas.Int.{ints}
use Rattle.sqlite_keyed.specs.Keyed.{IsKeyedBy}
use Rattle.sqlite_keyed.proofs.KeyedLemmas.{Less-from_lt, lt_from_Less, above_all}
use Rattle.sqlite_keyed.proofs.ListLemmas.{all_both}
use Rattle.std.proofs.lemmas.Bool.{cases_Bool}
use Rattle.std.proofs.lemmas.Bool.Decides.{nat_tests}
use Rattle.std.proofs.lemmas.Map.Text.{is_eq-slice_cmp}
use Rattle.std.specs.declared.cmp.Ordering.{Ordering}
use Rattle.sqlite_value.specs.declared.keys.Collation.TheVariants.{Binary}
use Rattle.sqlite_sql.specs.declared.ops.BinaryOp.TheVariants.{Compare}
use Rattle.sqlite_sql.specs.declared.ops.CompareOp.TheVariants.{Eq}
use Rattle.sqlite_sql.specs.Ops.{binary, is_true, from_truth}
use Rattle.sqlite_sql.specs.Term.{Term, holds}
use Rattle.sqlite_rules.specs.Lists.{Has}
use Rattle.sqlite_rules.proofs.ListLemmas.{some_has, some_from, all_has}
use Rattle.sqlite_rules.proofs.PlaceLemmas.{row_at_is}

abbrev pub id_of : Row → ℤ
id_of r = id_in (rowid r)

abbrev pub Numbered : Row → Type 0
Numbered r = IsTrue (is_int (rowid r))

pub id_is : (r : Row) → Numbered r → rowid r ≡ Int (id_of r)
id_is r h = int_is (rowid r) h

-- a row that is above each goes to the end
pub put_last : (new : Row) (rows : List Row) → AllByRecursion (λ r. value_cmp (rowid r) (rowid new) ≡ Less) rows → put_row new rows ≡ rows ++ new ∷ []
put_last new [] h = refl
put_last new (r ∷ rows) h = rw h.0 (ap (λ l. r ∷ l) (put_last new rows h.1))

pub below_is : (a b : Row) → Numbered a → Numbered b → value_cmp (rowid a) (rowid b) ≡ Less → id_of a <ℤ id_of b
below_is a b one two h = lt_from_Less _ _ (sym (value_cmp-Int (id_of a) (id_of b)) ∙ (rw (id_is a one, id_is b two) at h))

is_below : (a : Row) (n : ℤ) → Numbered a → id_of a <ℤ n → value_cmp (rowid a) (Int n) ≡ Less
is_below a n one h = rw (id_is a one) (value_cmp-Int (id_of a) n ∙ Less-from_lt _ _ h)

keyed : (rows : List Row) → IsTable rows → AllByRecursion Numbered rows → IsKeyedBy id_of rows
keyed [] h all = tt
keyed (r ∷ rows) h all = (all_both (λ s. value_cmp (rowid r) (rowid s) ≡ Less) Numbered (λ s. id_of r <ℤ id_of s) (λ s below is. below_is r s all.0 is below) rows h.0 all.1, keyed rows h.1 all.1)

pub below_next : (rows : List Row) → IsTable rows → AllByRecursion Numbered rows → AllByRecursion (λ r. value_cmp (rowid r) (Int (next_rowid rows)) ≡ Less) rows
below_next [] h all = tt
below_next (r ∷ rows) h all =
    all_both Numbered (λ s. id_of s <ℤ next_rowid (r ∷ rows)) (λ s. value_cmp (rowid s) (Int (next_rowid (r ∷ rows))) ≡ Less) (λ s is below. is_below s _ is below) (r ∷ rows) all (above_all id_of rows r (keyed (r ∷ rows) h all))

pub map-append : {A B : Type 0} (f : A → B) (xs ys : List A) → map f (xs ++ ys) ≡ map f xs ++ map f ys
map-append f [] ys = refl
map-append f (x ∷ xs) ys = ap (λ l. f x ∷ l) (map-append f xs ys)

-- ---- DELETE

pub filter_same_on : {X : Type 0} (p q : X → Bool) (xs : List X) → ((x : X) → Has xs x → p x ≡ q x) → filter p xs ≡ filter q xs
filter_same_on p q [] h = refl
filter_same_on {X} p q (x ∷ xs) h =
    ap (λ b. cond b (x ∷ filter p xs) (filter p xs)) (h x (inl refl)) ∙ ap (λ l. cond (q x) (x ∷ l) l) (filter_same_on p q xs (λ y there. h y (inr there)))

filter_twice : {X : Type 0} (p q : X → Bool) (xs : List X) → filter (λ x. not (q x)) (filter (λ x. not (p x)) xs) ≡ filter (λ x. not (p x || q x)) xs
filter_twice p q [] = refl
filter_twice {X} p q (x ∷ xs) = go (p x) (filter_twice p q xs)
  where
    go : (b : Bool) → filter (λ y. not (q y)) (filter (λ y. not (p y)) xs) ≡ filter (λ y. not (p y || q y)) xs
        → filter (λ y. not (q y)) (cond (not b) (x ∷ filter (λ y. not (p y)) xs) (filter (λ y. not (p y)) xs)) ≡ cond (not (b || q x)) (x ∷ filter (λ y. not (p y || q y)) xs) (filter (λ y. not (p y || q y)) xs)
    go true more = more
    go false more = ap (λ l. cond (not (q x)) (x ∷ l) l) more

filter_none : {X : Type 0} (xs : List X) → filter (λ x. not false) xs ≡ xs
filter_none [] = refl
filter_none (x ∷ xs) = ap (λ l. x ∷ l) (filter_none xs)

without_all_is : (ids : List ℤ) (rows : List Row) → without_all rows ids ≡ filter (λ r. not (list_any (λ id. has_rowid id r) ids)) rows
without_all_is [] rows = sym (filter_none rows)
without_all_is (id ∷ ids) rows = without_all_is ids (without_rowid id rows) ∙ filter_twice (has_rowid id) (λ r. list_any (λ k. has_rowid k r) ids) rows

abbrev pub passes : Row → List Term → Row → Bool
passes params terms r = list_all (holds (params ∷ r ∷ [])) terms

pub own_id : (r : Row) → Numbered r → has_rowid (id_of r) r ≡ true
own_id r h =
    let z = id_of r in
    let same : int_cmp z z ≡ Equal = grind (arith, ints) in
    rw (id_is r h) (ap is_eq (value_cmp-Int z z ∙ same))

-- ---- what SQL's = says of two texts and of two numbers

pub texts_equal : (a b : List ℕ) → is_true (binary (Compare Eq Binary) (Text a) (Text b)) ≡ bytes_eq a b
unfolding binary
texts_equal a b = go (value_cmp (Text a) (Text b)) ∙ ap is_eq (value_cmp-Text a b) ∙ is_eq-slice_cmp a b
  where
    go : (o : Ordering) → is_true (from_truth (Some (is_eq o))) ≡ is_eq o
    go Less = refl
    go Equal = refl
    go Greater = refl

pub numbers_equal : (a b : ℕ) → is_true (binary (Compare Eq Binary) (Int (pos a)) (Int (pos b))) ≡ eqb a b
unfolding binary
numbers_equal a b = go (value_cmp (Int (pos a)) (Int (pos b))) ∙ ap is_eq (value_cmp-Int (pos a) (pos b)) ∙ same
  where
    go : (o : Ordering) → is_true (from_truth (Some (is_eq o))) ≡ is_eq o
    go Less = refl
    go Equal = refl
    go Greater = refl

    same : is_eq (int_cmp (pos a) (pos b)) ≡ eqb a b
    same = grind (arith, ints, nat_tests)

-- ---- an action of a foreign key that deletes

-- the rowids are those of the rows that pass
pub record Picks (p : Row → Bool) (rows : List Row) (ids : List ℤ) : Type 0 where
  pub sound : (id : ℤ) → Has ids id → (r : Row) × Has rows r × (p r ≡ true) × (rowid r ≡ Int id)
  pub complete : (r : Row) (id : ℤ) → Has rows r → p r ≡ true → rowid r ≡ Int id → Has ids id

picked_is : (p : Row → Bool) (rows : List Row) (ids : List ℤ) → IsShaped shape.Table rows → Picks p rows ids → (r : Row) → Has rows r → list_any (λ id. has_rowid id r) ids ≡ p r
picked_is p rows ids numbered h r there = elim (cases_Bool (p r)) [
  | inl is ↦ some_from (λ id. has_rowid id r) ids (id_of r) (h.complete r (id_of r) there is (id_is r (all_has Numbered rows r numbered.1 there))) (own_id r (all_has Numbered rows r numbered.1 there)) ∙ sym is
  | inr isnt ↦ elim (cases_Bool (list_any (λ id. has_rowid id r) ids)) [
    | inl some ↦
        let id = some_has (λ k. has_rowid k r) ids some in
        let s = h.sound id.0 id.1 in
        let same_id : id.0 ≡ id_of s.0 = sym (ap id_in s.3) in
        let one = row_at_is rows id.0 r numbered.0 there id.2 in
        let two = row_at_is rows id.0 s.0 numbered.0 s.1 (subst (λ k. has_rowid k s.0 ≡ true) (sym same_id) (own_id s.0 (all_has Numbered rows s.0 numbered.1 s.1))) in
        some ∙ sym s.2 ∙ ap p (sym two ∙ one)
    | inr none ↦ none ∙ sym isnt
  ]
]

pub left_by_picks : (p : Row → Bool) (rows : List Row) (ids : List ℤ) → IsShaped shape.Table rows → Picks p rows ids → without_all rows ids ≡ filter (λ r. not (p r)) rows
left_by_picks p rows ids numbered h = without_all_is ids rows ∙ filter_same_on _ _ rows (λ r there. ap not (picked_is p rows ids numbered h r there))
