-- Trees that no two tables or indexes share.
use Rattle.std.proofs.Common.{◌≡◌, ◌≢◌, ◌==◌, ℕ, Bool, true, false, not, List, [], ◌∷◌, ◌++◌, map, filter, cond, sym, ap, subst, ◌∙◌, inl, inr}
use Rattle.std.specs.List.{list_any}
use Rattle.std.proofs.lemmas.Bool.{and_parts, both_ways, eqb-true, eq-eqb, not-true}
use Rattle.sqlite_rules.specs.Lists.{Has}
use Rattle.sqlite_rules.proofs.ListLemmas.{all_from, all_has, has_filtered, has_right, some_from, some_has, test_has}
use Rattle.sqlite_schema.specs.declared.schema.Index.{Index}
use Rattle.sqlite_schema.specs.declared.schema.Schema.{Schema}
use Rattle.sqlite_schema.specs.declared.schema.Table.{Table}
use Rattle.sqlite_trees.specs.Tree.{IsAscending}
use Rattle.page_places.specs.Places.{all_apart, indexes_of, IsSpaced}

has_map : {X : Type 0} (f : X → ℕ) (xs : List X) (x : X) → Has xs x → Has (map f xs) (f x)
has_map f [] x h = absurd h
has_map f (y ∷ xs) x (inl same) = inl (ap f same)
has_map f (y ∷ xs) x (inr later) = inr (has_map f xs x later)

absent : (n m : ℕ) (ns : List ℕ) → not (list_any (λ k. k == n) ns) ≡ true → Has ns m → n ≢ m
absent n m ns none there same = both_ways _ (not-true _ none) (some_from (λ k. k == n) ns m there (eq-eqb m n (sym same)))

-- numbers of two parts differ
parts_apart : (ns ms : List ℕ) (n m : ℕ) → all_apart (ns ++ ms) ≡ true → Has ns n → Has ms m → n ≢ m
parts_apart [] ms n m apart there_n there_m = absurd there_n
parts_apart (k ∷ ns) ms n m apart (inl same) there_m = subst (λ x. x ≢ m) (sym same) (absent k m (ns ++ ms) (and_parts _ _ apart).0 (has_right ns ms m there_m))
parts_apart (k ∷ ns) ms n m apart (inr later) there_m = parts_apart ns ms n m (and_parts _ _ apart).1 later there_m

last_apart : (ns ms : List ℕ) → all_apart (ns ++ ms) ≡ true → all_apart ms ≡ true
last_apart [] ms apart = apart
last_apart (n ∷ ns) ms apart = last_apart ns ms (and_parts _ _ apart).1

-- what has the number of another is that other
one_of : (xs : List Index) (a b : Index) → all_apart (map (λ (i : Index). i.tree) xs) ≡ true → Has xs a → Has xs b → a.tree ≡ b.tree → a ≡ b
one_of [] a b apart there_a there_b same = absurd there_a
one_of (x ∷ xs) a b apart (inl is_a) (inl is_b) same = is_a ∙ sym is_b
one_of (x ∷ xs) a b apart (inl is_a) (inr in_b) same = absurd (absent x.tree b.tree (map (λ (i : Index). i.tree) xs) (and_parts _ _ apart).0 (has_map (λ (i : Index). i.tree) xs b in_b) (sym (ap (λ (i : Index). i.tree) is_a) ∙ same))
one_of (x ∷ xs) a b apart (inr in_a) (inl is_b) same = absurd (absent x.tree a.tree (map (λ (i : Index). i.tree) xs) (and_parts _ _ apart).0 (has_map (λ (i : Index). i.tree) xs a in_a) (sym (ap (λ (i : Index). i.tree) is_b) ∙ sym same))
one_of (x ∷ xs) a b apart (inr in_a) (inr in_b) same = one_of xs a b (and_parts _ _ apart).1 in_a in_b same

ascends : (xs : List Index) → all_apart (map (λ (i : Index). i.tree) xs) ≡ true → IsAscending (λ (i j : Index). i.tree ≢ j.tree) xs
ascends [] apart = tt
ascends (x ∷ xs) apart = (all_from (λ (j : Index). x.tree ≢ j.tree) xs (λ j there. absent x.tree j.tree (map (λ (i : Index). i.tree) xs) (and_parts _ _ apart).0 (has_map (λ (i : Index). i.tree) xs j there)), ascends xs (and_parts _ _ apart).1)

filter_ascends : (R : Index → Index → Type 0) (p : Index → Bool) (xs : List Index) → IsAscending R xs → IsAscending R (filter p xs)
filter_ascends R p [] up = tt
filter_ascends R p (x ∷ xs) up = go (p x) (filter_ascends R p xs up.1)
  where
    go : (b : Bool) → IsAscending R (filter p xs) → IsAscending R (cond b (x ∷ filter p xs) (filter p xs))
    go true rest = (all_from (R x) (filter p xs) (λ y there. all_has (R x) xs y up.0 (has_filtered p xs y there).0), rest)
    go false rest = rest

module _ (schema : Schema) (spaced : IsSpaced schema) where
  -- a table's tree is not an index's
  pub table_apart : (t : Table) (i : Index) → Has schema.tables t → Has schema.indexes i → t.tree ≢ i.tree
  table_apart t i there_t there_i =
      parts_apart (map (λ (x : Table). x.tree) schema.tables) (map (λ (x : Index). x.tree) schema.indexes) t.tree i.tree spaced.apart (has_map (λ (x : Table). x.tree) schema.tables t there_t) (has_map (λ (x : Index). x.tree) schema.indexes i there_i)

  -- nor that of the table of an index
  pub its_table_apart : (i j : Index) → Has schema.indexes i → Has schema.indexes j → i.table ≢ j.tree
  its_table_apart i j there_i there_j =
      let t = some_has (λ (x : Table). x.tree == i.table) schema.tables (test_has (λ (x : Index). list_any (λ (y : Table). y.tree == x.table) schema.tables) schema.indexes i spaced.of_tables there_i) in
      subst (λ n. n ≢ j.tree) (eqb-true t.0.tree i.table t.2) (table_apart t.0 j t.1 there_j)

  pub same_index : (i j : Index) → Has schema.indexes i → Has schema.indexes j → i.tree ≡ j.tree → i ≡ j
  same_index i j there_i there_j same =
      one_of schema.indexes i j (last_apart (map (λ (x : Table). x.tree) schema.tables) (map (λ (x : Index). x.tree) schema.indexes) spaced.apart) there_i there_j same

  pub indexes_apart : (table : Table) → IsAscending (λ (i j : Index). i.tree ≢ j.tree) (indexes_of schema table)
  indexes_apart table =
      filter_ascends (λ (i j : Index). i.tree ≢ j.tree) (λ (i : Index). i.table == table.tree) schema.indexes
      (ascends schema.indexes (last_apart (map (λ (x : Table). x.tree) schema.tables) (map (λ (x : Index). x.tree) schema.indexes) spaced.apart))
