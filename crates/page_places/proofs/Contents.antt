-- What a table holds once rows stand behind the others, some are taken out, or some are replaced.
use Rattle.std.proofs.Common.{◌≡◌, ℕ, List, [], ◌∷◌, ◌++◌, map, drop, filter, slice_get, is_some, Bool, true, false, cond, if◌then◌else◌, Some, refl, sym, ap, ap₂, subst, inl, inr, ◌∙◌}
use Rattle.std.specs.List.{AllByRecursion}
use Rattle.sqlite_value.specs.declared.value.Value.TheVariants.{Int}
use Rattle.sqlite_value.specs.Order.{Row}
use Rattle.sqlite_trees.specs.Tree.{Trees}
use Rattle.sqlite_trees.specs.View.{IsShaped}
use Rattle.sqlite_trees.specs.declared.store.Shape.TheVariants as shape
use Rattle.sqlite_schema.specs.declared.schema.Schema.{Schema}
use Rattle.sqlite_schema.specs.declared.schema.Table.{Table}
use Rattle.sqlite_rules.specs.Lists.{Has}
use Rattle.sqlite_rules.proofs.ListLemmas.{all_from}
use Rattle.sqlite_catalog.specs.Listing.{IsSound}
use Rattle.sql_tables.specs.Contents.{IsContent, Contain, rows_that_count, stands_alone, with_content}
use Rattle.sql_tables.proofs.Contents.{content_changed}
use Rattle.sql_tables.proofs.Deletes.{row_of}
use Rattle.sql_tables.proofs.Rows.{Numbered, id_of, id_is}
use Rattle.page_places.specs.TableChanges.{OnlyChanges}

-- the tables hold what they held, but for the one that changed
pub contain_changed : (schema : Schema) (contents : List (List Row)) (db next : Trees) (at : ℕ) (table : Table) (new : List Row) → slice_get schema.tables at ≡ Some table → stands_alone table.tree at schema.tables ≡ true
    → OnlyChanges schema db next table → IsSound schema next → IsContent table new (next table.tree) → Contain schema contents db → Contain schema (with_content at new contents) next
contain_changed schema contents db next at table new there alone only sound is was =
    record { sound = sound; contents_are = content_changed schema.tables contents db next at table new there alone (all_from _ schema.tables only.others) is was.contents_are }

-- ---- rows beside the lines that they hold

abbrev pub Lined : {X : Type 0} → Table → (X → Row) → List Row → List X → Type 0
Lined table columns [] [] = Unit {0}
Lined table columns [] (x ∷ xs) = ⊥
Lined table columns (r ∷ rows) [] = ⊥
Lined table columns (r ∷ rows) (x ∷ xs) = (r ≡ row_of table columns (Int (id_of r)) x) × Lined table columns rows xs

module _ {X : Type 0} (table : Table) (columns : X → Row) where
  -- rows that count as these columns
  pub lined : (rows : List Row) (xs : List X) → AllByRecursion Numbered rows → rows_that_count table rows ≡ map columns xs → Lined table columns rows xs
  lined rows xs numbered same = go (is_some table.key) rows xs numbered same refl
    where
      go : (b : Bool) (all : List Row) (ys : List X) → AllByRecursion Numbered all → (if b then all else map (drop 1) all) ≡ map columns ys → is_some table.key ≡ b → Lined table columns all ys
      go true [] [] h e is = tt
      go true [] (y ∷ ys) h e is = absurd (let bad : ◌≡◌ {A = List Row} [] (columns y ∷ map columns ys) = e in cc)
      go true (r ∷ all) [] h e is = absurd (let bad : ◌≡◌ {A = List Row} (r ∷ all) [] = e in cc)
      go true (r ∷ all) (y ∷ ys) h e is =
          let first : r ≡ columns y = cc in
          let rest : all ≡ map columns ys = cc in
          (first ∙ sym (ap (λ b. if b then columns y else Int (id_of r) ∷ columns y) is), go true all ys h.1 rest is)
      go false [] [] h e is = tt
      go false [] (y ∷ ys) h e is = absurd (let bad : ◌≡◌ {A = List Row} [] (columns y ∷ map columns ys) = e in cc)
      go false (r ∷ all) [] h e is = absurd (let bad : ◌≡◌ {A = List Row} (drop 1 r ∷ map (drop 1) all) [] = e in cc)
      go false ([] ∷ all) (y ∷ ys) h e is = absurd (let bad : false ≡ true = h.0 in cc)
      go false ((id ∷ cs) ∷ all) (y ∷ ys) h e is =
          let first : cs ≡ columns y = cc in
          let rest : map (drop 1) all ≡ map columns ys = cc in
          (ap₂ (λ v l. v ∷ l) (id_is (id ∷ cs) h.0) first ∙ sym (ap (λ b. if b then columns y else Int (id_of (id ∷ cs)) ∷ columns y) is), go false all ys h.1 rest is)

  pub content_of : (rows : List Row) (xs : List X) → IsShaped shape.Table rows → Lined table columns rows xs → IsContent table (map columns xs) rows
  content_of rows xs shaped h = record { numbered = shaped; rows_are = go (is_some table.key) rows xs h refl }
    where
      go : (b : Bool) (all : List Row) (ys : List X) → Lined table columns all ys → is_some table.key ≡ b → (if b then all else map (drop 1) all) ≡ map columns ys
      go true [] [] l is = refl
      go true [] (y ∷ ys) l is = absurd l
      go true (r ∷ all) [] l is = absurd l
      go true (r ∷ all) (y ∷ ys) l is = ap₂ ◌∷◌ (l.0 ∙ ap (λ b. if b then columns y else Int (id_of r) ∷ columns y) is) (go true all ys l.1 is)
      go false [] [] l is = refl
      go false [] (y ∷ ys) l is = absurd l
      go false (r ∷ all) [] l is = absurd l
      go false (r ∷ all) (y ∷ ys) l is = ap₂ ◌∷◌ (ap (drop 1) (l.0 ∙ ap (λ b. if b then columns y else Int (id_of r) ∷ columns y) is)) (go false all ys l.1 is)

  pub lined_content : (rows : List Row) (xs : List X) → IsContent table (map columns xs) rows → Lined table columns rows xs
  lined_content rows xs h = lined rows xs h.numbered.1 h.rows_are

  -- a row is that of a line, and a line has a row
  pub line_of : (rows : List Row) (xs : List X) → Lined table columns rows xs → (r : Row) → Has rows r → (x : X) × Has xs x × (r ≡ row_of table columns (Int (id_of r)) x)
  line_of [] [] l r there = absurd there
  line_of [] (x ∷ xs) l r there = absurd l
  line_of (q ∷ rows) [] l r there = absurd l
  line_of (q ∷ rows) (x ∷ xs) l r (inl same) = (x, inl refl, subst (λ s. s ≡ row_of table columns (Int (id_of s)) x) (sym same) l.0)
  line_of (q ∷ rows) (x ∷ xs) l r (inr later) = let it = line_of rows xs l.1 r later in (it.0, inr it.1, it.2)

  pub row_of_line : (rows : List Row) (xs : List X) → Lined table columns rows xs → (x : X) → Has xs x → (r : Row) × Has rows r × (r ≡ row_of table columns (Int (id_of r)) x)
  row_of_line [] [] l x there = absurd there
  row_of_line [] (y ∷ xs) l x there = absurd l
  row_of_line (q ∷ rows) [] l x there = absurd there
  row_of_line (q ∷ rows) (y ∷ xs) l x (inl same) = (q, inl refl, l.0 ∙ ap (row_of table columns (Int (id_of q))) (sym same))
  row_of_line (q ∷ rows) (y ∷ xs) l x (inr later) = let it = row_of_line rows xs l.1 x later in (it.0, inr it.1, it.2)

  pub lined_append : (rows news : List Row) (xs ys : List X) → Lined table columns rows xs → Lined table columns news ys → Lined table columns (rows ++ news) (xs ++ ys)
  lined_append [] news [] ys l m = m
  lined_append [] news (x ∷ xs) ys l m = absurd l
  lined_append (r ∷ rows) news [] ys l m = absurd l
  lined_append (r ∷ rows) news (x ∷ xs) ys l m = (l.0, lined_append rows news xs ys l.1 m)

  pub lined_filter : (keep : Row → Bool) (kept : X → Bool) (rows : List Row) (xs : List X) → ((r : Row) (x : X) → Has rows r → r ≡ row_of table columns (Int (id_of r)) x → keep r ≡ kept x) → Lined table columns rows xs
      → Lined table columns (filter keep rows) (filter kept xs)
  lined_filter keep kept [] [] same l = tt
  lined_filter keep kept [] (x ∷ xs) same l = absurd l
  lined_filter keep kept (r ∷ rows) [] same l = absurd l
  lined_filter keep kept (r ∷ rows) (x ∷ xs) same l = go (keep r) (kept x) (same r x (inl refl) l.0) (lined_filter keep kept rows xs (λ q y there. same q y (inr there)) l.1)
    where
      go : (b c : Bool) → b ≡ c → Lined table columns (filter keep rows) (filter kept xs) → Lined table columns (cond b (r ∷ filter keep rows) (filter keep rows)) (cond c (x ∷ filter kept xs) (filter kept xs))
      go true true e more = (l.0, more)
      go false false e more = more
      go true false e more = absurd cc
      go false true e more = absurd cc

  pub lined_map : (turn : Row → Row) (f : X → X) (rows : List Row) (xs : List X) → ((r : Row) (x : X) → Has rows r → r ≡ row_of table columns (Int (id_of r)) x → turn r ≡ row_of table columns (Int (id_of (turn r))) (f x))
      → Lined table columns rows xs → Lined table columns (map turn rows) (map f xs)
  lined_map turn f [] [] same l = tt
  lined_map turn f [] (x ∷ xs) same l = absurd l
  lined_map turn f (r ∷ rows) [] same l = absurd l
  lined_map turn f (r ∷ rows) (x ∷ xs) same l = (same r x (inl refl) l.0, lined_map turn f rows xs (λ q y there. same q y (inr there)) l.1)
