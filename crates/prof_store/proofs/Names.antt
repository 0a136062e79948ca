-- The table tells names apart, and a query finds the number of one.
use Rattle.std.proofs.Common.{◌≡◌, ◌^◌, ◌+◌, inl, inr, ℕ, ℤ, List, [], ◌∷◌, map, pos, Bool, true, false, not, ◌&&◌, bytes_eq, None, Some, refl, sym, ap, ap₂, subst, ◌∙◌, arith, int_cmp, if◌then◌else◌}
use Rattle.std.proofs.lemmas.Bool.{and_parts}
use Rattle.std.proofs.lemmas.Int.{ints}
use Rattle.std.proofs.lemmas.Slice.Eq.{bytes_eq-Decides}
use Rattle.std.specs.List.{AllZip}
use Rattle.std.specs.declared.cmp.Ordering.{Ordering}
use Rattle.std.specs.declared.cmp.Ordering.TheVariants.{Less, Equal, Greater}
use Rattle.std.specs.Ordering.{is_ne}
use Rattle.sqlite_value.specs.declared.value.Value.TheVariants.{Int, Blob}
use Rattle.sqlite_value.specs.Order.{Row, value_cmp, column}
use Rattle.sqlite_value.specs.Keys.{first_key, plain}
use Rattle.sqlite_value.proofs.OrderLemmas.{value_cmp-Int}
use Rattle.sqlite_trees.specs.Tree.{Trees}
use Rattle.sqlite_sql.specs.Ops.{binary, is_true, from_truth}
use Rattle.sqlite_sql.specs.declared.ops.BinaryOp.TheVariants.{Compare}
use Rattle.sqlite_sql.specs.declared.ops.CompareOp.TheVariants.{Eq}
use Rattle.sqlite_value.specs.declared.keys.Collation.TheVariants.{Binary}
use Rattle.sqlite_catalog.specs.Listing.{IsSound}
use Rattle.sqlite_schema.specs.declared.schema.Constraint.TheVariants.{Unique}
use Rattle.sqlite_schema.specs.Rules.{passes as obeys, clashes, differ, agree}
use Rattle.sqlite_rules.specs.Lists.{Has}
use Rattle.sqlite_rules.proofs.ListLemmas.{all_has, some_from}
use Rattle.sqlite_tied.proofs.RuleLemmas.{and_true}
use Rattle.prof_store.specs.Schema.{schema_two, name_at}
use Rattle.plain_tables.specs.Tables.{Tables, NameRow}
use Rattle.prof_store.specs.Names.{SaysName, SayNames, number_if_held, number_read}
use Rattle.prof_store.specs.Tables.{name_columns}
use Rattle.plain_tables.specs.Changes.{has_name}
use Rattle.plain_tables.specs.Files.{number_in}
use Rattle.prof_store.proofs.Values.{blobs_equal}

-- ---- rows and lines, one beside another

-- names that stand in their rows are said by them
pub names_say : (names : List NameRow) → SayNames (map name_columns names) names
names_say names = record { far = λ n. 2 ^ 64 + n; is_far = λ n. omega arith; said = all names }
  where
    all : (names : List NameRow) → AllZip (SaysName (λ n. 2 ^ 64 + n)) (map name_columns names) names
    all [] = tt
    all (line ∷ names) = (record { id = pos line.number; has_id = refl; number_is = refl; has_bytes = refl }, all names)

module _ (far : ℕ → ℕ) where
  -- each line has its row
  pub row_of_name : (rows : List Row) (names : List NameRow) → AllZip (SaysName far) rows names → (line : NameRow) → Has names line → (row : Row) × Has rows row × SaysName far row line
  row_of_name [] [] all line there = absurd there
  row_of_name [] (first ∷ names) all line there = absurd all
  row_of_name (row ∷ rows) [] all line there = absurd all
  row_of_name (row ∷ rows) (first ∷ names) all line (inl same) = (row, inl refl, subst (SaysName far row) (sym same) all.0)
  row_of_name (row ∷ rows) (first ∷ names) all line (inr later) = let it = row_of_name rows names all.1 line later in (it.0, inr it.1, it.2)

  -- and each row its line
  pub name_of_row : (rows : List Row) (names : List NameRow) → AllZip (SaysName far) rows names → (row : Row) → Has rows row → (line : NameRow) × Has names line × SaysName far row line
  name_of_row [] [] all row there = absurd there
  name_of_row [] (line ∷ names) all row there = absurd all
  name_of_row (first ∷ rows) [] all row there = absurd all
  name_of_row (first ∷ rows) (line ∷ names) all row (inl same) = (line, inl refl, subst (λ r. SaysName far r line) (sym same) all.0)
  name_of_row (first ∷ rows) (line ∷ names) all row (inr later) = let it = name_of_row rows names all.1 row later in (it.0, inr it.1, it.2)

-- ---- names are told apart

-- SQL's <> on two numbers
numbers_differ : (a b : ℤ) → differ (Int a) (Int b) ≡ is_ne (int_cmp a b)
unfolding binary
numbers_differ a b = go (value_cmp (Int a) (Int b)) ∙ ap is_ne (value_cmp-Int a b)
  where
    go : (o : Ordering) → is_true (from_truth (Some (is_ne o))) ≡ is_ne o
    go Less = refl
    go Equal = refl
    go Greater = refl

one_id : (a b : ℤ) → is_ne (int_cmp a b) ≡ false → a ≡ b
one_id a b same = grind (arith, ints)

-- no row has the bytes of another
unclashed : (db : Trees) (row : Row) → obeys Unique schema_two db name_at row ≡ true → not (clashes plain (2 ∷ []) (db 11) row) ≡ true
unclashed db row h = (and_parts _ _ h).0

-- rows of one name agree
agrees : (r s : Row) (name : List ℕ) → column r 2 ≡ Blob name → column s 2 ≡ Blob name → agree plain (2 ∷ []) r (2 ∷ []) s ≡ true
unfolding first_key
agrees r s name is_r is_s = and_true _ ∙ ap₂ (λ x y. is_true (binary (Compare Eq Binary) x y)) is_r is_s ∙ blobs_equal name name ∙ (bytes_eq-Decides name name).1 refl

-- lines of one name have one number
pub same_number : (t : Tables) (db : Trees) → IsSound schema_two db → SayNames (db 11) t.names → (a b : NameRow) → Has t.names a → Has t.names b → a.name ≡ b.name → a.number ≡ b.number
same_number t db sound are a b has_a has_b same =
    let (r, has_r, r_says) = row_of_name are.far (db 11) t.names are.said a has_a in
    let (s, has_s, s_says) = row_of_name are.far (db 11) t.names are.said b has_b in
    let alone = unclashed db s (all_has _ (db 11) s (sound.obeys.rules Unique).1.1.1.1.1.0 has_s) in
    let here = agrees r s b.name (r_says.has_bytes ∙ ap Blob same) s_says.has_bytes in
    sym r_says.number_is ∙ ap (number_read are.far) (one_id r_says.id s_says.id (go r s r_says.id s_says.id has_r r_says.has_id s_says.has_id here alone (is_ne (int_cmp r_says.id s_says.id)) refl)) ∙ s_says.number_is
  where
    go : (r s : Row) (x y : ℤ) → Has (db 11) r → column r 0 ≡ Int x → column s 0 ≡ Int y → agree plain (2 ∷ []) r (2 ∷ []) s ≡ true → not (clashes plain (2 ∷ []) (db 11) s) ≡ true
        → (c : Bool) → is_ne (int_cmp x y) ≡ c → is_ne (int_cmp x y) ≡ false
    go r s x y there is_x is_y here alone false e = e
    go r s x y there is_x is_y here alone true e =
        let clash : agree plain (2 ∷ []) r (2 ∷ []) s && differ (column r 0) (column s 0) ≡ true = ap₂ ◌&&◌ here (ap₂ differ is_x is_y ∙ numbers_differ x y ∙ e) in
        let found : clashes plain (2 ∷ []) (db 11) s ≡ true = some_from _ (db 11) r there clash in
        absurd (let bad : false ≡ true = sym (ap not found) ∙ alone in cc)

-- a line's number is its name's, where lines of that name have one number
number_of_line : (lines : List NameRow) (name : List ℕ) (line : NameRow) → ((a : NameRow) → Has lines a → bytes_eq a.name name ≡ true → a.number ≡ line.number) → Has lines line → bytes_eq line.name name ≡ true → number_in lines name ≡ line.number
number_of_line [] name line one there is = absurd there
number_of_line (first ∷ lines) name line one there is = go (bytes_eq first.name name) refl there (λ later. number_of_line lines name line (λ a h. one a (inr h)) later is)
  where
    go : (b : Bool) → bytes_eq first.name name ≡ b → Has (first ∷ lines) line → (Has lines line → number_in lines name ≡ line.number) → (if b then first.number else number_in lines name) ≡ line.number
    go true e h more = one first (inl refl) e
    go false e (inl same) more = absurd (let bad : false ≡ true = sym e ∙ ap (λ (l : NameRow). bytes_eq l.name name) (sym same) ∙ is in cc)
    go false e (inr later) more = more later

-- the name of a line is held, and has the line's number, whatever stands in the other tables of a sound database
pub line_named : (t : Tables) (db : Trees) → IsSound schema_two db → SayNames (db 11) t.names → (line : NameRow) → Has t.names line → (has_name t line.name ≡ true) × (number_in t.names line.name ≡ line.number)
line_named t db sound are line there =
    let itself = (bytes_eq-Decides line.name line.name).1 refl in
    (some_from _ t.names line there itself, number_of_line t.names line.name line (λ a h e. same_number t db sound are a line h there ((bytes_eq-Decides a.name line.name).0 e)) there itself)

-- ---- the number of a name, if it is held

-- a name that is not held
pub not_held : (t : Tables) (name : List ℕ) → None ≡ number_if_held t name → has_name t name ≡ false
not_held t name h = go (has_name t name) h
  where
    go : (b : Bool) → None ≡ (if b then Some (number_in t.names name) else None) → b ≡ false
    go false e = refl
    go true e = cc

-- and one that is
pub is_held : (t : Tables) (name : List ℕ) (n : ℕ) → Some n ≡ number_if_held t name → (has_name t name ≡ true) × (n ≡ number_in t.names name)
is_held t name n h = go (has_name t name) h
  where
    go : (b : Bool) → Some n ≡ (if b then Some (number_in t.names name) else None) → (b ≡ true) × (n ≡ number_in t.names name)
    go true e = (refl, cc)
    go false e = cc
