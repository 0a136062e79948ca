-- The entries of new rows go among those of an index, and each of these stays.
use Rattle.std.proofs.Common.{◌≡◌, ℕ, zero, suc, List, [], ◌∷◌, ◌++◌, length, map, take, true, false, is_eq, IsTrue, IsPermutation, Ordering, Less, Equal, Greater, true≢false, refl, sym, ap, ap₂, subst, ◌∙◌, append-nil}
use Rattle.std.specs.List.{AllByRecursion}
use Rattle.std.specs.Ordering.{ordering_then}
use Rattle.std.proofs.lemmas.Bool.{both_ways, false_from_ne_true}
use Rattle.std.proofs.lemmas.List.Sorted.{IsPermutation-append_left, IsPermutation-middle, IsPermutation-refl, IsPermutation-trans}
use Rattle.plain_tables.specs.Lists.{IsAscending}
use Rattle.sqlite_value.specs.declared.value.Value.{Value}
use Rattle.sqlite_value.specs.declared.value.Value.TheVariants.{Null, Int, Real, Text, Blob}
use Rattle.sqlite_value.specs.Keys.{entry_cmp, plain}
use Rattle.sqlite_value.specs.Order.{Row, class, row_cmp, value_cmp}
use Rattle.sqlite_value.proofs.KeyLemmas.{entry_cmp-plain, then_tied}
use Rattle.sqlite_trees.specs.Tree.{IsTable, insert_entry, rowid}
use Rattle.sqlite_trees.specs.View.{IsShaped, is_int}
use Rattle.sqlite_trees.specs.declared.store.Shape.TheVariants as shape
use Rattle.sqlite_trees.proofs.ListLemmas.{all-permutation}
use Rattle.sqlite_sql.specs.Catalog.{entry_of, IsIndexOf}
use Rattle.page_files.specs.Places.{place_all}
use Rattle.page_places.specs.Fills.{Fills}
use Rattle.page_places.specs.Keys.{HeadsDiffer, same_head}
use Rattle.page_places.proofs.Entries.{insert_entry_same, rowid_of_entry}
use Rattle.line_fills.specs.Placed.{AreEntriesOf}

-- ---- lists of which each element of one differs from each of the other

-- the order of an index does not call the entries equal
abbrev Differ : Row → Row → Type 0
Differ a b = is_eq (entry_cmp plain a b) ≡ false

abbrev AllDiffer : List Row → List Row → Type 0
AllDiffer olds news = AllByRecursion (λ a. AllByRecursion (Differ a) news) olds

pub each : {X : Type 0} (P Q : X → Type 0) → ((x : X) → P x → Q x) → (xs : List X) → AllByRecursion P xs → AllByRecursion Q xs
each P Q so [] all = tt
each P Q so (x ∷ xs) all = (so x all.0, each P Q so xs all.1)

all_mapped : {X : Type 0} (f : X → Row) (P : Row → Type 0) (xs : List X) → AllByRecursion (λ x. P (f x)) xs → AllByRecursion P (map f xs)
all_mapped f P [] all = tt
all_mapped f P (x ∷ xs) all = (all.0, all_mapped f P xs all.1)

last_all : {X : Type 0} (P : X → Type 0) (xs ys : List X) → AllByRecursion P (xs ++ ys) → AllByRecursion P ys
last_all P [] ys all = all
last_all P (x ∷ xs) ys all = last_all P xs ys all.1

-- ---- placed one after another

placed_among : (olds news : List Row) → AllDiffer olds news → IsAscending Differ news → IsPermutation (olds ++ news) (place_all (insert_entry plain) news olds)
placed_among olds [] apart among = subst (λ l. IsPermutation l olds) (sym (append-nil olds)) (IsPermutation-refl olds)
placed_among olds (e ∷ news) apart among =
    let more = insert_entry plain e olds in
    let one : IsPermutation (e ∷ olds) more = insert_entry_same plain e olds (each (λ a. AllByRecursion (Differ a) (e ∷ news)) (λ a. Differ a e) (λ a all. all.0) olds apart) in
    let rest : AllDiffer more news = all-permutation (λ a. AllByRecursion (Differ a) news) (e ∷ olds) more one
    (among.0, each (λ a. AllByRecursion (Differ a) (e ∷ news)) (λ a. AllByRecursion (Differ a) news) (λ a all. all.1) olds apart) in
    IsPermutation-trans _ _ _ (IsPermutation-middle olds e news) (IsPermutation-trans _ _ _ (IsPermutation-append_left news (e ∷ olds) more one) (placed_among more news rest among.1))

-- ---- entries of different keys

heads_equal : (count : ℕ) (a b : Row) → row_cmp a b ≡ Equal → row_cmp (take count a) (take count b) ≡ Equal
heads_equal zero a b e = refl
heads_equal (suc n) [] [] e = refl
heads_equal (suc n) [] (y ∷ b) e = absurd cc
heads_equal (suc n) (x ∷ a) [] e = absurd cc
heads_equal (suc n) (x ∷ a) (y ∷ b) e = let t = then_tied (value_cmp x y) (row_cmp a b) e in ap₂ ordering_then t.0 (heads_equal n a b t.1)

equal : (o : Ordering) → is_eq o ≡ true → o ≡ Equal
equal Less h = absurd (true≢false (sym h))
equal Equal h = refl
equal Greater h = absurd (true≢false (sym h))

differ_from_heads : (count : ℕ) (a b : Row) → same_head count a b ≡ false → Differ a b
differ_from_heads count a b apart = false_from_ne_true _ (λ same.
    both_ways _ apart (ap is_eq (heads_equal count a b (sym (entry_cmp-plain a b) ∙ equal (entry_cmp plain a b) same))))

differ_among : (count : ℕ) (entries : List Row) → HeadsDiffer count entries → IsAscending Differ entries
differ_among count [] h = tt
differ_among count (e ∷ entries) h = (each (λ b. same_head count e b ≡ false) (Differ e) (differ_from_heads count e) entries h.0, differ_among count entries h.1)

-- ---- entries of rows with different rowids

of_number : (v : Value) → IsTrue (is_int v) → class v ≡ 1
of_number Null h = absurd cc
of_number (Int n) h = refl
of_number (Real x) h = absurd cc
of_number (Text t) h = absurd cc
of_number (Blob b) h = absurd cc

differ_from_rowids : (columns : List ℕ) (old new : Row) → IsTrue (is_int (rowid new)) → value_cmp (rowid old) (rowid new) ≡ Less → Differ (entry_of columns old) (entry_of columns new)
differ_from_rowids columns old new number below = false_from_ne_true _ (λ same.
    both_ways _ (ap is_eq below) (rowid_of_entry plain columns old new (of_number (rowid new) number) same))

module _ (columns : List ℕ) (news : List Row) where
  from_one : (old : Row) (rows : List Row) → AllByRecursion (λ r. value_cmp (rowid old) (rowid r) ≡ Less) rows → AllByRecursion (λ r. IsTrue (is_int (rowid r))) rows
      → AllByRecursion (λ r. Differ (entry_of columns old) (entry_of columns r)) rows
  from_one old [] below numbers = tt
  from_one old (r ∷ rows) below numbers = (differ_from_rowids columns old r numbers.0 below.0, from_one old rows below.1 numbers.1)

  from_all : (olds : List Row) → IsTable (olds ++ news) → AllByRecursion (λ r. IsTrue (is_int (rowid r))) news → AllDiffer (map (entry_of columns) olds) (map (entry_of columns) news)
  from_all [] up numbers = tt
  from_all (old ∷ olds) up numbers =
      (all_mapped (entry_of columns) (Differ (entry_of columns old)) news (from_one old news (last_all (λ r. value_cmp (rowid old) (rowid r) ≡ Less) olds news up.0) numbers), from_all olds up.1 numbers)

  module _ (olds entries : List Row) (shaped : IsShaped shape.Table (olds ++ news)) (are : AreEntriesOf columns news entries) where
    -- the entries of rows that stand behind the others are filled in
    pub entered : (there : List Row) → IsIndexOf columns olds there → Fills columns (length columns) news there (place_all (insert_entry plain) entries there)
    entered there indexed =
        let numbers = last_all (λ r. IsTrue (is_int (rowid r))) olds news shaped.1 in
        let rows = from_all olds shaped.0 numbers in
        let of_entries : AllDiffer (map (entry_of columns) olds) entries =
        each _ (λ a. AllByRecursion (Differ a) entries) (λ a all. all-permutation (Differ a) (map (entry_of columns) news) entries are.are_of all) (map (entry_of columns) olds) rows in
        let apart : AllDiffer there entries = all-permutation (λ a. AllByRecursion (Differ a) entries) (map (entry_of columns) olds) there indexed of_entries in
        record { entries = entries; are_of = are.are_of; differ = are.differ; placed = placed_among there entries apart (differ_among (length columns) entries are.differ) }
