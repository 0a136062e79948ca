-- The entry of a tree in sqlite_schema.
use Rattle.std.proofs.Common.{◌≡◌, ◌≢◌, ℕ, Bool, true, false, not, ◌||◌, List, [], ◌∷◌, ◌++◌, map, None, Some, refl, sym, ap, subst, ◌∙◌, inl, inr, Ordering, Less, Equal, Greater, is_eq}
use Rattle.std.specs.Char.{to_ascii_lowercase}
use Rattle.std.specs.List.{list_any}
use Rattle.std.proofs.lemmas.Bool.{cases_Bool, and_parts, and_from, true≢false}
use Rattle.std.proofs.lemmas.List.Folds.{list_any-append}
use Rattle.std.proofs.lemmas.Map.Lookups.{exact_bytes}
use Rattle.std.proofs.lemmas.Slice.Eq.{bytes_eq-Decides}
use Rattle.sqlite_value.specs.declared.value.Value.{Value}
use Rattle.sqlite_value.specs.declared.value.Value.TheVariants.{Null, Int, Real, Text, Blob}
use Rattle.sqlite_value.specs.Order.{Row, column, bytes, value_cmp}
use Rattle.sqlite_value.proofs.OrderLemmas.{value_cmp-Text, value_cmp-apart}
use Rattle.sqlite_trees.specs.Sound.{is_word, same_name, Head, head_at, may_follow, are_in_order}
use Rattle.sqlite_store.specs.declared.catalog.Wanted.{Wanted}
use Rattle.sqlite_store.specs.Catalog.{describes, page_number, root_in}
use Rattle.page_rows.specs.Roots.{names_tree, root_in_list}

-- entries of which none is the tree's, and then others
pub root_behind : (kind name : List ℕ) (front rest : List Row) → root_in_list kind name front ≡ None → root_in_list kind name (front ++ rest) ≡ root_in_list kind name rest
root_behind kind name [] rest none = refl
root_behind kind name (entry ∷ front) rest none = elim (cases_Bool (names_tree kind name entry)) [
  | inl here ↦ absurd (let e = rw here at none in cc)
  | inr other ↦ rw other (root_behind kind name front rest (rw other at none))
]

-- entries of which one is, and then others
pub root_before : (kind name : List ℕ) (front rest : List Row) (page : ℕ) → root_in_list kind name front ≡ Some page → root_in_list kind name (front ++ rest) ≡ Some page
root_before kind name [] rest page found = absurd (cc)
root_before kind name (entry ∷ front) rest page found = elim (cases_Bool (names_tree kind name entry)) [
  | inl here ↦ rw here (rw here at found)
  | inr other ↦ rw other (root_before kind name front rest page (rw other at found))
]

-- behind entries of other tables, the entry states the root
pub found_next : (kind name : List ℕ) (rows : List Row) (entry : Row) → root_in_list kind name rows ≡ None → names_tree kind name entry ≡ true
    → root_in_list kind name (rows ++ entry ∷ []) ≡ Some (page_number (column entry 4))
found_next kind name rows entry none here = root_behind kind name rows (entry ∷ []) none ∙ rw here refl

-- or is that of another, too
pub other_next : (kind name : List ℕ) (rows : List Row) (entry : Row) → root_in_list kind name rows ≡ None → names_tree kind name entry ≡ false
    → root_in_list kind name (rows ++ entry ∷ []) ≡ None
other_next kind name rows entry none other = root_behind kind name rows (entry ∷ []) none ∙ rw other refl

is_equal : (o : Ordering) → is_eq o ≡ true → o ≡ Equal
is_equal Less h = absurd (cc)
is_equal Equal h = refl
is_equal Greater h = absurd (cc)

pub word_is : (word : List ℕ) (value : Value) → is_word word value ≡ true → value ≡ Text word
word_is word Null h = absurd (let e = rw (value_cmp-apart Null (Text word) (λ e. cc)) at h in cc)
word_is word (Int n) h = absurd (let e = rw (value_cmp-apart (Int n) (Text word) (λ e. cc)) at h in cc)
word_is word (Real x) h = absurd (let e = rw (value_cmp-apart (Real x) (Text word) (λ e. cc)) at h in cc)
word_is word (Text t) h = ap Text (exact_bytes t word (is_equal _ (rw (value_cmp-Text t word) at h)))
word_is word (Blob b) h = absurd (let e = rw (value_cmp-apart (Blob b) (Text word) (λ e. cc)) at h in cc)

same_itself : (name : List ℕ) → same_name name name ≡ true
unfolding same_name
same_itself name = (bytes_eq-Decides (map to_ascii_lowercase name) (map to_ascii_lowercase name)).1 refl

module _ (w : Wanted) (kind name : List ℕ) (of_kind : column w.row 0 ≡ Text kind) (named : column w.row 1 ≡ Text name) where
  -- an entry that describes the tree has its name
  described_named : (entry : Row) → describes w entry ≡ true → names_tree kind name entry ≡ true
  unfolding describes
  described_named entry h =
      let four = (and_parts _ _ h).0 in
      let three = (and_parts _ _ four).0 in
      let two = (and_parts _ _ three) in
      let one = (and_parts _ _ two.0).1 in
      and_from _ _ (subst (λ v. is_eq (value_cmp (column entry 1) v) ≡ true) of_kind one) (subst (λ v. is_eq (value_cmp (column entry 2) v) ≡ true) named two.1)

  -- behind an entry of this name there is none that describes the tree
  none_behind : (entries : List Row) (earlier : List Head) → are_in_order earlier (map (head_at 1) entries) ≡ true
      → list_any (λ e. same_name (bytes e.1) name) earlier ≡ true → root_in entries w ≡ 0
  unfolding may_follow
  none_behind [] earlier order before = refl
  none_behind (entry ∷ entries) earlier order before =
      let parts = and_parts (may_follow earlier (head_at 1 entry)) _ order in
      elim (cases_Bool (describes w entry)) [
        | inl here ↦
            let is : column entry 2 ≡ Text name = word_is name (column entry 2) (and_parts _ _ (described_named entry here)).1 in
            let fresh = (and_parts _ _ parts.0).0 in
            let again = subst (λ v. not (list_any (λ e. same_name (bytes e.1) (bytes v)) earlier) ≡ true) is fresh in
            absurd (true≢false (sym again ∙ ap not before))
        | inr other ↦ rw other (none_behind entries (earlier ++ head_at 1 entry ∷ []) parts.1
            (list_any-append (λ e. same_name (bytes e.1) name) earlier (head_at 1 entry ∷ []) ∙ rw before refl))
      ]

  -- so the first entry of this name states the tree's root
  pub named_root : (entries : List Row) (earlier : List Head) → are_in_order earlier (map (head_at 1) entries) ≡ true → root_in entries w ≢ 0
      → root_in_list kind name entries ≡ Some (root_in entries w)
  named_root [] earlier order some = absurd (some refl)
  named_root (entry ∷ entries) earlier order some =
      let parts = and_parts (may_follow earlier (head_at 1 entry)) _ order in
      elim (cases_Bool (describes w entry)) [
        | inl here ↦ rw (here, described_named entry here) refl
        | inr other ↦
            let later = rw other at some in
            elim (cases_Bool (names_tree kind name entry)) [
              | inl clash ↦
                  let is : column entry 2 ≡ Text name = word_is name (column entry 2) (and_parts _ _ clash).1 in
                  let seen : same_name (bytes (column entry 2)) name ≡ true = subst (λ v. same_name (bytes v) name ≡ true) (sym is) (same_itself name) in
                  absurd (later (none_behind entries (earlier ++ head_at 1 entry ∷ []) parts.1
                  (list_any-append (λ e. same_name (bytes e.1) name) earlier (head_at 1 entry ∷ []) ∙ before_or _ _ seen)))
              | inr apart ↦ rw (other, apart) (named_root entries (earlier ++ head_at 1 entry ∷ []) parts.1 later)
            ]
      ]
    where
      before_or : (a b : Bool) → b ≡ true → (a || (b || false)) ≡ true
      before_or true b h = refl
      before_or false b h = rw h refl
