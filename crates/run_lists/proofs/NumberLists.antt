-- Numbers of runs, and what a search among those that are sorted finds.
use Rattle.std.proofs.Common.{◌≡◌, ◌<◌, ◌+◌, ◌++◌, ◌&&◌, ◌||◌, ◌==◌, take, append-nil, ℕ, Bool, true, false, if◌then◌else◌, List, [], ◌∷◌, map, filter, length, get_or, Result, Ok, Err, bytes_eq, string_bytes, IsPermutation, inl, inr, refl, sym, ap, ap₂, ◌∙◌, arith}
use Rattle.std.specs.List.{list_any}
use Rattle.std.specs.List.Sorted.{IsBinarySearchResult, IsNonDecreasing}
use Rattle.std.specs.Ordering.{nat_cmp}
use Rattle.std.specs.Result.{is_ok}
use Rattle.std.proofs.lemmas.Bool.{cases_lt, eq-eqb, ne_eqb}
use Rattle.std.proofs.lemmas.List.{get_or_default, map_push, take_more}
use Rattle.std.proofs.lemmas.List.Elements.{filter-append}
use Rattle.std.proofs.lemmas.List.Folds.{list_any_at, list_any_none}
use Rattle.std.proofs.lemmas.List.Sorted.{list_any-IsPermutation, searched}
use Rattle.plain_tables.specs.Changes.{is_member}
use Rattle.plain_tables.specs.Tables.{MemberRow}
use Rattle.run_lists.specs.Listed.{member_row}
use Rattle.run_lists.specs.declared.listed.ListedMember.{ListedMember}
use Rattle.run_lists.proofs.Rows.{any_row}

-- a binary search finds a number just where it is there
pub search_any : (xs : List ℕ) (n : ℕ) (r : Result ℕ ℕ) → IsNonDecreasing xs → IsBinarySearchResult (λ y. nat_cmp y n) xs r → is_ok r ≡ list_any (λ m. m == n) xs
search_any xs n (Ok i) up found =
    let at = searched xs n (Ok i) found (λ i j. up i j 0) in
    sym (list_any_at (λ m. m == n) xs i 0 at.0 (eq-eqb (get_or xs i 0) n at.1))
search_any xs n (Err i) up found =
    let at = searched xs n (Err i) found (λ i j. up i j 0) in
    sym (list_any_none (λ m. m == n) xs (λ k d low.
    let here : get_or xs k d ≡ get_or xs k 0 = get_or_default xs k d 0 low in
    ne_eqb (get_or xs k d) n (λ same. elim (cases_lt k i) [
      | inl before ↦ let less = at.1 k before in omega (arith, less, here, same)
      | inr after ↦ let more = at.2 k after low in omega (arith, more, here, same)
    ])))

-- a run is among those of a group's members just where it is a member of the group
abbrev of_group : List ℕ → ListedMember → Bool
of_group name m = bytes_eq (string_bytes m.group) name

any_run : (name : List ℕ) (n : ℕ) (xs : List ListedMember) → list_any (λ m. m == n) (map (λ (m : ListedMember). m.run) (filter (of_group name) xs)) ≡ list_any (λ (m : ListedMember). is_member name n (member_row m)) xs
any_run name n [] = refl
any_run name n (m ∷ xs) = go (of_group name m) (any_run name n xs)
  where
    go : (b : Bool) → list_any (λ k. k == n) (map (λ (x : ListedMember). x.run) (filter (of_group name) xs)) ≡ list_any (λ (x : ListedMember). is_member name n (member_row x)) xs
        → list_any (λ k. k == n) (map (λ (x : ListedMember). x.run) (if b then m ∷ filter (of_group name) xs else filter (of_group name) xs)) ≡ ((b && (m.run == n)) || list_any (λ (x : ListedMember). is_member name n (member_row x)) xs)
    go true rest = ap (λ l. (m.run == n) || l) rest
    go false rest = rest

pub member_found : (name : List ℕ) (n : ℕ) (xs : List ListedMember) (lines : List MemberRow) (sorted : List ℕ) → map member_row xs ≡ lines → IsPermutation (map (λ (m : ListedMember). m.run) (filter (of_group name) xs)) sorted
    → list_any (λ m. m == n) sorted ≡ list_any (is_member name n) lines
member_found name n xs lines sorted was moved =
    sym (list_any-IsPermutation (λ m. m == n) (map (λ (m : ListedMember). m.run) (filter (of_group name) xs)) sorted moved)
    ∙ any_run name n xs ∙ any_row member_row (is_member name n) xs ∙ ap (list_any (is_member name n)) was

-- tests that say the same keep the same
pub filter_same : {X : Type 0} (p q : X → Bool) (xs : List X) → ((x : X) → p x ≡ q x) → filter p xs ≡ filter q xs
filter_same p q [] same = refl
filter_same p q (x ∷ xs) same = ap₂ (λ b l. if b then x ∷ l else l) (same x) (filter_same p q xs same)

-- ---- numbers that are read one after another

-- one more is read
module _ {X : Type 0} (p : ℕ → Bool) (number : X → ℕ) (xs : List X) (at : ℕ) (x : X) (low : at < length xs) (is : x ≡ get_or xs at x) where
  next : filter p (map number (take (at + 1) xs)) ≡ filter p (map number (take at xs)) ++ (if p (number x) then number x ∷ [] else [])
  next =
      ap (λ l. filter p (map number l)) (take_more xs at x low ∙ ap (λ y. take at xs ++ y ∷ []) (sym is))
      ∙ ap (filter p) (map_push number (take at xs) x) ∙ filter-append p (map number (take at xs)) (number x ∷ [])

  pub number_kept : (numbers : List ℕ) → p (number x) ≡ true → numbers ≡ filter p (map number (take at xs)) → numbers ++ number x ∷ [] ≡ filter p (map number (take (at + 1) xs))
  number_kept numbers passes was = ap (λ l. l ++ number x ∷ []) was ∙ sym (next ∙ ap (λ b. filter p (map number (take at xs)) ++ (if b then number x ∷ [] else [])) passes)

  pub number_left : (numbers : List ℕ) → p (number x) ≡ false → numbers ≡ filter p (map number (take at xs)) → numbers ≡ filter p (map number (take (at + 1) xs))
  number_left numbers fails was = was ∙ sym (next ∙ ap (λ b. filter p (map number (take at xs)) ++ (if b then number x ∷ [] else [])) fails ∙ append-nil _)
