-- Where sorted keys do not rise, two lines have one key.
use Rattle.std.proofs.Common.{◌≡◌, ◌≢◌, ℕ, zero, suc, ◌+◌, ◌<◌, ◌≤◌, pos, nat_eq, Bool, true, false, if◌then◌else◌, List, [], ◌∷◌, ◌++◌, get_or, length, map, sum_by, take, IsPermutation, Ordering, Less, Equal, Greater, is_eq, is_lt, true≢false, refl, sym, ap, ap₂, subst, ◌∙◌, inl, inr, arith, eq-eqb, ne_eqb, lt-ltb, eqb-true}
use Rattle.std.specs.List.{AllByRecursion, range_with_len}
use Rattle.std.specs.Ordering.{ordering_reverse, ordering_then}
use Rattle.std.proofs.lemmas.Bool.Decides.{leb_tells}
use Rattle.std.proofs.lemmas.Cmp.{tied_itself}
use Rattle.std.proofs.lemmas.List.{get_or-map, length-map}
use Rattle.std.proofs.lemmas.List.FromFn.{get_or-range_with_len, length-range_with_len}
use Rattle.std.proofs.lemmas.List.Sorted.{sum_by-IsPermutation}
use Rattle.std.proofs.lemmas.List.Sums.{sum_by-cons, sum_by-drop_more, sum_by-take-drop}
use Rattle.plain_tables.specs.Lists.{IsAscending}
use Rattle.sqlite_sql.specs.Catalog.{entry_of}
use Rattle.sqlite_trees.proofs.ListLemmas.{map-map}
use Rattle.sqlite_value.specs.declared.value.Value.{Value}
use Rattle.sqlite_value.specs.declared.value.Value.TheVariants.{Int, Null}
use Rattle.sqlite_value.specs.Order.{Row, column, row_cmp}
use Rattle.sqlite_value.proofs.OrderLemmas.{row_cmp_total, value_cmp_total}
use Rattle.page_places.specs.Keys.{HeadsDiffer, same_head}
use Rattle.line_fills.specs.Causes.{CanEnter}
use Rattle.line_fills.specs.Rows.{IsTied, SortsByRank, key_at, numbered, rank_at, row_at}
use Rattle.line_fills.proofs.Numbers.{numbered_at_places}
use Rattle.line_fills.proofs.Parts.{places_within}
use Rattle.line_fills.proofs.Sorted.{head_is}

-- ---- no number comes twice among the places

abbrev one_if : Bool → ℕ
one_if b = if b then 1 else 0

abbrev is_it : ℕ → ℕ → ℕ
is_it p x = one_if (nat_eq x p)

none_below : (p a n : ℕ) → p < a → sum_by (is_it p) (range_with_len a n) ≡ 0
none_below p a zero low = refl
none_below p a (suc n) low =
    omega (arith, sum_by-cons (is_it p) a (range_with_len (a + 1) n), none_below p (a + 1) n (omega (arith, low)), ap one_if (ne_eqb a p (λ same. omega (arith, low, same))))

once : (p a n : ℕ) → sum_by (is_it p) (range_with_len a n) ≤ 1
once p a zero = omega arith
once p a (suc n) = step (nat_eq a p) refl (once p (a + 1) n)
  where
    step : (b : Bool) → nat_eq a p ≡ b → sum_by (is_it p) (range_with_len (a + 1) n) ≤ 1 → sum_by (is_it p) (range_with_len a (suc n)) ≤ 1
    step true e more = let same : a ≡ p = eqb-true a p e in omega (arith, sum_by-cons (is_it p) a (range_with_len (a + 1) n), none_below p (a + 1) n (omega (arith, same)), ap one_if e)
    step false e more = omega (arith, sum_by-cons (is_it p) a (range_with_len (a + 1) n), more, ap one_if e)

neighbours_differ : (n : ℕ) (places : List ℕ) → IsPermutation (range_with_len 0 n) places → (i : ℕ) → suc i < length places → get_or places i 0 ≢ get_or places (suc i) 0
neighbours_differ n places order i low same =
    let p = get_or places i 0 in
    let f = is_it p in
    let here : f (get_or places i 0) ≡ 1 = ap one_if (eq-eqb p p refl) in
    let next : f (get_or places (i + 1) 0) ≡ 1 = ap one_if (eq-eqb (get_or places (i + 1) 0) p (ap (λ k. get_or places k 0) (omega arith) ∙ sym same)) in
    omega (
      arith,
      once p 0 n,
      sum_by-IsPermutation f (range_with_len 0 n) places order,
      sum_by-take-drop f places i,
      sum_by-drop_more f places i 0 (omega (arith, low)),
      sum_by-drop_more f places (i + 1) 0 (omega (arith, low)),
      here,
      next,
    )

-- ---- keys

pub nulls_aside : (a b : Row) → row_cmp (Null ∷ a) (Null ∷ b) ≡ row_cmp a b
nulls_aside a b = ap (λ o. ordering_then o (row_cmp a b)) (tied_itself value_cmp_total Null)

any_rowid : (v w : Value) (line : Row) (columns : List ℕ) → AllByRecursion (λ at. 1 ≤ at) columns → map (column (v ∷ line)) columns ≡ map (column (w ∷ line)) columns
any_rowid v w line [] all = refl
any_rowid v w line (zero ∷ columns) all = absurd (omega (arith, all.0))
any_rowid v w line (suc at ∷ columns) all = ap (λ l. column line at ∷ l) (any_rowid v w line columns all.1)

rank_is : (columns : List ℕ) (first : ℕ) (lines : List Row) (place : ℕ) → AllByRecursion (λ at. 1 ≤ at) columns → place < length lines → rank_at columns lines place ≡ Null ∷ key_at columns first lines place
rank_is columns first lines place of_columns low =
    ap (λ b. if b then Null ∷ map (column (Int (pos 0) ∷ get_or lines place [])) columns else []) (lt-ltb place (length lines) low)
    ∙ ap (λ l. Null ∷ l) (any_rowid (Int (pos 0)) (Int (pos (first + place))) (get_or lines place []) columns of_columns)

tie : (o r : Ordering) → r ≡ ordering_reverse o → o ≢ Less → is_lt r ≡ false → o ≡ Equal
tie Less r back up down = absurd (up refl)
tie Equal r back up down = refl
tie Greater r back up down = absurd (true≢false (sym (ap is_lt back) ∙ down))

number_at : (n k : ℕ) → k < n → get_or (range_with_len 0 n) k 0 ≡ k
number_at n k low = omega (arith, get_or-range_with_len 0 n k 0 low)

pub whole : {X : Type 0} (n : ℕ) (xs ys : List X) → n ≡ length xs → take n (xs ++ ys) ≡ xs
whole zero [] ys is = refl
whole zero (x ∷ xs) ys is = absurd (omega arith)
whole (suc n) [] ys is = absurd (omega arith)
whole (suc n) (x ∷ xs) ys is = ap (λ l. x ∷ l) (whole n xs ys (omega arith))

-- the rank of the place of a line
pub rank_of_line : {X : Type 0} (f : X → Row) (columns : List ℕ) (lines : List X) (place : ℕ) (x : X) → place < length lines → x ≡ get_or lines place x
    → rank_at columns (map f lines) place ≡ Null ∷ map (column (Int (pos 0) ∷ f x)) columns
rank_of_line f columns lines place x low is =
    ap (λ b. if b then Null ∷ map (column (Int (pos 0) ∷ get_or (map f lines) place [])) columns else []) (lt-ltb place (length (map f lines)) (omega (arith, low, length-map lines f)))
    ∙ ap (λ (l : Row). Null ∷ map (column (Int (pos 0) ∷ l)) columns) (get_or-map f lines place x [] low ∙ ap f (sym is))

-- ---- each of a list against each later one

all_at : (P : Row → Type 0) (xs : List Row) (j : ℕ) → AllByRecursion P xs → j < length xs → P (get_or xs j [])
all_at P [] j all low = absurd (omega (arith, low))
all_at P (x ∷ xs) zero all low = all.0
all_at P (x ∷ xs) (suc j) all low = all_at P xs j all.1 (omega (arith, low))

pair_at : (R : Row → Row → Type 0) (xs : List Row) (i j : ℕ) → IsAscending R xs → i < j → j < length xs → R (get_or xs i []) (get_or xs j [])
pair_at R [] i j up below low = absurd (omega (arith, low))
pair_at R (x ∷ xs) i zero up below low = absurd (omega (arith, below))
pair_at R (x ∷ xs) zero (suc j) up below low = all_at (R x) xs j up.0 (omega (arith, low))
pair_at R (x ∷ xs) (suc i) (suc j) up below low = pair_at R xs i j up.1 (omega (arith, below)) (omega (arith, low))

module _ (columns : List ℕ) (first : ℕ) (lines : List Row) where
  abbrev entry : ℕ → Row
  entry place = entry_of columns (row_at first lines place)

  entries_are : map (entry_of columns) (numbered first lines) ≡ map entry (range_with_len 0 (length lines))
  entries_are = ap (map (entry_of columns)) (sym (numbered_at_places first lines)) ∙ map-map (entry_of columns) (row_at first lines) (range_with_len 0 (length lines))

  apart : (p q : ℕ) → HeadsDiffer (length columns) (map (entry_of columns) (numbered first lines)) → p < q → q < length lines → row_cmp (key_at columns first lines p) (key_at columns first lines q) ≡ Equal → ⊥
  apart p q differ below low same =
      let n = length lines in
      let rows = range_with_len 0 n in
      let count = length-range_with_len 0 n in
      let at : (k : ℕ) → k < n → get_or (map entry rows) k [] ≡ entry k = λ k inside.
      get_or-map entry rows k 0 [] (omega (arith, inside, count)) ∙ ap entry (number_at n k inside) in
      let up = subst (HeadsDiffer (length columns)) entries_are differ in
      let pair = pair_at (λ a b. same_head (length columns) a b ≡ false) (map entry rows) p q up below (omega (arith, low, count, length-map rows entry)) in
      let told : is_eq (row_cmp (key_at columns first lines p) (key_at columns first lines q)) ≡ false =
      ap is_eq (ap₂ row_cmp (sym (head_is columns first lines p)) (sym (head_is columns first lines q))) ∙ sym (ap₂ (same_head (length columns)) (at p (omega (arith, below, low))) (at q low)) ∙ pair in
      true≢false (sym (ap is_eq same) ∙ told)

  -- places of lines in order, of which one key is not below the next: then the lines have no entries of different keys
  pub tied_never : (places : List ℕ) → IsPermutation (range_with_len 0 (length lines)) places → SortsByRank columns lines places → IsTied columns first lines places
      → CanEnter columns (numbered first lines) → ⊥
  tied_never places order sorted (i, low, up) can =
      let p = get_or places i 0 in
      let q = get_or places (suc i) 0 in
      let within = places_within lines places order in
      let p_low = within i 0 (omega (arith, low)) in
      let q_low = within (suc i) 0 low in
      let next : i + 1 ≡ suc i = omega arith in
      let down : is_lt (row_cmp (rank_at columns lines q) (rank_at columns lines p)) ≡ false = subst (λ k. is_lt (row_cmp (rank_at columns lines (get_or places k 0)) (rank_at columns lines p)) ≡ false) next (sorted i 0 (omega arith) (omega (arith, low))) in
      let key = key_at columns first lines in
      let keys : row_cmp (rank_at columns lines q) (rank_at columns lines p) ≡ row_cmp (key q) (key p) =
      ap₂ row_cmp (rank_is columns first lines q can.of_columns q_low) (rank_is columns first lines p can.of_columns p_low) ∙ nulls_aside (key q) (key p) in
      let same : row_cmp (key p) (key q) ≡ Equal = tie (row_cmp (key p) (key q)) (row_cmp (key q) (key p)) (row_cmp_total.antisymm (key q) (key p)) up (sym (ap is_lt keys) ∙ down) in
      let back : row_cmp (key q) (key p) ≡ Equal = row_cmp_total.antisymm (key q) (key p) ∙ ap ordering_reverse same in
      let differ = neighbours_differ (length lines) places order i low in
      elim (leb_tells q p) [
        | inl above ↦ apart q p can.apart (omega (arith, above.1, differ)) p_low back
        | inr below ↦ apart p q can.apart below.1 q_low same
      ]
