-- Rows that are numbered one after another.
use Rattle.std.proofs.Common.{◌≡◌, ℕ, zero, suc, ◌+◌, ◌<◌, pos, List, [], ◌∷◌, ◌++◌, drop, get_or, length, map, take, int_cmp, Less, refl, sym, ap, ap₂, subst₂, ◌∙◌, arith, append_assoc, length-append}
use Rattle.std.specs.List.{AllByRecursion, range_with_len}
use Rattle.std.proofs.lemmas.List.{get_or-map, length-take-le, take_more}
use Rattle.std.proofs.Math.Seq.{get_or-append_seam}
use Rattle.std.proofs.lemmas.Int.{ints}
use Rattle.sqlite_rules.specs.Edit.{next_rowid}
use Rattle.sqlite_trees.specs.Tree.{IsTable, rowid}
use Rattle.sqlite_value.specs.declared.value.Value.{Value}
use Rattle.sqlite_value.specs.declared.value.Value.TheVariants.{Int}
use Rattle.sqlite_value.specs.Order.{Row, value_cmp}
use Rattle.sqlite_value.proofs.OrderLemmas.{value_cmp-Int, value_cmp_total}
use Rattle.line_fills.specs.Rows.{first_from, numbered, row_at, rows_behind}

pub numbered-append : (first : ℕ) (front back : List Row) → numbered first (front ++ back) ≡ numbered first front ++ numbered (first + length front) back
numbered-append first [] back = let same : first ≡ first + 0 = omega arith in ap (λ n. numbered n back) same
numbered-append first (x ∷ front) back =
    let same : suc first + length front ≡ first + suc (length front) = omega arith in
    ap (λ l. (Int (pos first) ∷ x) ∷ l) (numbered-append (suc first) front back ∙ ap (λ n. numbered (suc first) front ++ numbered n back) same)

-- and one more
pub numbered-more : (first : ℕ) (lines : List Row) (at : ℕ) → at < length lines → numbered first (take (at + 1) lines) ≡ numbered first (take at lines) ++ row_at first lines at ∷ []
numbered-more first lines at low =
    ap (numbered first) (take_more lines at [] low) ∙ numbered-append first (take at lines) (get_or lines at [] ∷ [])
    ∙ ap (λ n. numbered first (take at lines) ++ (Int (pos (first + n)) ∷ get_or lines at []) ∷ []) (length-take-le at lines (omega (arith, low)))

-- each at its place
pub numbered_at_places : (first : ℕ) (lines : List Row) → map (row_at first lines) (range_with_len 0 (length lines)) ≡ numbered first lines
numbered_at_places first lines = let same : first + 0 ≡ first = omega arith in from [] lines ∙ ap (λ n. numbered n lines) same
  where
    from : (front back : List Row) → map (row_at first (front ++ back)) (range_with_len (length front) (length back)) ≡ numbered (first + length front) back
    from front [] = refl
    from front (x ∷ back) =
        let one : length (front ++ x ∷ []) ≡ length front + 1 = length-append front (x ∷ []) in
        let next : first + length (front ++ x ∷ []) ≡ suc (first + length front) = omega (arith, one) in
        ap₂ (λ c l. (Int (pos (first + length front)) ∷ c) ∷ l) (get_or-append_seam front x back [])
        (subst₂ (λ l n. map (row_at first l) (range_with_len n (length back)) ≡ numbered (first + length (front ++ x ∷ [])) back) (append_assoc front (x ∷ []) back) one (from (front ++ x ∷ []) back)
        ∙ ap (λ n. numbered n back) next)

-- the row of a line
pub row_of_line : {X : Type 0} (columns : X → Row) (first : ℕ) (lines : List X) (place : ℕ) (x : X) → place < length lines → x ≡ get_or lines place x
    → Int (pos (first + place)) ∷ columns x ≡ row_at first (map columns lines) place
row_of_line columns first lines place x low is = ap (λ (l : Row). Int (pos (first + place)) ∷ l) (ap columns is ∙ sym (get_or-map columns lines place x [] low))

-- the places so far, and the next
range-more : (a n : ℕ) → range_with_len a (suc n) ≡ range_with_len a n ++ (a + n) ∷ []
range-more a zero = let same : a ≡ a + 0 = omega arith in ap (λ k. k ∷ []) same
range-more a (suc n) = let same : a + 1 + n ≡ a + suc n = omega arith in ap (λ l. a ∷ l) (range-more (a + 1) n ∙ ap (λ k. range_with_len (a + 1) n ++ k ∷ []) same)

pub places_more : (at : ℕ) (places : List ℕ) → places ≡ range_with_len 0 at → places ++ at ∷ [] ≡ range_with_len 0 (at + 1)
places_more at places are =
    let next : suc at ≡ at + 1 = omega arith in
    let here : at ≡ 0 + at = omega arith in
    ap₂ (λ l k. l ++ k ∷ []) are here ∙ sym (range-more 0 at) ∙ ap (range_with_len 0) next

-- ---- they rise

int_less : (n : ℕ) → int_cmp (pos n) (pos (suc n)) ≡ Less
int_less n = grind (arith, ints)

less-suc : (n : ℕ) → value_cmp (Int (pos n)) (Int (pos (suc n))) ≡ Less
less-suc n = value_cmp-Int (pos n) (pos (suc n)) ∙ int_less n

above : (v : Value) (first : ℕ) (lines : List Row) → value_cmp v (Int (pos first)) ≡ Less → AllByRecursion (λ r. value_cmp v (rowid r) ≡ Less) (numbered first lines)
above v first [] low = tt
above v first (x ∷ lines) low = (low, above v (suc first) lines (value_cmp_total.trans v (Int (pos first)) (Int (pos (suc first))) low (less-suc first)))

numbered_rise : (first : ℕ) (lines : List Row) → IsTable (numbered first lines)
numbered_rise first [] = tt
numbered_rise first (x ∷ lines) = (above (Int (pos first)) (suc first) lines (less-suc first), numbered_rise (suc first) lines)

both : {X : Type 0} (P : X → Type 0) (xs ys : List X) → AllByRecursion P xs → AllByRecursion P ys → AllByRecursion P (xs ++ ys)
both P [] ys h k = k
both P (x ∷ xs) ys h k = (h.0, both P xs ys h.1 k)

-- behind rows that are below
pub rise_behind : (olds : List Row) (first : ℕ) (lines : List Row) → IsTable olds → AllByRecursion (λ r. value_cmp (rowid r) (Int (pos first)) ≡ Less) olds → IsTable (olds ++ numbered first lines)
rise_behind [] first lines up below = numbered_rise first lines
rise_behind (r ∷ olds) first lines up below =
    (both (λ q. value_cmp (rowid r) (rowid q) ≡ Less) olds (numbered first lines) up.0 (above (rowid r) first lines below.0), rise_behind olds first lines up.1 below.1)

-- without their rowids they are the lines
columns_numbered : (first : ℕ) (lines : List Row) → map (drop 1) (numbered first lines) ≡ lines
columns_numbered first [] = refl
columns_numbered first (x ∷ lines) = ap (λ l. x ∷ l) (columns_numbered (suc first) lines)

pub columns_behind : (olds lines : List Row) → map (drop 1) (rows_behind olds lines) ≡ lines
columns_behind olds lines = columns_numbered (first_from (next_rowid olds)) lines
