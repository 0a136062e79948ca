-- Rows that rise, and those whose rowids are among some numbers.
use Rattle.std.proofs.Common.{◌≡◌, ◌≤◌, ◌<◌, ◌+◌, ℕ, ℤ, pos, ◌<ℤ◌, ◌≤ℤ◌, true, false, IsTrue, List, [], ◌∷◌, ◌++◌, map, filter, take, drop, ◌-◌, IsPermutation, length, get_or, refl, sym, ap, ap₂, subst, ◌∙◌, inl, inr, arith, append_assoc, append-nil, ◌||◌, Bool, is_lt, int_eq, int_cmp, Less}
use Rattle.std.specs.List.{AllByRecursion}
use Rattle.std.specs.List.Sorted.{IsNonDecreasing}
use Rattle.std.proofs.lemmas.Bool.{cases_Bool, cases_lt}
use Rattle.std.proofs.lemmas.Int.{by_lt_z, ints}
use Rattle.std.proofs.lemmas.List.{get_or_default, get_or-drop, get_or-take, length-take, map-append}
use Rattle.std.proofs.Math.Seq.{take-add}
use Rattle.std.proofs.lemmas.List.Elements.{filter-append, filter_agree}
use Rattle.std.proofs.lemmas.List.Sorted.{list_any-IsPermutation}
use Rattle.std.proofs.lemmas.List.Folds.{list_any-append, list_any_at, list_any_none}
use Rattle.sqlite_disk.specs.declared.Disk.{Ghosts}
use Rattle.sqlite_value.specs.declared.value.Value.{Value}
use Rattle.sqlite_value.specs.declared.value.Value.TheVariants.{Null, Int, Real, Text, Blob}
use Rattle.sqlite_value.specs.Order.{Row, value_cmp}
use Rattle.sqlite_value.proofs.OrderLemmas.{value_cmp-Int}
use Rattle.sqlite_trees.specs.declared.store.Shape.TheVariants.{Table}
use Rattle.sqlite_trees.specs.Tree.{IsTable, rowid}
use Rattle.sqlite_trees.specs.View.{IsShaped, is_int}
use Rattle.page_files.specs.declared.files.PageFile.{PageFile}
use Rattle.page_files.specs.Trees.{trees_of}
use Rattle.sqlite_store.proofs.DbLemmas.{ordered}
use Rattle.page_rows.specs.Rows.{from_rowid}
use Rattle.page_lists.specs.Among.{HasTaken, IsPassedTo, Rise, id_of, integer, is_among}
use Rattle.page_lists.specs.Shown.{ShowsRows}

-- ---- the rows of a file

abbrev pub AreNumbered : List Row → Type 0
AreNumbered rows = AllByRecursion (λ row. IsTrue (is_int (rowid row))) rows

integer_is : (v : Value) → IsTrue (is_int v) → v ≡ Int (integer v)
integer_is Null int = absurd (let e : false ≡ true = int in cc)
integer_is (Int z) int = refl
integer_is (Real x) int = absurd (let e : false ≡ true = int in cc)
integer_is (Text t) int = absurd (let e : false ≡ true = int in cc)
integer_is (Blob b) int = absurd (let e : false ≡ true = int in cc)

below_of_less : (a b : ℤ) → int_cmp a b ≡ Less → a <ℤ b
below_of_less a b less = grind (arith, ints)

below_of : (a b : Row) → IsTrue (is_int (rowid a)) → IsTrue (is_int (rowid b)) → value_cmp (rowid a) (rowid b) ≡ Less → id_of a <ℤ id_of b
below_of a b first second less =
    below_of_less (id_of a) (id_of b) (sym (value_cmp-Int (id_of a) (id_of b)) ∙ ap₂ value_cmp (sym (integer_is (rowid a) first)) (sym (integer_is (rowid b) second)) ∙ less)

all_below : (row : Row) (rows : List Row) → IsTrue (is_int (rowid row)) → AreNumbered rows → AllByRecursion (λ other. value_cmp (rowid row) (rowid other) ≡ Less) rows
    → AllByRecursion (λ other. id_of row <ℤ id_of other) rows
all_below row [] int ints_are less = tt
all_below row (other ∷ rows) int ints_are less = (below_of row other int ints_are.0 less.0, all_below row rows int ints_are.1 less.1)

rise_of : (rows : List Row) → IsTable rows → AreNumbered rows → Rise rows
rise_of [] table numbered = tt
rise_of (row ∷ rows) table numbered = (all_below row rows numbered.0 numbered.1 table.0, rise_of rows table.1 numbered.1)

module _ {D : Type 0} {g : Ghosts D} (file : PageFile D g) (root : ℕ) (rows : List Row) (is : ShowsRows file root rows) where
  shaped : IsShaped Table rows
  shaped = subst (IsShaped Table) is.rows_are (subst (λ s. IsShaped s (trees_of is.wanted file is.t)) is.shows.rooted.shape (ordered is.shows.is_db is.t))

  pub shown_numbered : AreNumbered rows
  shown_numbered = shaped.1

  pub shown_rise : Rise rows
  shown_rise = rise_of rows shaped.0 shaped.1

-- ---- lists that rise

all_at : (P : Row → Type 0) (xs : List Row) (y : Row) (ys : List Row) → AllByRecursion P (xs ++ y ∷ ys) → P y
all_at P [] y ys all = all.0
all_at P (x ∷ xs) y ys all = all_at P xs y ys all.1

all_front : (P : Row → Type 0) (xs ys : List Row) → AllByRecursion P (xs ++ ys) → AllByRecursion P xs
all_front P [] ys all = tt
all_front P (x ∷ xs) ys all = (all.0, all_front P xs ys all.1)

pub rise_front : (xs ys : List Row) → Rise (xs ++ ys) → Rise xs
rise_front [] ys up = tt
rise_front (x ∷ xs) ys up = (all_front (λ b. id_of x <ℤ id_of b) xs ys up.0, rise_front xs ys up.1)

rise_behind : (xs ys : List Row) → Rise (xs ++ ys) → Rise ys
rise_behind [] ys up = up
rise_behind (x ∷ xs) ys up = rise_behind xs ys up.1

-- what stands before a row is below it
front_below : (xs : List Row) (y : Row) (ys : List Row) → Rise (xs ++ y ∷ ys) → AllByRecursion (λ x. id_of x <ℤ id_of y) xs
front_below [] y ys up = tt
front_below (x ∷ xs) y ys up = (all_at (λ b. id_of x <ℤ id_of b) xs y ys up.0, front_below xs y ys up.1)

none_kept : (p : Row → Bool) (rows : List Row) → AllByRecursion (λ row. p row ≡ false) rows → filter p rows ≡ []
none_kept p [] none = refl
none_kept p (row ∷ rows) none = rw none.0 (none_kept p rows none.1)

-- ---- rowids and numbers

other_below : (z : ℤ) (n : ℕ) → z <ℤ pos n → int_eq z (pos n) ≡ false
other_below z n low = grind (arith, ints)

other_above : (z : ℤ) (n : ℕ) → pos n <ℤ z → int_eq z (pos n) ≡ false
other_above z n high = grind (arith, ints)

same_number : (z : ℤ) (n : ℕ) → z ≡ pos n → int_eq z (pos n) ≡ true
same_number z n is = grind (arith, ints)

below_more : (z : ℤ) (m n : ℕ) → z <ℤ pos m → m ≤ n → z <ℤ pos n
below_more z m n low le = omega (arith, ints)

between : (a b c : ℤ) → a <ℤ b → b <ℤ c → a <ℤ c
between a b c first second = omega (arith, ints)

none_above : (numbers : List ℕ) (row : Row) → ((k : ℕ) → k < length numbers → id_of row <ℤ pos (get_or numbers k 0)) → is_among numbers row ≡ false
none_above numbers row above = list_any_none (λ n. int_eq (id_of row) (pos n)) numbers (λ k d low.
    subst (λ n. int_eq (id_of row) (pos n) ≡ false) (sym (get_or_default numbers k d 0 low)) (other_below (id_of row) (get_or numbers k 0) (above k low)))

none_below : (numbers : List ℕ) (row : Row) → ((k : ℕ) → k < length numbers → pos (get_or numbers k 0) <ℤ id_of row) → is_among numbers row ≡ false
none_below numbers row below = list_any_none (λ n. int_eq (id_of row) (pos n)) numbers (λ k d low.
    subst (λ n. int_eq (id_of row) (pos n) ≡ false) (sym (get_or_default numbers k d 0 low)) (other_above (id_of row) (get_or numbers k 0) (below k low)))

-- none of the numbers below a place reach the row, and the one there is behind it
pub not_among : (numbers : List ℕ) (at : ℕ) (row : Row) → IsNonDecreasing numbers → ((k : ℕ) → k < at → pos (get_or numbers k 0) <ℤ id_of row)
    → (at < length numbers → id_of row <ℤ pos (get_or numbers at 0)) → is_among numbers row ≡ false
not_among numbers at row up passed reached =
    list_any_none (λ n. int_eq (id_of row) (pos n)) numbers (λ k d low.
    subst (λ n. int_eq (id_of row) (pos n) ≡ false) (sym (get_or_default numbers k d 0 low)) (elim (cases_lt k at) [
      | inl before ↦ other_above (id_of row) (get_or numbers k 0) (passed k before)
      | inr behind ↦
          let rises : get_or numbers at 0 ≤ get_or numbers k 0 = up at k 0 behind low in
          other_below (id_of row) (get_or numbers k 0) (below_more (id_of row) (get_or numbers at 0) (get_or numbers k 0) (reached (omega (arith, behind, low))) rises)
    ]))

module _ {L : Type 0} (columns : L → Row) (seen : Row → Row) (numbers : List ℕ) (before : List Row) (up : IsNonDecreasing numbers) where
  module _ (rows : List Row) (row : Row) (at to : ℕ) (lines : List L) (rise : Rise (rows ++ row ∷ [])) (was : HasTaken columns seen numbers before rows at lines)
      (now : IsPassedTo numbers at (id_of row) to) where
    -- no number before the place reaches the row
    all_passed : (k : ℕ) → k < to → pos (get_or numbers k 0) <ℤ id_of row
    all_passed k low = elim (cases_lt k at) [
      | inl before ↦ was.past (id_of row) (front_below rows row [] rise) k before
      | inr behind ↦ now.passed k behind low
    ]

    past_row : (id : ℤ) → AllByRecursion (λ r. id_of r <ℤ id) (rows ++ row ∷ []) → (k : ℕ) → k < to → pos (get_or numbers k 0) <ℤ id
    past_row id below k low = between (pos (get_or numbers k 0)) (id_of row) id (all_passed k low) (all_at (λ r. id_of r <ℤ id) rows row [] below)

    -- the row is none of the numbers
    pub passed_by : (to < length numbers → id_of row <ℤ pos (get_or numbers to 0)) → HasTaken columns seen numbers before (rows ++ row ∷ []) to lines
    passed_by reached = record {
      within = now.within was.within;
      past = past_row;
      taken =
          let none : filter (is_among numbers) (row ∷ []) ≡ [] = rw (not_among numbers to row up all_passed reached) refl in
          was.taken ∙ ap (λ l. before ++ map seen l) (sym (filter-append (is_among numbers) rows (row ∷ []) ∙ ap (λ l. filter (is_among numbers) rows ++ l) none ∙ append-nil (filter (is_among numbers) rows)));
    }

    -- the row is the one of the number at the place
    pub met : (line : L) (more : List L) → to < length numbers → id_of row ≡ pos (get_or numbers to 0) → columns line ≡ seen row → more ≡ lines ++ line ∷ []
        → HasTaken columns seen numbers before (rows ++ row ∷ []) (to + 1) more
    met line more low same shown pushed = record {
      within = omega (arith, low);
      past = λ id below k until. elim (cases_lt k to) [
        | inl earlier ↦ past_row id below k earlier
        | inr later ↦
            let here : k ≡ to = omega (arith, later, until) in
            subst (λ j. pos (get_or numbers j 0) <ℤ id) (sym here) (subst (λ z. z <ℤ id) same (all_at (λ r. id_of r <ℤ id) rows row [] below))
      ];
      taken =
          let found : is_among numbers row ≡ true = list_any_at (λ n. int_eq (id_of row) (pos n)) numbers to 0 low (same_number (id_of row) (get_or numbers to 0) same) in
          let one : filter (is_among numbers) (row ∷ []) ≡ row ∷ [] = rw found refl in
          ap (map columns) pushed ∙ map-append columns lines (line ∷ []) ∙ ap₂ (λ a b. a ++ b ∷ []) was.taken shown ∙ append_assoc before (map seen (filter (is_among numbers) rows)) (seen row ∷ [])
          ∙ ap (λ l. before ++ l) (sym (map-append seen (filter (is_among numbers) rows) (row ∷ [])) ∙ ap (map seen) (ap (λ l. filter (is_among numbers) rows ++ l) (sym one) ∙ sym (filter-append (is_among numbers) rows (row ∷ []))));
    }

  -- behind rows that came past all numbers there is none of them
  pub taken_all : (front rest : List Row) (lines : List L) → Rise (front ++ rest) → HasTaken columns seen numbers before front (length numbers) lines
      → map columns lines ≡ before ++ map seen (filter (is_among numbers) (front ++ rest))
  taken_all front rest lines rise was =
      was.taken ∙ ap (λ l. before ++ map seen l) (sym (filter-append (is_among numbers) front rest ∙ ap (λ l. filter (is_among numbers) front ++ l) (none_kept (is_among numbers) rest (none_later front rest rise was))
      ∙ append-nil (filter (is_among numbers) front)))
    where
      none_later : (front rest : List Row) → Rise (front ++ rest) → HasTaken columns seen numbers before front (length numbers) lines → AllByRecursion (λ row. is_among numbers row ≡ false) rest
      none_later front [] rise was = tt
      none_later front (row ∷ rest) rise was =
          let below = front_below front row rest rise in (
            not_among numbers (length numbers) row up (was.past (id_of row) below) (λ low. absurd (omega (arith, low))),
            later rest (λ k low. was.past (id_of row) below k low) (rise_behind front (row ∷ rest) rise).0,
          )
        where
          later : (rest : List Row) → ((k : ℕ) → k < length numbers → pos (get_or numbers k 0) <ℤ id_of row) → AllByRecursion (λ r. id_of row <ℤ id_of r) rest → AllByRecursion (λ r. is_among numbers r ≡ false) rest
          later [] passed above = tt
          later (r ∷ rest) passed above =
              (not_among numbers (length numbers) r up (λ k low. between (pos (get_or numbers k 0)) (id_of row) (id_of r) (passed k low) above.0) (λ low. absurd (omega (arith, low))), later rest passed above.1)

-- ---- the rows of a walk

-- the rows from a rowid on are the last ones
cut_at : (from : ℤ) (rows : List Row) → (front : List Row) × (rows ≡ front ++ from_rowid from rows)
cut_at from [] = ([], refl)
cut_at from (row ∷ rows) = elim (cases_Bool (is_lt (value_cmp (rowid row) (Int from)))) [
  | inl low ↦ (let later = cut_at from rows in (row ∷ later.0, ap (λ l. row ∷ l) later.1 ∙ rw low refl))
  | inr high ↦ ([], rw high refl)
]

pub rise_from : (from : ℤ) (rows : List Row) → Rise rows → Rise (from_rowid from rows)
rise_from from rows rise = let (front, parts) = cut_at from rows in rise_behind front (from_rowid from rows) (subst Rise parts rise)

low_is : (z w : ℤ) → is_lt (int_cmp z w) ≡ true → z <ℤ w
low_is z w low = grind (arith, ints)

-- before the first of the numbers there is none of them
pub among_from : (numbers : List ℕ) (first : ℕ) (rows : List Row) → ((k : ℕ) → k < length numbers → first ≤ get_or numbers k 0) → AreNumbered rows
    → filter (is_among numbers) (from_rowid (pos first) rows) ≡ filter (is_among numbers) rows
among_from numbers first [] least numbered = refl
among_from numbers first (row ∷ rows) least numbered = elim (cases_Bool (is_lt (value_cmp (rowid row) (Int (pos first))))) [
  | inl low ↦
      let here : id_of row <ℤ pos first = low_is (id_of row) (pos first) (ap is_lt (sym (value_cmp-Int (id_of row) (pos first)) ∙ ap (λ v. value_cmp v (Int (pos first))) (sym (integer_is (rowid row) numbered.0))) ∙ low) in
      let none : is_among numbers row ≡ false = none_above numbers row (λ k inside. below_more (id_of row) first (get_or numbers k 0) here (least k inside)) in
      rw (low, none) (among_from numbers first rows least numbered.1)
  | inr high ↦ rw high refl
]

-- ---- numbers in two parts

module _ (xs ys : List ℕ) (bound : ℕ) (low : (k : ℕ) → k < length xs → get_or xs k 0 < bound) (high : (k : ℕ) → k < length ys → bound ≤ get_or ys k 0) where
  among_both : (row : Row) → is_among (xs ++ ys) row ≡ (is_among xs row || is_among ys row)
  among_both row = list_any-append (λ n. int_eq (id_of row) (pos n)) xs ys

  none_low : (row : Row) → pos bound ≤ℤ id_of row → is_among xs row ≡ false
  none_low row above = none_below xs row (λ k inside. let less = low k inside in omega (arith, ints, less))

  none_high : (row : Row) → id_of row <ℤ pos bound → is_among ys row ≡ false
  none_high row below = none_above ys row (λ k inside. below_more (id_of row) bound (get_or ys k 0) below (high k inside))

  none_behind : (row : Row) (rows : List Row) → pos bound ≤ℤ id_of row → AllByRecursion (λ r. id_of row <ℤ id_of r) rows → filter (is_among xs) rows ≡ []
  none_behind row [] above later = refl
  none_behind row (r ∷ rows) above later =
      let here : pos bound ≤ℤ id_of r = (let less = later.0 in omega (arith, ints, less, above)) in
      rw (none_low r here) (none_behind row rows above later.1)

  -- the rows of all of them are those of the low ones and then those of the others
  pub among_parts : (rows : List Row) → Rise rows → filter (is_among (xs ++ ys)) rows ≡ filter (is_among xs) rows ++ filter (is_among ys) rows
  among_parts [] rise = refl
  among_parts (row ∷ rows) rise = by_lt_z (id_of row) (pos bound) (λ below.
      let other = none_high row below in
      let both = among_both row ∙ ap (λ b. is_among xs row || b) other in
      elim (cases_Bool (is_among xs row)) [
        | inl here ↦ (let whole : is_among (xs ++ ys) row ≡ true = both ∙ rw here refl in rw (whole, here, other) (ap (λ l. row ∷ l) (among_parts rows rise.1)))
        | inr apart ↦ (let whole : is_among (xs ++ ys) row ≡ false = both ∙ rw apart refl in rw (whole, apart, other) (among_parts rows rise.1))
      ]) (λ above.
      let other = none_low row above in
      let both = among_both row ∙ ap (λ b. b || is_among ys row) other in
      let later = among_parts rows rise.1 ∙ ap (λ l. l ++ filter (is_among ys) rows) (none_behind row rows above rise.0) in
      let gone = none_behind row rows above rise.0 in
      elim (cases_Bool (is_among ys row)) [
        | inl here ↦ (let whole : is_among (xs ++ ys) row ≡ true = both ∙ here in rw (whole, other, here, gone) (ap (λ l. row ∷ l) later))
        | inr apart ↦ (let whole : is_among (xs ++ ys) row ≡ false = both ∙ apart in rw (whole, other, apart, gone) later)
      ])

-- none is among no numbers
pub among_none : (numbers : List ℕ) (rows : List Row) → length numbers ≤ 0 → filter (is_among numbers) rows ≡ []
among_none [] [] none = refl
among_none [] (row ∷ rows) none = among_none [] rows none
among_none (n ∷ numbers) rows none = absurd (omega (arith, none))

-- before the first row nothing was taken
pub nothing_taken : {L : Type 0} (columns : L → Row) (seen : Row → Row) (numbers : List ℕ) (lines : List L) → HasTaken columns seen numbers (map columns lines) [] 0 lines
nothing_taken columns seen numbers lines = record { within = omega arith; past = λ id below k low. absurd (omega (arith, low)); taken = sym (append-nil (map columns lines)) }

-- ---- groups of numbers

-- the rows of a group of numbers come behind those of the numbers before it
pub among_group : (numbers : List ℕ) (at end : ℕ) → IsNonDecreasing numbers → (0 < at → at < length numbers → get_or numbers (at - 1) 0 < get_or numbers at 0) → at < end → end ≤ length numbers
    → (rows : List Row) → Rise rows → filter (is_among (take end numbers)) rows ≡ filter (is_among (take at numbers)) rows ++ filter (is_among (take (end - at) (drop at numbers))) rows
among_group numbers at end up far less within rows rise =
    (let sum : end ≡ at + (end - at) = omega (arith, less) in ap (λ ns. filter (is_among ns) rows) (ap (λ n. take n numbers) sum ∙ take-add at (end - at) numbers))
    ∙ among_parts (take at numbers) (take (end - at) (drop at numbers)) (get_or numbers at 0) low high rows rise
  where
    low : (k : ℕ) → k < length (take at numbers) → get_or (take at numbers) k 0 < get_or numbers at 0
    low k inside =
        let before : k < at = omega (arith, simp length-take at inside) in
        let here : get_or (take at numbers) k 0 ≡ get_or numbers k 0 = get_or-take at numbers k 0 before in
        let rises : get_or numbers k 0 ≤ get_or numbers (at - 1) 0 = up k (at - 1) 0 (omega (arith, before)) (omega (arith, before, less, within)) in
        let jump = far (omega (arith, before)) (omega (arith, less, within)) in
        omega (arith, here, rises, jump)

    high : (k : ℕ) → k < length (take (end - at) (drop at numbers)) → get_or numbers at 0 ≤ get_or (take (end - at) (drop at numbers)) k 0
    high k inside =
        let near : k < end - at = omega (arith, simp length-take at inside) in
        let here : get_or (take (end - at) (drop at numbers)) k 0 ≡ get_or numbers (at + k) 0 = get_or-take (end - at) (drop at numbers) k 0 near ∙ get_or-drop at numbers k 0 in
        let rises : get_or numbers at 0 ≤ get_or numbers (at + k) 0 = up at (at + k) 0 (omega arith) (omega (arith, near, within)) in
        omega (arith, here, rises)

-- the order of the numbers does not matter
pub among_same : (numbers sorted : List ℕ) → IsPermutation numbers sorted → (rows : List Row) → filter (is_among sorted) rows ≡ filter (is_among numbers) rows
among_same numbers sorted moved rows = filter_agree (is_among sorted) (is_among numbers) (λ row. sym (list_any-IsPermutation (λ n. int_eq (id_of row) (pos n)) numbers sorted moved)) rows
