-- The rows of a run, in a table whose rows stand in the order of the runs.
use Rattle.std.proofs.Common.{◌≡◌, ◌≤◌, ◌<◌, ℕ, ℤ, pos, ◌+ℤ◌, false, List, [], ◌∷◌, ◌++◌, map, filter, drop, Some, refl, sym, ap, subst, ◌∙◌, inl, inr, arith, append_assoc, is_lt}
use Rattle.std.specs.List.{AllByRecursion}
use Rattle.std.proofs.lemmas.Bool.{cases_Bool}
use Rattle.std.proofs.lemmas.Bool.Decides.{nat_tests}
use Rattle.std.proofs.lemmas.List.Elements.{filter-append}
use Rattle.plain_tables.specs.Lists.{IsAscending}
use Rattle.sqlite_value.specs.declared.value.Value.TheVariants.{Int}
use Rattle.sqlite_value.specs.Order.{Row, column, value_cmp}
use Rattle.sqlite_trees.specs.Tree.{rowid}
use Rattle.page_rows.specs.Rows.{from_rowid}
use Rattle.run_stores.specs.Order.{ByRun}
use Rattle.page_lists.specs.Walks.{AllEarlier, AreOfRun, InOrder, IsFirstOf, is_of, natural, run_in}
use Rattle.page_lists.proofs.Said.{second_is_first}

-- ---- lists

all_at : {X : Type 0} (P : X → Type 0) (xs : List X) (y : X) (ys : List X) → AllByRecursion P (xs ++ y ∷ ys) → P y
all_at P [] y ys all = all.0
all_at P (x ∷ xs) y ys all = all_at P xs y ys all.1

all_with : {X : Type 0} (P : X → Type 0) (xs : List X) (y : X) → AllByRecursion P xs → P y → AllByRecursion P (xs ++ y ∷ [])
all_with P [] y all last = (last, tt)
all_with P (x ∷ xs) y all last = (all.0, all_with P xs y all.1 last)

all_on : {X : Type 0} (P Q : X → Type 0) → ((x : X) → P x → Q x) → (xs : List X) → AllByRecursion P xs → AllByRecursion Q xs
all_on P Q on [] all = tt
all_on P Q on (x ∷ xs) all = (on x all.0, all_on P Q on xs all.1)

ascends_behind : {X : Type 0} (R : X → X → Type 0) (xs ys : List X) → IsAscending R (xs ++ ys) → IsAscending R ys
ascends_behind R [] ys order = order
ascends_behind R (x ∷ xs) ys order = ascends_behind R xs ys order.1

-- ---- where they begin

-- a first row is that of more rows
pub first_of_more : (front rest rows : List Row) (place : ℤ × ℕ) → rows ≡ front ++ rest → IsFirstOf front (Some place) → IsFirstOf rows (Some place)
first_of_more front rest rows place parts (row, later, is, numbered, of) = (row, later ++ rest, parts ∙ ap (λ l. l ++ rest) is, numbered, of)

cut_at : (from : ℤ) (rows : List Row) → (front : List Row) × (rows ≡ front ++ from_rowid from rows)
cut_at from [] = ([], refl)
cut_at from (row ∷ rows) = elim (cases_Bool (is_lt (value_cmp (rowid row) (Int from)))) [
  | inl low ↦ (let later = cut_at from rows in (row ∷ later.0, ap (λ l. row ∷ l) later.1 ∙ rw low refl))
  | inr high ↦ ([], rw high refl)
]

before_in_order : (front : List Row) (row : Row) (rest : List Row) → InOrder (front ++ row ∷ rest) → AllByRecursion (λ r. run_in r ≤ run_in row) front
before_in_order [] row rest order = tt
before_in_order (first ∷ front) row rest order = (all_at (λ r. run_in first ≤ run_in r) front row rest order.0, before_in_order front row rest order.1)

-- before the least rowid there is no row
pub earlier_from_least : (run : ℕ) (least : ℤ) (rows : List Row) → from_rowid least rows ≡ rows → AllEarlier run least rows
earlier_from_least run least rows all = ([], sym all, tt)

-- behind a row of an earlier run
pub earlier_behind : (run : ℕ) (rows : List Row) (at id : ℤ) (row : Row) (rest : List Row) → InOrder rows → from_rowid at rows ≡ row ∷ rest → run_in row < run
    → from_rowid (id +ℤ pos 1) rows ≡ rest → AllEarlier run (id +ℤ pos 1) rows
earlier_behind run rows at id row rest order is low behind =
    let (front, parts) = cut_at at rows in
    let whole : rows ≡ front ++ row ∷ rest = parts ∙ ap (λ l. front ++ l) is in (
      front ++ row ∷ [],
      whole ∙ sym (append_assoc front (row ∷ []) rest) ∙ ap (λ l. (front ++ row ∷ []) ++ l) (sym behind),
      all_with (λ r. run_in r < run) front row
          (all_on (λ r. run_in r ≤ run_in row) (λ r. run_in r < run) (λ r le. omega (arith, le, low)) front (before_in_order front row rest (subst InOrder whole order))) low,
    )

-- ---- all of them

none_of : (run : ℕ) (rows : List Row) → AllByRecursion (λ r. is_of run r ≡ false) rows → filter (is_of run) rows ≡ []
none_of run [] all = refl
none_of run (row ∷ rows) all = rw all.0 (none_of run rows all.1)

earlier_is_other : (run : ℕ) (row : Row) → run_in row < run → is_of run row ≡ false
earlier_is_other run row low = grind (arith, nat_tests, low)

later_is_other : (run : ℕ) (row : Row) → run < run_in row → is_of run row ≡ false
later_is_other run row high = grind (arith, nat_tests, high)

module _ {L : Type 0} (columns : L → Row) (run : ℕ) where
  -- the lines of the rows from a rowid on, where no row before it is of the run
  behind_earlier : (from : ℤ) (rows : List Row) → AllEarlier run from rows → filter (is_of run) (from_rowid from rows) ≡ filter (is_of run) rows
  behind_earlier from rows (front, parts, all) =
      sym (ap (filter (is_of run)) parts ∙ filter-append (is_of run) front (from_rowid from rows)
      ∙ ap (λ l. l ++ filter (is_of run) (from_rowid from rows)) (none_of run front (all_on (λ r. run_in r < run) (λ r. is_of run r ≡ false) (earlier_is_other run) front all)))

  -- all rows from there on were taken
  pub all_taken : (from : ℤ) (rows : List Row) (lines : List L) → AllEarlier run from rows → AreOfRun columns run (from_rowid from rows) lines → AreOfRun columns run rows lines
  all_taken from rows lines earlier are = are ∙ ap (map (drop 1)) (behind_earlier from rows earlier)

  -- or all up to the first of a later run
  pub taken_to_later : (from : ℤ) (rows : List Row) (lines : List L) → InOrder rows → AllEarlier run from rows → (taken rest front : List Row) (last : Row)
      → from_rowid from rows ≡ taken ++ rest → taken ≡ front ++ last ∷ [] → run < run_in last → AreOfRun columns run front lines → AreOfRun columns run rows lines
  taken_to_later from rows lines order earlier taken rest front last parts is high are =
      let whole : from_rowid from rows ≡ front ++ last ∷ rest = parts ∙ ap (λ l. l ++ rest) is ∙ append_assoc front (last ∷ []) rest in
      let (before, all, low) = earlier in
      let order_here : InOrder (last ∷ rest) = ascends_behind (λ a b. run_in a ≤ run_in b) front (last ∷ rest)
      (subst InOrder whole (ascends_behind (λ a b. run_in a ≤ run_in b) before (from_rowid from rows) (subst InOrder all order))) in
      let none : filter (is_of run) (last ∷ rest) ≡ [] = none_of run (last ∷ rest)
      (later_is_other run last high, all_on (λ r. run_in last ≤ run_in r) (λ r. is_of run r ≡ false) (λ r le. later_is_other run r (omega (arith, le, high))) rest order_here.0) in
      all_taken from rows lines earlier (are ∙ ap (map (drop 1)) (sym (ap (filter (is_of run)) whole ∙ filter-append (is_of run) front (last ∷ rest)
      ∙ ap (λ l. filter (is_of run) front ++ l) none ∙ append_nil (filter (is_of run) front))))
    where
      append_nil : {X : Type 0} (xs : List X) → xs ++ [] ≡ xs
      append_nil [] = refl
      append_nil (x ∷ xs) = ap (λ l. x ∷ l) (append_nil xs)

-- ---- in the tables

module _ {X : Type 0} (columns : X → Row) (run : X → ℕ) (first : (x : X) → natural (column (columns x) 0) ≡ run x) where
  run_shown : (row : Row) (x : X) → drop 1 row ≡ columns x → run_in row ≡ run x
  run_shown row x is = ap natural (second_is_first row) ∙ ap (λ r. natural (column r 0)) is ∙ first x

  all_shown : (P : ℕ → Type 0) (rows : List Row) (xs : List X) → map (drop 1) rows ≡ map columns xs → AllByRecursion (λ x. P (run x)) xs → AllByRecursion (λ r. P (run_in r)) rows
  all_shown P [] xs is all = tt
  all_shown P (row ∷ rows) [] is all = absurd (cc)
  all_shown P (row ∷ rows) (x ∷ xs) is all =
      let here : drop 1 row ≡ columns x = cc in
      let later : map (drop 1) rows ≡ map columns xs = cc in
      (subst P (sym (run_shown row x here)) all.0, all_shown P rows xs later all.1)

  -- where the rows of the tables stand in the order of the runs, so do those of the file
  pub shown_in_order : (rows : List Row) (xs : List X) → map (drop 1) rows ≡ map columns xs → ByRun run xs → InOrder rows
  shown_in_order [] xs is order = tt
  shown_in_order (row ∷ rows) [] is order = absurd (cc)
  shown_in_order (row ∷ rows) (x ∷ xs) is order =
      let here : drop 1 row ≡ columns x = cc in
      let later : map (drop 1) rows ≡ map columns xs = cc in
      (all_shown (λ n. run_in row ≤ n) rows xs later (subst (λ n. AllByRecursion (λ y. n ≤ run y) xs) (sym (run_shown row x here)) order.0), shown_in_order rows xs later order.1)
