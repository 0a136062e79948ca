-- Why the rows of a table are refused, and that names which are read rise.
use Rattle.std.proofs.Common.{◌≡◌, ◌<◌, ◌+◌, ℕ, zero, suc, ℤ, pos, ◌<ℤ◌, List, [], ◌∷◌, map, length, get_or, Result, IfErr, sym, ap, subst, subst₂, ◌∙◌, inl, inr, arith}
use Rattle.std.specs.List.{AllAdjacentBelow, AllByRecursion}
use Rattle.std.specs.Result.{IsErrAnd}
use Rattle.std.specs.Ordering.{is_lt}
use Rattle.std.proofs.lemmas.Bool.{cases_Bool}
use Rattle.std.proofs.lemmas.Int.{ints}
use Rattle.std.proofs.lemmas.Result.{err_from_is_err_and}
use Rattle.sqlite_disk.specs.declared.Disk.{Ghosts}
use Rattle.sqlite_pages.specs.declared.error.Error.TheVariants.{OutOfMemory}
use Rattle.sqlite_trees.specs.Tree.{rowid}
use Rattle.sqlite_value.specs.declared.value.Value.TheVariants.{Int}
use Rattle.sqlite_value.specs.Order.{Row, value_cmp}
use Rattle.plain_tables.specs.declared.errors.StoreError.{StoreError}
use Rattle.plain_tables.specs.declared.errors.StoreError.TheVariants.{Memory}
use Rattle.page_rows.specs.Rows.{from_rowid}
use Rattle.page_rows.specs.Walks.{FailsToWalk, MayRefuse}
use Rattle.page_rows.specs.declared.errors.WalkError.{WalkError}
use Rattle.page_rows.specs.declared.errors.WalkError.TheVariants.{Pages, Refused}
use Rattle.page_files.specs.declared.files.PageFile.{PageFile}
use Rattle.page_files.specs.Files.{FailsToRead}
use Rattle.page_places.specs.Failures.{IsFailureOf, end_of_walk}
use Rattle.prof_store.specs.Tables.{name_columns}
use Rattle.run_lists.specs.NameRows.{name_row}
use Rattle.run_lists.specs.declared.held_names.HeldName.{HeldName}
use Rattle.page_lists.specs.Among.{Rise, id_of}
use Rattle.page_lists.specs.Refusals.{RefusesRow}

-- ---- errors

-- what holds of an error holds of the one that is handed on
pub handed_on : {T E : Type 0} (r : Result T E) (e : E) (P : E → Type 0) → IsErrAnd r (λ x. x ≡ e) → P e → IfErr r P
handed_on r e P is h = let p = err_from_is_err_and r is in rw p.1 (subst P (sym p.2) h)

none_refused : (IsRead : Row → Type 0) (rows : List Row) (e : StoreError) → AllByRecursion IsRead rows → MayRefuse (RefusesRow IsRead) rows e → e ≡ Memory
none_refused IsRead [] e all may = absurd may
none_refused IsRead (row ∷ rows) e all (inl (inl memory)) = memory
none_refused IsRead (row ∷ rows) e all (inl (inr not)) = absurd (not all.0)
none_refused IsRead (row ∷ rows) e all (inr later) = none_refused IsRead rows e all.1 later

pub all_from : (P : Row → Type 0) (from : ℤ) (rows : List Row) → AllByRecursion P rows → AllByRecursion P (from_rowid from rows)
all_from P from [] all = tt
all_from P from (row ∷ rows) all = elim (cases_Bool (is_lt (value_cmp (rowid row) (Int from)))) [ inl low ↦ rw low (all_from P from rows all.1) | inr high ↦ rw high all ]

module _ {D : Type 0} {g : Ghosts D} (old new : PageFile D g) where
  -- a walk over rows that are read fails only as its pages do
  pub walk_fails : (IsRead : Row → Type 0) (rows : List Row) (error : WalkError StoreError) (e : StoreError) → e ≡ end_of_walk error → AllByRecursion IsRead rows
      → FailsToWalk (FailsToRead old new) (MayRefuse (RefusesRow IsRead) rows) error → IsFailureOf (FailsToRead old new) e
  walk_fails IsRead rows (Pages error) e is all fails = (error, fails, is)
  walk_fails IsRead rows (Refused end) e is all may = (OutOfMemory, tt, is ∙ none_refused IsRead rows end all may)

-- ---- names

less_of : (m n : ℕ) → pos m <ℤ pos n → m < n
less_of m n less = omega (arith, ints)

one_rises : (row other : Row) (a b : HeldName) → name_columns (name_row a) ≡ row → name_columns (name_row b) ≡ other → id_of row <ℤ id_of other → a.number < b.number
one_rises row other a b first second less = less_of a.number b.number (subst₂ (λ x y. x <ℤ y) (sym (ap id_of first)) (sym (ap id_of second)) less)

-- names that were read of rows that rise do so
pub names_rise : (rows : List Row) (read : List HeldName) → map (λ n. name_columns (name_row n)) read ≡ map (λ (row : Row). row) rows → Rise rows
    → AllAdjacentBelow (λ (a b : HeldName). a.number < b.number) read (length read)
names_rise rows [] is rise k d low = absurd (omega (arith, low))
names_rise rows (a ∷ []) is rise k d low = absurd (omega (arith, low))
names_rise [] (a ∷ b ∷ read) is rise k d low = absurd cc
names_rise (row ∷ []) (a ∷ b ∷ read) is rise k d low = absurd cc
names_rise (row ∷ other ∷ rows) (a ∷ b ∷ read) is rise zero d low =
    let first : name_columns (name_row a) ≡ row = cc in
    let second : name_columns (name_row b) ≡ other = cc in
    one_rises row other a b first second rise.0.0
names_rise (row ∷ other ∷ rows) (a ∷ b ∷ read) is rise (suc k) d low =
    let rest : map (λ n. name_columns (name_row n)) (b ∷ read) ≡ map (λ (r : Row). r) (other ∷ rows) = cc in
    let next : suc k + 1 ≡ suc (k + 1) = omega arith in
    subst (λ j. (get_or (b ∷ read) k d).number < (get_or (a ∷ b ∷ read) j d).number) (sym next) (names_rise (other ∷ rows) (b ∷ read) rest rise.1 k d (omega (arith, low)))
