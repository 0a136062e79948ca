-- Rows that rise, cut at a rowid.
use Rattle.std.proofs.Common.{◌≡◌, ℤ, ℕ, pos, negsuc, ◌+ℤ◌, ◌<ℤ◌, ◌-◌, ◌^◌, true, false, int_lt, is_lt, int_cmp, List, [], ◌∷◌, map, refl, sym, ap, subst, ◌∙◌, inl, inr, arith}
use Rattle.std.proofs.lemmas.Bool.{cases_Bool}
use Rattle.std.proofs.lemmas.Int.{ints}
use Rattle.sqlite_btree.specs.Cut.{Each, Ascends, from_cut}
use Rattle.sqlite_btree.specs.Stored.{by_rowid}
use Rattle.sqlite_value.specs.declared.value.Value.TheVariants.{Int}
use Rattle.sqlite_value.specs.Order.{Row}
use Rattle.sqlite_value.proofs.OrderLemmas.{value_cmp-Int}
use Rattle.sqlite_trees.specs.Tree.{rowid}
use Rattle.sqlite_btree.proofs.ViewLemmas.{ascends_rows}
use Rattle.sqlite_store.specs.Db.{table_row}
use Rattle.sqlite_pages.specs.PageMap.{PageMap}
use Rattle.sqlite_store.proofs.DbLemmas.{table_reads, all_fit}
use Rattle.sqlite_store.proofs.RowLemmas.{Raw, AllFit, from_least}
use Rattle.page_rows.specs.Rows.{HasTable, rows_of, from_rowid}

abbrev pub Rises : List Raw → Type 0
Rises = Ascends (λ a b. int_lt a.0 b.0)

-- the rows of a cut, as rows
pub cut_rows : (id : ℤ) (raw : List Raw) → map table_row (from_cut (by_rowid id) raw) ≡ from_rowid id (map table_row raw)
cut_rows id [] = refl
cut_rows id (x ∷ xs) = elim (cases_Bool (is_lt (int_cmp x.0 id)))
    [ inl low ↦ rw (value_cmp-Int x.0 id, low) (cut_rows id xs) | inr high ↦ rw (value_cmp-Int x.0 id, high) ]

all_above : (x : Raw) (ys : List Raw) → Each (λ y. int_lt x.0 y.0 ≡ true) ys → from_cut (by_rowid (x.0 +ℤ pos 1)) ys ≡ ys
all_above x [] above = refl
all_above x (y ∷ ys) above = let e : is_lt (int_cmp y.0 (x.0 +ℤ pos 1)) ≡ false = (let a = above.0 in grind (arith, ints)) in rw e

-- The first row of a cut is not below it, and what follows is the cut behind that row.
pub cut_goes_on : (id : ℤ) (raw : List Raw) (x : Raw) (rest : List Raw) → Rises raw → from_cut (by_rowid id) raw ≡ x ∷ rest
    → (is_lt (int_cmp x.0 id) ≡ false) × (from_cut (by_rowid (x.0 +ℤ pos 1)) raw ≡ rest)
cut_goes_on id [] x rest up is = absurd (cc)
cut_goes_on id (y ∷ ys) x rest up is = elim (cases_Bool (is_lt (int_cmp y.0 id))) [
  | inl low ↦ (let later = cut_goes_on id ys x rest up.1 (rw low at is) in
      let e : is_lt (int_cmp y.0 (x.0 +ℤ pos 1)) ≡ true = (let a = later.0 in grind (arith, ints)) in (later.0, rw e later.1))
  | inr high ↦ (let parts = rw high at is in let same : y ≡ x = cc in let tail : ys ≡ rest = cc in
      let e : is_lt (int_cmp y.0 (y.0 +ℤ pos 1)) ≡ true = grind (arith, ints) in
      subst (λ z. (is_lt (int_cmp z.0 id) ≡ false) × (from_cut (by_rowid (z.0 +ℤ pos 1)) (y ∷ ys) ≡ rest)) same (high, rw e (all_above y ys up.0 ∙ tail)))
]

pub not_below : (a b : ℤ) → is_lt (int_cmp a b) ≡ false → ¬ (a <ℤ b)
not_below a b high low = grind (arith, ints)

cut_fits : (id : ℤ) (raw : List Raw) → AllFit raw → AllFit (from_cut (by_rowid id) raw)
cut_fits id [] fit = tt
cut_fits id (x ∷ xs) fit = elim (cases_Bool (is_lt (int_cmp x.0 id))) [ inl low ↦ rw low (cut_fits id xs fit.1) | inr high ↦ rw high fit ]

-- behind the greatest rowid there is no row
pub none_behind_last : (raw : List Raw) (rest : List Raw) → Rises raw → AllFit raw → from_cut (by_rowid (pos (2 ^ 63))) raw ≡ rest → rest ≡ []
none_behind_last raw [] up fit is = refl
none_behind_last raw (y ∷ ys) up fit is =
    let high = (cut_goes_on (pos (2 ^ 63)) raw y ys up is).0 in
    let fits = subst AllFit is (cut_fits (pos (2 ^ 63)) raw fit) in
    absurd (let f = fits.0 in grind (arith, ints))

-- no row is below the least rowid
pub all_from_least : (size : ℕ) (pages : PageMap) (root : ℕ) → HasTable size pages root
    → from_rowid (negsuc (2 ^ 63 - 1)) (rows_of size pages root) ≡ rows_of size pages root
all_from_least size pages root has =
    let (layout, raw, laid, table) = has in
    let reads = table_reads pages laid table in
    ap (from_rowid (negsuc (2 ^ 63 - 1))) reads ∙ sym (cut_rows (negsuc (2 ^ 63 - 1)) raw) ∙ ap (map table_row) (from_least raw (all_fit table)) ∙ sym reads

module _ (raw : List Raw) (up : Rises raw) (at id : ℤ) (row : Row) (rest : List Row) (numbered : rowid row ≡ Int id) where
  cut_first : (cut : List Raw) → from_cut (by_rowid at) raw ≡ cut → map table_row cut ≡ row ∷ rest → from_rowid (id +ℤ pos 1) (map table_row raw) ≡ rest
  cut_first [] is shown = absurd (cc)
  cut_first (x ∷ xs) is shown =
      let first : table_row x ≡ row = cc in
      let later : map table_row xs ≡ rest = cc in
      let same : x.0 ≡ id = (let e : Int x.0 ≡ Int id = ap rowid first ∙ numbered in cc) in
      sym (cut_rows (id +ℤ pos 1) raw) ∙ ap (λ n. map table_row (from_cut (by_rowid (n +ℤ pos 1)) raw)) (sym same) ∙ ap (map table_row) (cut_goes_on at raw x xs up is).1 ∙ later

-- the rows behind the first that is not below a rowid
pub from_behind : (size : ℕ) (pages : PageMap) (root : ℕ) → HasTable size pages root → (at id : ℤ) (row : Row) (rest : List Row) → rowid row ≡ Int id
    → from_rowid at (rows_of size pages root) ≡ row ∷ rest → from_rowid (id +ℤ pos 1) (rows_of size pages root) ≡ rest
from_behind size pages root has at id row rest numbered is =
    let (layout, raw, laid, table) = has in
    let reads = table_reads pages laid table in
    ap (from_rowid (id +ℤ pos 1)) reads ∙ cut_first raw (ascends_rows table) at id row rest numbered _ refl (cut_rows at raw ∙ ap (from_rowid at) (sym reads) ∙ is)
