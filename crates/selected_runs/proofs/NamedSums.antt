-- Sums by number, named at the end, are those of the rows that are named first.
use Rattle.std.proofs.Common.{inl, inr, ◌≡◌, ℕ, ◌+◌, Bool, List, [], ◌∷◌, fold, map, nat_eq, if◌then◌else◌, refl, sym, ap, ap₂, ◌∙◌, add_assoc, arith}
use Rattle.std.proofs.Math.Nat.{zero-add}
use Rattle.std.proofs.lemmas.Bool.{cases_Bool}
use Rattle.cost_rows.specs.Keys.{part_of, place_of_row}
use Rattle.cost_rows.specs.KeySums.{cost_where, sums_by}
use Rattle.cost_rows.specs.Merging.{sum_where}
use Rattle.cost_rows.specs.Stacks.{counts_added}
use Rattle.cost_rows.specs.Sums.{Spot}
use Rattle.cost_rows.specs.declared.keys.Key.{Key}
use Rattle.cost_rows.specs.declared.keys.Key.TheVariants.{Object, File, Function, Line, Thread}
use Rattle.cost_rows.specs.declared.rows.CellRow.{CellRow}
use Rattle.cost_rows.proofs.MergeLemmas.{nothing, sum-merge}
use Rattle.plain_tables.specs.Tables.{NameRow}
use Rattle.run_stores.specs.Names.{named_cell}
use Rattle.selected_runs.specs.Sums.{SumsByNumber, number_row, number_rows, numbers_part, with_number}
use Rattle.selected_runs.specs.declared.parts.NumberPart.{NumberPart}
use Rattle.selected_runs.proofs.NumberLemmas.{numbers_cmp_apart}
use Rattle.cost_reports.proofs.KeyLemmas.{same_by_key}

-- the part that a key tells of a part by number, with its names
abbrev named_part : List NameRow → Key → NumberPart → Spot
named_part names key part = part_of key (place_of_row (named_cell names (number_row part 0)))

-- is that of the row
part_named : (names : List NameRow) (key : Key) (row : CellRow ℕ) → named_part names key (numbers_part key row) ≡ part_of key (place_of_row (named_cell names row))
part_named names Object row = refl
part_named names File row = refl
part_named names Function row = refl
part_named names Line row = refl
part_named names Thread row = refl

rows_cost : (names : List NameRow) (key : Key) (passes : Spot → Bool) (sums : List (NumberPart × ℕ))
    → cost_where key passes (map (named_cell names) (number_rows sums)) ≡ sum_where (λ part. passes (named_part names key part)) (λ n. n) sums
rows_cost names key passes [] = refl
rows_cost names key passes (e ∷ sums) = ap (λ n. (if passes (named_part names key e.0) then e.1 else 0) + n) (rows_cost names key passes sums)

-- ---- row by row

-- adding rows leaves the key
pub row_keeps_key : (s : SumsByNumber) (row : CellRow ℕ) → (with_number s row).key ≡ s.key
row_keeps_key s row = elim (cases_Bool (nat_eq row.cost 0)) [
  | inl none ↦ rw none refl
  | inr some ↦ rw some refl
]

pub rows_keep_key : (rows : List (CellRow ℕ)) (s : SumsByNumber) → (fold with_number s rows).key ≡ s.key
rows_keep_key [] s = refl
rows_keep_key (row ∷ rows) s = rows_keep_key rows (with_number s row) ∙ row_keeps_key s row

sum_row : (test : NumberPart → Bool) (s : SumsByNumber) (row : CellRow ℕ)
    → sum_where test (λ n. n) (with_number s row).sums ≡ sum_where test (λ n. n) s.sums + (if test (numbers_part s.key row) then row.cost else 0)
sum_row test s row = elim (cases_Bool (nat_eq row.cost 0)) [
  | inl none ↦ rw none (let e = nothing (test (numbers_part s.key row)) row.cost none in omega (arith, e))
  | inr some ↦ rw some (sum-merge numbers_cmp_apart counts_added test (λ n. n) (λ x y. refl) s.sums (numbers_part s.key row) row.cost)
]

-- named at the end, sums with a row more cost what it costs more, where its part passes
pub row_more : (names : List NameRow) (passes : Spot → Bool) (s : SumsByNumber) (row : CellRow ℕ)
    → cost_where s.key passes (map (named_cell names) (number_rows (with_number s row).sums))
    ≡ cost_where s.key passes (map (named_cell names) (number_rows s.sums)) + (if passes (part_of s.key (place_of_row (named_cell names row))) then row.cost else 0)
row_more names passes s row =
    rows_cost names s.key passes (with_number s row).sums
    ∙ sum_row (λ part. passes (named_part names s.key part)) s row
    ∙ ap₂ (λ n p. n + (if passes p then row.cost else 0)) (sym (rows_cost names s.key passes s.sums)) (part_named names s.key row)

sum_rows : (names : List NameRow) (key : Key) (passes : Spot → Bool) (rows : List (CellRow ℕ)) (s : SumsByNumber) → s.key ≡ key
    → sum_where (λ part. passes (named_part names key part)) (λ n. n) (fold with_number s rows).sums
    ≡ sum_where (λ part. passes (named_part names key part)) (λ n. n) s.sums + cost_where key passes (map (named_cell names) rows)
sum_rows names key passes [] s is = let n : ℕ = sum_where (λ part. passes (named_part names key part)) (λ n. n) s.sums in let k : n ≡ n + 0 = omega arith in k
sum_rows names key passes (row ∷ rows) s is =
    let before : ℕ = sum_where (λ part. passes (named_part names key part)) (λ n. n) s.sums in
    let more : ℕ = cost_where key passes (map (named_cell names) rows) in
    sum_rows names key passes rows (with_number s row) (row_keeps_key s row ∙ is)
    ∙ ap (λ n. n + more) (sum_row (λ part. passes (named_part names key part)) s row)
    ∙ ap (λ k. (before + (if passes (named_part names key (numbers_part k row)) then row.cost else 0)) + more) is
    ∙ ap (λ p. (before + (if passes p then row.cost else 0)) + more) (part_named names key row)
    ∙ add_assoc before (if passes (part_of key (place_of_row (named_cell names row))) then row.cost else 0) more

-- the sums of rows, named at the end
pub named_at_the_end : (names : List NameRow) (key : Key) (rows : List (CellRow ℕ))
    → sums_by key (map (named_cell names) (number_rows (fold with_number (record { key = key; sums = [] }) rows).sums)) ≡ sums_by key (map (named_cell names) rows)
named_at_the_end names key rows =
    let sums = (fold with_number (record { key = key; sums = [] }) rows).sums in
    same_by_key key (map (named_cell names) (number_rows sums)) (map (named_cell names) rows) (λ passes.
    rows_cost names key passes sums ∙ sum_rows names key passes rows (record { key = key; sums = [] }) refl ∙ zero-add (cost_where key passes (map (named_cell names) rows)))
