-- Sums by key are told by what rows cost, for every test.
use Rattle.std.proofs.Common.{◌≡◌, ℕ, ◌+◌, Bool, true, if◌then◌else◌, List, [], ◌∷◌, ◌++◌, sum_by, refl, sym, ap, ap₂, ◌∙◌, add_assoc}
use Rattle.std.proofs.Math.Nat.{zero-add}
use Rattle.std.proofs.lemmas.List.Sums.{sum_by-cons}
use Rattle.std.specs.List.Sorted.{IsStrictlySortedBy}
use Rattle.cost_rows.specs.Keys.{part_of, place_of_row}
use Rattle.cost_rows.specs.KeySums.{AreSums, total_of, cost_where, rows_of, sums_by}
use Rattle.cost_rows.specs.Merging.{sum_where}
use Rattle.cost_rows.specs.Sums.{Spot}
use Rattle.cost_rows.specs.declared.keys.Key.{Key}
use Rattle.cost_rows.specs.declared.keys.Key.TheVariants.{Object, File, Function, Line, Thread}
use Rattle.cost_rows.specs.declared.rows.CellRow.{CellRow}
use Rattle.cost_rows.proofs.KeysLemmas.{named_cmp-total, named_cmp-apart}
use Rattle.cost_rows.proofs.KeySumsLemmas.{sums-rows, sums-are}
use Rattle.cost_reports.proofs.SameSums.{same_sums}

pub sums_cost : (key : Key) (passes : Spot → Bool) (rows : List (CellRow (List ℕ))) → sum_where passes (λ n. n) (sums_by key rows) ≡ cost_where key passes rows
sums_cost key passes rows = sums-rows passes rows (record { key = key; sums = [] }) ∙ zero-add (cost_where key passes rows)

are_sums : (key : Key) (rows : List (CellRow (List ℕ))) → AreSums (sums_by key rows)
unfolding IsStrictlySortedBy
are_sums key rows = sums-are rows (record { key = key; sums = [] }) (record { order = tt; above = tt })

pub same_by_key : (key : Key) (rows others : List (CellRow (List ℕ))) → ((passes : Spot → Bool) → cost_where key passes rows ≡ cost_where key passes others) → sums_by key rows ≡ sums_by key others
same_by_key key rows others same =
    let x = are_sums key rows in
    let y = are_sums key others in
    same_sums named_cmp-total named_cmp-apart (sums_by key rows) (sums_by key others) x.order y.order x.above y.above
    (λ passes. sums_cost key passes rows ∙ same passes ∙ sym (sums_cost key passes others))

-- ---- rows of sums

part_again : (key : Key) (p : Spot) → part_of key (part_of key p) ≡ part_of key p
part_again Object p = refl
part_again File p = refl
part_again Function p = refl
part_again Line p = refl
part_again Thread p = refl

pub rows_of_where : (key : Key) (passes : Spot → Bool) (sums : List (Spot × ℕ)) → cost_where key passes (rows_of sums) ≡ sum_where (λ p. passes (part_of key p)) (λ n. n) sums
rows_of_where key passes [] = refl
rows_of_where key passes (e ∷ sums) = ap (λ n. (if passes (part_of key e.0) then e.1 else 0) + n) (rows_of_where key passes sums)

pub parts_where : (key : Key) (passes : Spot → Bool) (rows : List (CellRow (List ℕ))) → cost_where key (λ p. passes (part_of key p)) rows ≡ cost_where key passes rows
parts_where key passes [] = refl
parts_where key passes (r ∷ rows) = ap₂ (λ p n. (if passes p then r.cost else 0) + n) (part_again key (place_of_row r)) (parts_where key passes rows)

-- rows that are merged already
pub same_merged_again : (key : Key) (rows : List (CellRow (List ℕ))) → sums_by key (rows_of (sums_by key rows)) ≡ sums_by key rows
same_merged_again key rows = same_by_key key (rows_of (sums_by key rows)) rows (λ passes.
    rows_of_where key passes (sums_by key rows) ∙ sums_cost key (λ p. passes (part_of key p)) rows ∙ parts_where key passes rows)

-- ---- totals

all_cost : (key : Key) (rows : List (CellRow (List ℕ))) → cost_where key (λ _. true) rows ≡ sum_by (λ (r : CellRow (List ℕ)). r.cost) rows
all_cost key [] = refl
all_cost key (r ∷ rows) = ap (λ n. r.cost + n) (all_cost key rows) ∙ sym (sum_by-cons (λ (r : CellRow (List ℕ)). r.cost) r rows)

pub total_by_key : (key : Key) (rows : List (CellRow (List ℕ))) → total_of (sums_by key rows) ≡ sum_by (λ (r : CellRow (List ℕ)). r.cost) rows
total_by_key key rows = sums_cost key (λ _. true) rows ∙ all_cost key rows

pub total_of_rows : (key : Key) (sums : List (Spot × ℕ)) → total_of (sums_by key (rows_of sums)) ≡ total_of sums
total_of_rows key sums = sums_cost key (λ _. true) (rows_of sums) ∙ rows_of_where key (λ _. true) sums

-- ---- rows one after another

pub where_append : (key : Key) (passes : Spot → Bool) (xs ys : List (CellRow (List ℕ))) → cost_where key passes (xs ++ ys) ≡ cost_where key passes xs + cost_where key passes ys
where_append key passes [] ys = sym (zero-add (cost_where key passes ys))
where_append key passes (x ∷ xs) ys =
    let here : ℕ = if passes (part_of key (place_of_row x)) then x.cost else 0 in
    ap (λ n. here + n) (where_append key passes xs ys) ∙ sym (add_assoc here (cost_where key passes xs) (cost_where key passes ys))

pub rows_append : (xs ys : List (Spot × ℕ)) → rows_of (xs ++ ys) ≡ rows_of xs ++ rows_of ys
rows_append [] ys = refl
rows_append (x ∷ xs) ys = ap (λ rest. record { object = x.0.object; file = x.0.file; function = x.0.function; line = x.0.line; thread = x.0.thread; event = 0; cost = x.1 } ∷ rest) (rows_append xs ys)
