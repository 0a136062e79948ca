-- The rows that are walked sum to the sums that are held.
use Rattle.std.proofs.Common.{◌≡◌, ℕ, ◌+◌, ◌<◌, zero, suc, Bool, true, false, ◌&&◌, ◌||◌, ◌==◌, nat_lt, List, [], ◌∷◌, ◌++◌, map, slice_index, if◌then◌else◌, refl, ap, ◌∙◌, arith}
use Rattle.std.proofs.lemmas.Bool.Decides.{nat_tests}
use Rattle.std.proofs.lemmas.List.{map-append}
use Rattle.std.specs.List.{list_any}
use Rattle.std.specs.Map.{keys_of}
use Rattle.cost_rows.specs.Merging.{sum_where}
use Rattle.cost_rows.specs.Sums.{Spot, spot_at, callee_at, passing_cell, passing_call, cell_spot}
use Rattle.cost_rows.specs.ByNumber.{numbered_cell, numbered_at, numbered_cells}
use Rattle.cost_rows.specs.Walks.{cell_named, named_cells, named_calls, counted_stacks}
use Rattle.cost_rows.specs.WalkSums.{rows_cost, calls_cost, calls_count, has_calls, stacks_count}
use Rattle.cost_rows.specs.declared.rows.CellRow.{CellRow}
use Rattle.cost_rows.specs.declared.places.CellPlace.{CellPlace}
use Rattle.cost_rows.specs.declared.places.Call.{Call}
use Rattle.cost_rows.specs.Calls.{Calls}

pub is_above : (n : ℕ) → nat_lt 0 (suc n) ≡ true
is_above n = grind (arith, nat_tests)

-- the cost of event k among costs of which the first is of event e
abbrev pub column_from : ℕ → ℕ → List ℕ → ℕ
column_from e k [] = 0
column_from e k (cost ∷ costs) = (if e == k then cost else 0) + column_from (suc e) k costs

when_other : (e k n : ℕ) → (e ≡ k → 0 ≡ suc 0) → (if e == k then n else 0) ≡ 0
when_other e k n other = grind (arith, nat_tests)

when_same : (e k n : ℕ) → e ≡ k → (if e == k then n else 0) ≡ n
when_same e k n same = grind (arith, nat_tests)

pub column-before : (e k : ℕ) (costs : List ℕ) → k < e → column_from e k costs ≡ 0
column-before e k [] before = refl
column-before e k (cost ∷ costs) before =
    let first : (if e == k then cost else 0) ≡ 0 = when_other e k cost (λ h. absurd (omega arith)) in
    let rest : column_from (suc e) k costs ≡ 0 = column-before (suc e) k costs (omega arith) in
    omega (arith, first, rest)

pub column-at : (e j k : ℕ) (costs : List ℕ) → e + j ≡ k → column_from e k costs ≡ slice_index costs j
column-at e j k [] is = refl
column-at e zero k (cost ∷ costs) is =
    let first : (if e == k then cost else 0) ≡ cost = when_same e k cost (omega arith) in
    let rest : column_from (suc e) k costs ≡ 0 = column-before (suc e) k costs (omega arith) in
    omega (arith, first, rest)
column-at e (suc j) k (cost ∷ costs) is =
    let first : (if e == k then cost else 0) ≡ 0 = when_other e k cost (λ h. absurd (omega arith)) in
    let rest : column_from (suc e) k costs ≡ slice_index costs j = column-at (suc e) j k costs (omega arith) in
    omega (arith, first, rest)

pub one_more : (b t : Bool) (n m : ℕ) → (if b && t then n else 0) + (if b then m else 0) ≡ (if b then (if t then n else 0) + m else 0)
one_more true t n m = refl
one_more false t n m = refl

pub none_more : (b t : Bool) (m : ℕ) → (if b then m else 0) ≡ (if b then (if t then 0 else 0) + m else 0)
none_more true true m = omega arith
none_more true false m = omega arith
none_more false t m = refl

abbrev pub neither : Bool → ℕ
neither b = if b then 0 else 0

pub nothing_each_way : (b : Bool) → 0 ≡ neither b
nothing_each_way true = refl
nothing_each_way false = refl

rows-at : (passes : Spot → Bool) (k : ℕ) (names : List (List ℕ)) (p : CellPlace) (e : ℕ) (costs : List ℕ) → rows_cost passes k (map (cell_named names) (numbered_at p e costs)) ≡ (if passes (cell_spot names p) then column_from e k costs else 0)
rows-at passes k names p e [] = nothing_each_way (passes (cell_spot names p))
rows-at passes k names p e (zero ∷ costs) =
    rows-at passes k names p (suc e) costs ∙ none_more (passes (cell_spot names p)) (e == k) (column_from (suc e) k costs)
rows-at passes k names p e (suc n ∷ costs) =
    ap (λ b. rows_cost passes k (map (cell_named names) (if b then numbered_cell p e (suc n) ∷ numbered_at p (suc e) costs else numbered_at p (suc e) costs))) (is_above n)
    ∙ ap (λ m. (if passes (cell_spot names p) && (e == k) then suc n else 0) + m) (rows-at passes k names p (suc e) costs)
    ∙ one_more (passes (cell_spot names p)) (e == k) (suc n) (column_from (suc e) k costs)

rows-append : (passes : Spot → Bool) (k : ℕ) (xs ys : List (CellRow (List ℕ))) → rows_cost passes k (xs ++ ys) ≡ rows_cost passes k xs + rows_cost passes k ys
rows-append passes k [] ys = let n : ℕ = rows_cost passes k ys in let e : n ≡ 0 + n = omega arith in e
rows-append passes k (x ∷ xs) ys =
    let n : ℕ = rows_cost passes k (x ∷ []) in
    let a : ℕ = rows_cost passes k xs in
    let b : ℕ = rows_cost passes k ys in
    let rest : rows_cost passes k (xs ++ ys) ≡ a + b = rows-append passes k xs ys in
    omega (arith, rest)

pub walked-cells : (passes : Spot → Bool) (k : ℕ) (names : List (List ℕ)) (cells : List (CellPlace × List ℕ)) → rows_cost passes k (named_cells names cells) ≡ sum_where (passing_cell passes names) (λ costs. slice_index costs k) cells
walked-cells passes k names [] = refl
walked-cells passes k names (e ∷ cells) =
    ap (rows_cost passes k) (map-append (cell_named names) (numbered_at e.0 0 e.1) (numbered_cells cells))
    ∙ rows-append passes k (map (cell_named names) (numbered_at e.0 0 e.1)) (named_cells names cells)
    ∙ ap (λ n. n + rows_cost passes k (named_cells names cells)) (rows-at passes k names e.0 0 e.1 ∙ ap (λ n. if passes (cell_spot names e.0) then n else 0) (column-at 0 k k e.1 (omega arith)))
    ∙ ap (λ n. (if passes (cell_spot names e.0) then slice_index e.1 k else 0) + n) (walked-cells passes k names cells)

pub walked-costs : (passes : Spot → Spot → Bool) (k : ℕ) (names : List (List ℕ)) (edges : List (Call × Calls)) → calls_cost passes k (named_calls names edges) ≡ sum_where (passing_call passes names) (λ calls. slice_index calls.costs k) edges
walked-costs passes k names [] = refl
walked-costs passes k names (e ∷ edges) = ap (λ n. (if passes (spot_at names e.0.place) (callee_at names e.0) then slice_index e.1.costs k else 0) + n) (walked-costs passes k names edges)

pub walked-counts : (passes : Spot → Spot → Bool) (names : List (List ℕ)) (edges : List (Call × Calls)) → calls_count passes (named_calls names edges) ≡ sum_where (passing_call passes names) (λ calls. calls.count) edges
walked-counts passes names [] = refl
walked-counts passes names (e ∷ edges) = ap (λ n. (if passes (spot_at names e.0.place) (callee_at names e.0) then e.1.count else 0) + n) (walked-counts passes names edges)

pub walked-calls : (passes : Spot → Spot → Bool) (names : List (List ℕ)) (edges : List (Call × Calls)) → has_calls passes (named_calls names edges) ≡ list_any (passing_call passes names) (keys_of edges)
walked-calls passes names [] = refl
walked-calls passes names (e ∷ edges) = ap (λ b. passes (spot_at names e.0.place) (callee_at names e.0) || b) (walked-calls passes names edges)

none_counted : (b : Bool) (n : ℕ) → n ≡ (if b then 0 else 0) + n
none_counted true n = omega arith
none_counted false n = omega arith

walked-stack : (passes : List ℕ → Bool) (frames : List ℕ) (count : ℕ) (stacks : List (List ℕ × ℕ)) → stacks_count passes (counted_stacks stacks) ≡ sum_where passes (λ n. n) stacks → stacks_count passes (counted_stacks ((frames, count) ∷ stacks)) ≡ sum_where passes (λ n. n) ((frames, count) ∷ stacks)
walked-stack passes frames zero stacks rest = rest ∙ none_counted (passes frames) (sum_where passes (λ n. n) stacks)
walked-stack passes frames (suc n) stacks rest =
    ap (λ b. stacks_count passes (if b then record { stack = frames; count = suc n } ∷ counted_stacks stacks else counted_stacks stacks)) (is_above n)
    ∙ ap (λ m. (if passes frames then suc n else 0) + m) rest

pub walked-stacks : (passes : List ℕ → Bool) (stacks : List (List ℕ × ℕ)) → stacks_count passes (counted_stacks stacks) ≡ sum_where passes (λ n. n) stacks
walked-stacks passes [] = refl
walked-stacks passes (e ∷ stacks) = walked-stack passes e.0 e.1 stacks (walked-stacks passes stacks)
