-- Rows of the amounts that are above 0: what holds of each, and what is made of them.
use Rattle.std.proofs.Common.{◌≡◌, ℕ, zero, suc, ◌+◌, ◌<◌, Bool, true, false, List, [], ◌∷◌, ◌++◌, map, length, nat_lt, if◌then◌else◌, refl, sym, ap, ap₂, ◌∙◌, add-zero, arith}
use Rattle.std.specs.List.{AllByRecursion}
use Rattle.cost_rows.specs.Above.{rows_above}
use Rattle.cost_rows.specs.Walks.{HaveCosts, HaveCounts, cell_named, named_cells, counted_stacks}
use Rattle.cost_rows.specs.ByNumber.{numbered_cell, numbered_at, numbered_cells}
use Rattle.cost_rows.specs.declared.places.CellPlace.{CellPlace}
use Rattle.cost_rows.specs.declared.rows.CellRow.{CellRow}

-- what holds of each row of an amount above 0 holds of all
pub all-above : {R : Type 0} (P : R → Type 0) (row : ℕ → ℕ → R) → ((k n : ℕ) → 0 < n → P (row k n)) → (place : ℕ) (ns : List ℕ) → AllByRecursion P (rows_above row place ns)
all-above P row each place [] = tt
all-above P row each place (zero ∷ ns) = all-above P row each (suc place) ns
all-above P row each place (suc n ∷ ns) = go (nat_lt 0 (suc n)) (all-above P row each (suc place) ns)
  where
    go : (b : Bool) → AllByRecursion P (rows_above row (suc place) ns) → AllByRecursion P (if b then row place (suc n) ∷ rows_above row (suc place) ns else rows_above row (suc place) ns)
    go true rest = (each place (suc n) (omega arith), rest)
    go false rest = rest

-- rows that become others are those others
pub map-above : {R S : Type 0} (f : R → S) (row : ℕ → ℕ → R) (other : ℕ → ℕ → S) → ((k n : ℕ) → f (row k n) ≡ other k n) → (place : ℕ) (ns : List ℕ) → map f (rows_above row place ns) ≡ rows_above other place ns
map-above f row other each place [] = refl
map-above f row other each place (n ∷ ns) = go (nat_lt 0 n) (map-above f row other each (suc place) ns)
  where
    go : (b : Bool) → map f (rows_above row (suc place) ns) ≡ rows_above other (suc place) ns
        → map f (if b then row place n ∷ rows_above row (suc place) ns else rows_above row (suc place) ns) ≡ (if b then other place n ∷ rows_above other (suc place) ns else rows_above other (suc place) ns)
    go true rest = ap₂ ◌∷◌ (each place n) rest
    go false rest = rest

-- an amount more at the end
pub above-more : {R : Type 0} (row : ℕ → ℕ → R) (place : ℕ) (ns : List ℕ) (n : ℕ) → rows_above row place (ns ++ n ∷ []) ≡ rows_above row place ns ++ (if nat_lt 0 n then row (place + length ns) n ∷ [] else [])
above-more row place [] n = ap (λ at. if nat_lt 0 n then row at n ∷ [] else []) (sym (add-zero place))
above-more row place (first ∷ ns) n = go (nat_lt 0 first) (above-more row (suc place) ns n ∙ ap (λ at. rows_above row (suc place) ns ++ (if nat_lt 0 n then row at n ∷ [] else [])) here)
  where
    here : suc place + length ns ≡ place + suc (length ns)
    here = omega arith

    go : (b : Bool)
        → rows_above row (suc place) (ns ++ n ∷ []) ≡ rows_above row (suc place) ns ++ (if nat_lt 0 n then row (place + suc (length ns)) n ∷ [] else [])
        → (if b then row place first ∷ rows_above row (suc place) (ns ++ n ∷ []) else rows_above row (suc place) (ns ++ n ∷ []))
        ≡ (if b then row place first ∷ rows_above row (suc place) ns else rows_above row (suc place) ns) ++ (if nat_lt 0 n then row (place + suc (length ns)) n ∷ [] else [])
    go true more = ap (λ l. row place first ∷ l) more
    go false more = more

-- ---- what is walked

named-costs : (names : List (List ℕ)) (rows : List (CellRow ℕ)) → AllByRecursion (λ (r : CellRow ℕ). 0 < r.cost) rows → HaveCosts (map (cell_named names) rows)
named-costs names [] all = tt
named-costs names (r ∷ rows) all = (all.0, named-costs names rows all.1)

both-have : (xs ys : List (CellRow ℕ)) → AllByRecursion (λ (r : CellRow ℕ). 0 < r.cost) xs → AllByRecursion (λ (r : CellRow ℕ). 0 < r.cost) ys → AllByRecursion (λ (r : CellRow ℕ). 0 < r.cost) (xs ++ ys)
both-have [] ys some more = more
both-have (x ∷ xs) ys some more = (some.0, both-have xs ys some.1 more)

numbered-costs : (cells : List (CellPlace × List ℕ)) → AllByRecursion (λ (r : CellRow ℕ). 0 < r.cost) (numbered_cells cells)
numbered-costs [] = tt
numbered-costs (e ∷ cells) =
    both-have (numbered_at e.0 0 e.1) (numbered_cells cells) (all-above (λ (r : CellRow ℕ). 0 < r.cost) (numbered_cell e.0) (λ event cost above. above) 0 e.1) (numbered-costs cells)

-- no cell that is walked costs 0
pub cells-above : (names : List (List ℕ)) (cells : List (CellPlace × List ℕ)) → HaveCosts (named_cells names cells)
cells-above names cells = named-costs names (numbered_cells cells) (numbered-costs cells)

-- and no stack counts 0
pub stacks-above : (stacks : List (List ℕ × ℕ)) → HaveCounts (counted_stacks stacks)
stacks-above [] = tt
stacks-above ((frames, zero) ∷ stacks) = stacks-above stacks
stacks-above ((frames, suc n) ∷ stacks) = go (nat_lt 0 (suc n)) (stacks-above stacks)
  where
    go : (b : Bool) → HaveCounts (counted_stacks stacks) → HaveCounts (if b then record { stack = frames; count = suc n } ∷ counted_stacks stacks else counted_stacks stacks)
    go true rest = (omega arith, rest)
    go false rest = rest
