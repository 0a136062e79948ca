-- The parts of rows of calls sum to what the rows sum to.
use Rattle.std.proofs.Common.{◌≡◌, ℕ, ◌+◌, zero, suc, Bool, true, false, ◌&&◌, ◌||◌, ◌==◌, List, [], ◌∷◌, ◌++◌, flat_map, slice_index, if◌then◌else◌, refl, sym, ap, ap₂, subst, ◌∙◌, inl, inr, ◌⊎◌, ◌<◌, arith, eqb}
use Rattle.std.proofs.lemmas.Bool.Decides.{nat_tests}
use Rattle.std.specs.List.{AllByRecursion}
use Rattle.plain_tables.proofs.Lists.{all-append}
use Rattle.cost_rows.specs.Sums.{Spot}
use Rattle.cost_rows.specs.WalkSums.{caller_of_row, callee_of_row, calls_cost, calls_count, has_calls}
use Rattle.cost_rows.specs.declared.rows.ArcRow.{ArcRow}
use Rattle.cost_rows.proofs.AboveLemmas.{all-above}
use Rattle.cost_rows.proofs.WalkSumsLemmas.{is_above, column_from, column-before, column-at, one_more, none_more, nothing_each_way}
use Rattle.run_stores.specs.Book.{CallPart, part_of, parts_from, parts_of}
use Rattle.run_stores.specs.Parts.{caller_of_part, callee_of_part, parts_sum, has_part, AreOfRows, HasItsFirst, AreWhole}

module _ (passes : Spot → Spot → Bool) (n : ℕ) where
  abbrev passes_row : ArcRow (List ℕ) (List ℕ) → Bool
  passes_row r = passes (caller_of_row r) (callee_of_row r)

  sum-append : (xs ys : List CallPart) → parts_sum passes n (xs ++ ys) ≡ parts_sum passes n xs + parts_sum passes n ys
  sum-append [] ys = let m : ℕ = parts_sum passes n ys in let e : m ≡ 0 + m = omega arith in e
  sum-append (x ∷ xs) ys =
      let m : ℕ = parts_sum passes n (x ∷ []) in
      let a : ℕ = parts_sum passes n xs in
      let b : ℕ = parts_sum passes n ys in
      let rest : parts_sum passes n (xs ++ ys) ≡ a + b = sum-append xs ys in
      omega (arith, rest)

  sum-from : (r : ArcRow (List ℕ) (List ℕ)) (part : ℕ) (costs : List ℕ) → parts_sum passes n (parts_from r part costs) ≡ (if passes_row r then column_from part n costs else 0)
  sum-from r part [] = nothing_each_way (passes_row r)
  sum-from r part (zero ∷ costs) = sum-from r (suc part) costs ∙ none_more (passes_row r) (part == n) (column_from (suc part) n costs)
  sum-from r part (suc m ∷ costs) =
      ap (λ b. parts_sum passes n (if b then part_of r part (suc m) ∷ parts_from r (suc part) costs else parts_from r (suc part) costs)) (is_above m)
      ∙ ap (λ k. (if passes_row r && (part == n) then suc m else 0) + k) (sum-from r (suc part) costs)
      ∙ one_more (passes_row r) (part == n) (suc m) (column_from (suc part) n costs)

-- the parts of a row, by number
counted : (b : Bool) (count : ℕ) → (if b && true then count else 0) + (if b then 0 else 0) ≡ (if b then count else 0)
counted true count = omega arith
counted false count = refl

cost_alone : (b : Bool) (count cost : ℕ) → (if b && false then count else 0) + (if b then cost else 0) ≡ (if b then cost else 0)
cost_alone true count cost = omega arith
cost_alone false count cost = refl

none_is : (k : ℕ) → eqb 0 (suc k) ≡ false
none_is k = grind (arith, nat_tests)

module _ (passes : Spot → Spot → Bool) where
  pub counts_are : (rows : List (ArcRow (List ℕ) (List ℕ))) → calls_count passes rows ≡ parts_sum passes 0 (flat_map parts_of rows)
  counts_are [] = refl
  counts_are (r ∷ rows) =
      let p = passes (caller_of_row r) (callee_of_row r) in
      let one : parts_sum passes 0 (parts_of r) ≡ (if p then r.count else 0) =
      ap (λ m. (if p && true then r.count else 0) + m) (sum-from passes 0 r 1 r.costs ∙ ap (λ m. if p then m else 0) (column-before 1 0 r.costs (omega arith))) ∙ counted p r.count in
      let rest : calls_count passes rows ≡ parts_sum passes 0 (flat_map parts_of rows) = counts_are rows in
      omega (arith, one, rest, sum-append passes 0 (parts_of r) (flat_map parts_of rows))

  pub costs_are : (k : ℕ) (rows : List (ArcRow (List ℕ) (List ℕ))) → calls_cost passes k rows ≡ parts_sum passes (suc k) (flat_map parts_of rows)
  costs_are k [] = refl
  costs_are k (r ∷ rows) =
      let p = passes (caller_of_row r) (callee_of_row r) in
      let one : parts_sum passes (suc k) (parts_of r) ≡ (if p then slice_index r.costs k else 0) =
      ap (λ b. (if p && b then r.count else 0) + parts_sum passes (suc k) (parts_from r 1 r.costs)) (none_is k) ∙ ap (λ m. (if p && false then r.count else 0) + m) (sum-from passes (suc k) r 1 r.costs ∙ ap (λ m. if p then m else 0) (column-at 1 k (suc k) r.costs (omega arith))) ∙ cost_alone p r.count (slice_index r.costs k) in
      let rest : calls_cost passes k rows ≡ parts_sum passes (suc k) (flat_map parts_of rows) = costs_are k rows in
      omega (arith, one, rest, sum-append passes (suc k) (parts_of r) (flat_map parts_of rows))

-- ---- which calls there are

later_is : (k : ℕ) → eqb (suc k) 0 ≡ false
later_is k = grind (arith, nat_tests)

and_none : (a b : Bool) → (a && false) || b ≡ b
and_none true b = refl
and_none false b = refl

first_alone : (a : Bool) → (a && true) || false ≡ a
first_alone true = refl
first_alone false = refl

module _ (passes : Spot → Spot → Bool) where
  any-append : (xs ys : List CallPart) → has_part passes (xs ++ ys) ≡ has_part passes xs || has_part passes ys
  any-append [] ys = refl
  any-append (x ∷ xs) ys =
      let is : Bool = passes (caller_of_part x) (callee_of_part x) && (x.part == 0) in
      ap (λ b. is || b) (any-append xs ys) ∙ joined is (has_part passes xs) (has_part passes ys)
    where
      joined : (a b d : Bool) → a || (b || d) ≡ (a || b) || d
      joined true b d = refl
      joined false b d = refl

  -- costs are no part 0
  none-from : (r : ArcRow (List ℕ) (List ℕ)) (part : ℕ) (costs : List ℕ) → has_part passes (parts_from r (suc part) costs) ≡ false
  none-from r part [] = refl
  none-from r part (zero ∷ costs) = none-from r (suc part) costs
  none-from r part (suc m ∷ costs) =
      ap (λ b. has_part passes (if b then part_of r (suc part) (suc m) ∷ parts_from r (suc (suc part)) costs else parts_from r (suc (suc part)) costs)) (is_above m)
      ∙ ap₂ (λ b d. (passes (caller_of_row r) (callee_of_row r) && b) || d) (later_is part) (none-from r (suc part) costs)
      ∙ and_none (passes (caller_of_row r) (callee_of_row r)) false

  pub calls_are : (rows : List (ArcRow (List ℕ) (List ℕ))) → has_calls passes rows ≡ has_part passes (flat_map parts_of rows)
  calls_are [] = refl
  calls_are (r ∷ rows) =
      let p : Bool = passes (caller_of_row r) (callee_of_row r) in
      let one : has_part passes (parts_of r) ≡ p = ap (λ b. (p && true) || b) (none-from r 0 r.costs) ∙ first_alone p in
      sym (any-append (parts_of r) (flat_map parts_of rows) ∙ ap₂ ◌||◌ one (sym (calls_are rows)))

-- ---- the parts of whole rows

any_later : (passes : Spot → Spot → Bool) (xs ys : List CallPart) → has_part passes ys ≡ true → has_part passes (xs ++ ys) ≡ true
any_later passes xs ys there = any-append passes xs ys ∙ ap (λ b. has_part passes xs || b) there ∙ either (has_part passes xs)
  where
    either : (b : Bool) → b || true ≡ true
    either true = refl
    either false = refl

any_earlier : (passes : Spot → Spot → Bool) (xs ys : List CallPart) → has_part passes xs ≡ true → has_part passes (xs ++ ys) ≡ true
any_earlier passes xs ys there = any-append passes xs ys ∙ ap (λ b. b || has_part passes ys) there

all_weaker : (P Q : CallPart → Type 0) (ps : List CallPart) → ((p : CallPart) → P p → Q p) → AllByRecursion P ps → AllByRecursion Q ps
all_weaker P Q [] weaker all = tt
all_weaker P Q (p ∷ ps) weaker all = (weaker p all.0, all_weaker P Q ps weaker all.1)

-- each part of a row is of the calls of its part 0
row_has_first : (r : ArcRow (List ℕ) (List ℕ)) → AllByRecursion (HasItsFirst (parts_of r)) (parts_of r)
row_has_first r = (first, all-above (HasItsFirst (parts_of r)) (part_of r) (λ part sum above. first) 1 r.costs)
  where
    first : (passes : Spot → Spot → Bool) → passes (caller_of_row r) (callee_of_row r) ≡ true → has_part passes (parts_of r) ≡ true
    first passes is = ap (λ b. (b && true) || has_part passes (parts_from r 1 r.costs)) is

firsts_of : (rows : List (ArcRow (List ℕ) (List ℕ))) → AllByRecursion (HasItsFirst (flat_map parts_of rows)) (flat_map parts_of rows)
firsts_of [] = tt
firsts_of (r ∷ rows) =
    let later : List CallPart = flat_map parts_of rows in
    all-append (HasItsFirst (parts_of r ++ later)) (parts_of r) later
    (all_weaker (HasItsFirst (parts_of r)) (HasItsFirst (parts_of r ++ later)) (parts_of r) (λ p has passes is. any_earlier passes (parts_of r) later (has passes is)) (row_has_first r))
    (all_weaker (HasItsFirst later) (HasItsFirst (parts_of r ++ later)) later (λ p has passes is. any_later passes (parts_of r) later (has passes is)) (firsts_of rows))

above_of : (rows : List (ArcRow (List ℕ) (List ℕ))) → AllByRecursion (λ (p : CallPart). (p.part ≡ 0) ⊎ (0 < p.sum)) (flat_map parts_of rows)
above_of [] = tt
above_of (r ∷ rows) =
    all-append (λ (p : CallPart). (p.part ≡ 0) ⊎ (0 < p.sum)) (parts_of r) (flat_map parts_of rows)
    (inl refl, all-above (λ (p : CallPart). (p.part ≡ 0) ⊎ (0 < p.sum)) (part_of r) (λ part sum above. inr above) 1 r.costs) (above_of rows)

pub whole : (parts : List CallPart) → AreOfRows parts → AreWhole parts
whole parts are = subst AreWhole (sym are.1) (record { firsts = firsts_of are.0; above = above_of are.0 })
