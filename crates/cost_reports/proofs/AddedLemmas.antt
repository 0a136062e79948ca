-- Rows that are added one after another, in whatever order.
use Rattle.std.proofs.Common.{◌≡◌, ℕ, ◌+◌, Bool, true, false, nat_eq, if◌then◌else◌, List, [], ◌∷◌, ◌++◌, fold, sum_by, refl, sym, ap, ap₂, ◌∙◌, arith}
use Rattle.std.proofs.lemmas.Grind.{fold-append}
use Rattle.std.proofs.lemmas.List.Sums.{sum_by-cons}
use Rattle.cost_rows.specs.Keys.{named_cmp, part_of, place_of_row}
use Rattle.cost_rows.specs.KeySums.{Sums, cost_where, rows_of, sums_with, with_row}
use Rattle.cost_rows.specs.Merging.{merge_all}
use Rattle.cost_rows.specs.Sums.{Spot}
use Rattle.cost_rows.specs.declared.keys.Key.{Key}
use Rattle.cost_rows.specs.declared.keys.Key.TheVariants.{Function}
use Rattle.cost_rows.specs.declared.rows.CellRow.{CellRow}
use Rattle.report_texts.specs.Calls.{Calls, CallsOfFunction, asked, other, calls_at, calls_by, with_calls}
use Rattle.report_texts.specs.Functions.{is_one_function}
use Rattle.report_texts.specs.Inclusive.{InclusiveCosts, InclusiveRow, OfSelf, OfCalls, OfStack, by_function, calls_in, functions_in, inclusive_rows, names_costs, no_costs, outward_costs, self_in, row_costs, rows_count, stacks_in, with_inclusive, with_outward, with_self, with_stack}
use Rattle.report_texts.specs.Pairs.{pairs_added}
use Rattle.report_texts.specs.declared.call_sides.CallSide.{CallSide}
use Rattle.report_texts.specs.declared.pairs.Pair.{Pair}
use Rattle.cost_reports.proofs.KeyLemmas.{same_by_key, rows_append, where_append}

-- ---- calls

-- a function's calls are merged one after another
abbrev merged : CallsOfFunction → List (Spot × Pair) → CallsOfFunction
merged held amounts = record held { sums = merge_all named_cmp pairs_added held.sums amounts }

calls_added : (held : CallsOfFunction) (calls : List Calls) → fold with_calls held calls ≡ merged held (calls_at held.side held.function calls)
calls_added held [] = refl
calls_added held (c ∷ calls) = go (is_one_function held.function (asked held.side c)) (λ h. calls_added h calls)
  where
    go : (b : Bool) → ((h : CallsOfFunction) → fold with_calls h calls ≡ merged h (calls_at h.side h.function calls))
        → fold with_calls (if b then merged held ((other held.side c, c.sum) ∷ []) else held) calls
        ≡ merged held (if b then (other held.side c, c.sum) ∷ calls_at held.side held.function calls else calls_at held.side held.function calls)
    go true rest = rest (merged held ((other held.side c, c.sum) ∷ []))
    go false rest = rest held

pub calls_come_to : (side : CallSide) (f : Spot) (calls : List Calls)
    → fold with_calls (record { side = side; function = f; sums = [] }) calls ≡ record { side = side; function = f; sums = calls_by side f calls }
calls_come_to side f calls = calls_added (record { side = side; function = f; sums = [] }) calls

-- ---- inclusive costs

same_key : (s : Sums) (row : CellRow (List ℕ)) → (with_row s row).key ≡ s.key
same_key s row = go (nat_eq row.cost 0)
  where
    go : (b : Bool) → (if b then s else record { key = s.key; sums = sums_with (part_of s.key (place_of_row row)) row.cost s.sums }).key ≡ s.key
    go true = refl
    go false = refl

pub keeps_key : (s : Sums) (cells : List (CellRow (List ℕ))) → (fold with_row s cells).key ≡ s.key
keeps_key s [] = refl
keeps_key s (r ∷ cells) = keeps_key (with_row s r) cells ∙ same_key s r

-- what a row adds
abbrev cells_of : InclusiveRow → List (CellRow (List ℕ))
cells_of (OfSelf row) = row ∷ []
cells_of (OfCalls c) = rows_of (outward_costs (c ∷ []))
cells_of (OfStack row) = rows_of (names_costs row.count (functions_in row.stack))

abbrev all_cells : List InclusiveRow → List (CellRow (List ℕ))
all_cells [] = []
all_cells (r ∷ rows) = cells_of r ++ all_cells rows

one_added : (held : InclusiveCosts) (r : InclusiveRow) → (with_inclusive held r).sums ≡ (fold with_row (by_function held) (cells_of r)).sums
one_added held (OfSelf row) = refl
one_added held (OfCalls c) = refl
one_added held (OfStack row) = refl

sums_added : (held : InclusiveCosts) (rows : List InclusiveRow) → (fold with_inclusive held rows).sums ≡ (fold with_row (by_function held) (all_cells rows)).sums
sums_added held [] = refl
sums_added held (r ∷ rows) =
    let after = fold with_row (by_function held) (cells_of r) in
    let sums : Key → List (Spot × ℕ) → Sums = λ key entries. record { key = key; sums = entries } in
    let is : by_function (with_inclusive held r) ≡ after = ap₂ sums (sym (keeps_key (by_function held) (cells_of r))) (one_added held r) in
    sums_added (with_inclusive held r) rows
    ∙ ap (λ (s : Sums). (fold with_row s (all_cells rows)).sums) is
    ∙ ap (λ (s : Sums). s.sums) (sym (fold-append with_row (by_function held) (cells_of r) (all_cells rows)))

module _ (passes : Spot → Bool) where
  abbrev cost : List (CellRow (List ℕ)) → ℕ
  cost cells = cost_where Function passes cells

  one_outward : (c : Calls) (calls : List Calls) → cost (rows_of (outward_costs (c ∷ calls))) ≡ cost (rows_of (outward_costs (c ∷ []))) + cost (rows_of (outward_costs calls))
  one_outward c calls = go (is_one_function c.caller c.callee)
    where
      go : (b : Bool) → cost (rows_of (if b then outward_costs calls else (c.caller, c.sum.first) ∷ outward_costs calls))
          ≡ cost (rows_of (if b then [] else (c.caller, c.sum.first) ∷ [])) + cost (rows_of (outward_costs calls))
      go true = omega arith
      go false = omega arith

  by_kind : (rows : List InclusiveRow) → cost (all_cells rows) ≡ cost (self_in rows) + (cost (rows_of (outward_costs (calls_in rows))) + cost (rows_of (row_costs (stacks_in rows))))
  by_kind [] = refl
  by_kind (OfSelf row ∷ rows) = let rest = by_kind rows in omega (arith, rest)
  by_kind (OfCalls c ∷ rows) =
      let here = where_append Function passes (rows_of (outward_costs (c ∷ []))) (all_cells rows) in
      let more = one_outward c (calls_in rows) in
      let rest = by_kind rows in
      omega (arith, here, more, rest)
  by_kind (OfStack row ∷ rows) =
      let names = names_costs row.count (functions_in row.stack) in
      let here = where_append Function passes (rows_of names) (all_cells rows) in
      let more = ap (cost_where Function passes) (rows_append names (row_costs (stacks_in rows))) ∙ where_append Function passes (rows_of names) (rows_of (row_costs (stacks_in rows))) in
      let rest = by_kind rows in
      omega (arith, here, more, rest)

  in_order : (rows : List InclusiveRow) → cost (all_cells rows) ≡ cost (self_in rows ++ rows_of (outward_costs (calls_in rows) ++ row_costs (stacks_in rows)))
  in_order rows =
      let calls = outward_costs (calls_in rows) in
      let stacks = row_costs (stacks_in rows) in
      by_kind rows
      ∙ ap (λ n. cost (self_in rows) + n) (sym (ap (cost_where Function passes) (rows_append calls stacks) ∙ where_append Function passes (rows_of calls) (rows_of stacks)))
      ∙ sym (where_append Function passes (self_in rows) (rows_of (calls ++ stacks)))

abbrev self_sum : List (CellRow (List ℕ)) → ℕ
self_sum own = sum_by (λ (r : CellRow (List ℕ)). r.cost) own

total_added : (held : InclusiveCosts) (rows : List InclusiveRow) → (fold with_inclusive held rows).total ≡ held.total + (self_sum (self_in rows) + rows_count (stacks_in rows))
total_added held [] = let n : ℕ = held.total in let e : n ≡ n + (0 + 0) = omega arith in e
total_added held (OfSelf row ∷ rows) =
    let rest = total_added (with_self held row) rows in
    let here = sum_by-cons (λ (r : CellRow (List ℕ)). r.cost) row (self_in rows) in
    omega (arith, rest, here)
total_added held (OfCalls c ∷ rows) = total_added (with_outward held c) rows
total_added held (OfStack row ∷ rows) = let rest = total_added (with_stack held row) rows in omega (arith, rest)

pub inclusive_come_to : (rows : List InclusiveRow) → fold with_inclusive no_costs rows ≡ inclusive_rows (self_in rows) (calls_in rows) (stacks_in rows)
inclusive_come_to rows =
    let costs : List (Spot × ℕ) → ℕ → InclusiveCosts = λ sums total. record { sums = sums; total = total } in
    let total = total_added no_costs rows in
    ap₂ costs
    (sums_added no_costs rows
    ∙ same_by_key Function (all_cells rows) (self_in rows ++ rows_of (outward_costs (calls_in rows) ++ row_costs (stacks_in rows))) (λ passes. in_order passes rows))
    (omega (arith, total))
