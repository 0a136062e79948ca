-- Inclusive costs in two parts: a row that is added to one of them is added to what both come to.
use Rattle.std.proofs.Common.{◌≡◌, ℕ, ◌+◌, Bool, true, false, ◌==◌, ◌&&◌, nat_eq, bytes_eq, if◌then◌else◌, List, [], ◌∷◌, ◌++◌, map, fold, inl, inr, refl, sym, ap, ap₂, subst, ◌∙◌, arith}
use Rattle.std.specs.declared.cmp.Ordering.{Ordering}
use Rattle.std.specs.declared.cmp.Ordering.TheVariants.{Less, Equal, Greater}
use Rattle.std.specs.List.{AllByRecursion}
use Rattle.std.specs.Ordering.{match_ordering}
use Rattle.std.proofs.lemmas.Bool.{and_parts, cases_Bool, eqb-true}
use Rattle.std.proofs.lemmas.Bool.Decides.{nat_tests}
use Rattle.std.proofs.lemmas.Grind.{fold-append}
use Rattle.std.proofs.lemmas.Slice.Eq.{bytes_eq-Decides}
use Rattle.cg_formulas.specs.Formulas.{weighed}
use Rattle.cost_rows.specs.Keys.{part_of, place_of_row}
use Rattle.cost_rows.specs.KeySums.{Sums, cost_where, rows_of, sums_by, sums_with, with_row}
use Rattle.cost_rows.specs.Stacks.{counts_added}
use Rattle.cost_rows.specs.Sums.{Spot}
use Rattle.cost_rows.specs.declared.keys.Key.{Key}
use Rattle.cost_rows.specs.declared.keys.Key.TheVariants.{Function}
use Rattle.cost_rows.specs.declared.rows.ArcRow.{ArcRow}
use Rattle.cost_rows.specs.declared.rows.CellRow.{CellRow}
use Rattle.cost_rows.specs.declared.rows.StackRow.{StackRow}
use Rattle.cost_rows.proofs.KeySumsLemmas.{sums-rows}
use Rattle.report_texts.specs.Calls.{Calls, weighted_calls}
use Rattle.report_texts.specs.Functions.{function_spot, is_one_function}
use Rattle.report_texts.specs.Inclusive.{InclusiveCosts, by_function, functions_in, names_costs, with_outward, with_self, with_stack}
use Rattle.cost_reports.proofs.AddedLemmas.{keeps_key}
use Rattle.cost_reports.proofs.KeyLemmas.{parts_where, rows_of_where, same_by_key, where_append}
use Rattle.run_stores.specs.Book.{name_of, IsHeld}
use Rattle.plain_tables.specs.Tables.{NameRow}
use Rattle.run_stores.specs.Names.{named_call, named_cell, AreApart}
use Rattle.selected_runs.specs.Sums.{SumsByNumber, number_rows, numbers_cmp, numbers_part, numbers_told, numbers_with, told}
use Rattle.selected_runs.specs.declared.parts.NumberPart.{NumberPart}
use Rattle.selected_runs.proofs.NamedSums.{row_more}
use Rattle.selected_runs.proofs.NumberLemmas.{numbers_cmp_apart}
use Rattle.selected_runs.proofs.ToldLemmas.{told_all, told_each}
use Rattle.store_calls.specs.InclusiveParts.{PartSums, AreHeld, called_cell, caller_cell, costs_named, is_of_itself, with_calls, with_function, with_self_costs, with_stacks}

-- ---- rows more

abbrev none : Sums
none = record { key = Function; sums = [] }

-- the sums of some rows, to which others are added
abbrev and_rows : List (Spot × ℕ) → List (CellRow (List ℕ)) → List (Spot × ℕ)
and_rows sums rows = (fold with_row (record { key = Function; sums = sums }) rows).sums

-- are those of rows that cost as much at each function
rows_more : (rows more all : List (CellRow (List ℕ))) → ((passes : Spot → Bool) → cost_where Function passes all ≡ cost_where Function passes rows + cost_where Function passes more)
    → sums_by Function all ≡ and_rows (sums_by Function rows) more
rows_more rows more all same =
    same_by_key Function all (rows ++ more) (λ passes. same passes ∙ sym (where_append Function passes rows more))
    ∙ ap (λ (s : Sums). s.sums) (fold-append with_row none rows more)
    ∙ ap (λ key. (fold with_row (record { key = key; sums = sums_by Function rows }) more).sums) (keeps_key none rows)

-- a cost that is added at its function, and not to what all cost by themselves
abbrev with_cell : InclusiveCosts → CellRow (List ℕ) → InclusiveCosts
with_cell held row = record held { sums = and_rows held.sums (row ∷ []) }

-- the rows of sums to which rows are added
added_where : (passes : Spot → Bool) (sums : List (Spot × ℕ)) (more : List (CellRow (List ℕ)))
    → cost_where Function passes (rows_of (and_rows sums more)) ≡ cost_where Function passes (rows_of sums) + cost_where Function passes more
added_where passes sums more =
    let at : Spot → Bool = λ p. passes (part_of Function p) in
    rows_of_where Function passes (and_rows sums more)
    ∙ sums-rows at more (record { key = Function; sums = sums })
    ∙ ap₂ ◌+◌ (sym (rows_of_where Function passes sums)) (parts_where Function passes more)

module _ (names : List NameRow) where
  -- the sums by number, with their names
  abbrev cells_of : List (NumberPart × ℕ) → List (CellRow (List ℕ))
  cells_of numbers = map (named_cell names) (number_rows numbers)

  -- a row that is added by number
  number_added : (numbers : List (NumberPart × ℕ)) (stacks : List (Spot × ℕ)) (row : CellRow ℕ)
      → sums_by Function (cells_of (with_function numbers row) ++ rows_of stacks) ≡ and_rows (sums_by Function (cells_of numbers ++ rows_of stacks)) (named_cell names row ∷ [])
  number_added numbers stacks row =
      let old = cells_of numbers in
      let new = cells_of (with_function numbers row) in
      rows_more (old ++ rows_of stacks) (named_cell names row ∷ []) (new ++ rows_of stacks) (λ passes.
      let before = where_append Function passes old (rows_of stacks) in
      let after = where_append Function passes new (rows_of stacks) in
      let one : cost_where Function passes new ≡ cost_where Function passes old + (if passes (part_of Function (place_of_row (named_cell names row))) then row.cost else 0) =
      row_more names passes (record { key = Function; sums = numbers }) row in
      omega (arith, before, after, one))

  -- rows that are added to the other part
  stacks_added : (numbers : List (NumberPart × ℕ)) (stacks : List (Spot × ℕ)) (more : List (CellRow (List ℕ)))
      → sums_by Function (cells_of numbers ++ rows_of (and_rows stacks more)) ≡ and_rows (sums_by Function (cells_of numbers ++ rows_of stacks)) more
  stacks_added numbers stacks more =
      rows_more (cells_of numbers ++ rows_of stacks) more (cells_of numbers ++ rows_of (and_rows stacks more)) (λ passes.
      let before = where_append Function passes (cells_of numbers) (rows_of stacks) in
      let after = where_append Function passes (cells_of numbers) (rows_of (and_rows stacks more)) in
      let these = added_where passes stacks more in
      omega (arith, before, after, these))

  -- one part that is added to the other
  pub parts_added : (numbers : List (NumberPart × ℕ)) (stacks : List (Spot × ℕ)) (costs : Sums) → costs.key ≡ Function → costs.sums ≡ sums_by Function (cells_of numbers)
      → (fold with_row costs (rows_of stacks)).sums ≡ sums_by Function (cells_of numbers ++ rows_of stacks)
  parts_added numbers stacks costs key sums =
      let held : Key → List (Spot × ℕ) → Sums = λ key sums. record { key = key; sums = sums } in
      ap (λ (s : Sums). (fold with_row s (rows_of stacks)).sums) (ap₂ held key sums)
      ∙ sym (rows_more (cells_of numbers) (rows_of stacks) (cells_of numbers ++ rows_of stacks) (λ passes. where_append Function passes (cells_of numbers) (rows_of stacks)))

  -- ---- both parts with a row more

  pub self_more : (s : PartSums) (row : CellRow ℕ) → costs_named names (with_self_costs s row) ≡ with_self (costs_named names s) (named_cell names row)
  self_more s row =
      let held : List (Spot × ℕ) → ℕ → InclusiveCosts = λ sums total. record { sums = sums; total = total } in
      let total : (s.self_cost + row.cost) + s.stacks.total ≡ (s.self_cost + s.stacks.total) + row.cost = omega arith in
      ap₂ held (number_added s.numbers s.stacks.sums row) total

  -- calls, at the caller
  caller_more : (s : PartSums) (row : ArcRow ℕ (List ℕ)) (cost : ℕ) → costs_named names (with_calls s row cost) ≡ with_cell (costs_named names s) (named_cell names (caller_cell row cost))
  caller_more s row cost =
      let held : List (Spot × ℕ) → InclusiveCosts = λ sums. record { sums = sums; total = s.self_cost + s.stacks.total } in
      ap held (number_added s.numbers s.stacks.sums (caller_cell row cost))

  pub stack_more : (s : PartSums) (row : StackRow (List ℕ)) → costs_named names (with_stacks s row) ≡ with_stack (costs_named names s) row
  stack_more s row =
      let held : List (Spot × ℕ) → ℕ → InclusiveCosts = λ sums total. record { sums = sums; total = total } in
      let total : s.self_cost + (s.stacks.total + row.count) ≡ (s.self_cost + s.stacks.total) + row.count = omega arith in
      ap₂ held (stacks_added s.numbers s.stacks.sums (rows_of (names_costs row.count (functions_in row.stack)))) total

-- ---- names that are held

-- what holds of each sum after a cost is added holds of each before, and of the new one
all_before : (Q : NumberPart → Type 0) (part : NumberPart) (cost : ℕ) (es : List (NumberPart × ℕ)) → AllByRecursion (λ (e : NumberPart × ℕ). Q e.0) (numbers_with part cost es)
    → Q part × AllByRecursion (λ (e : NumberPart × ℕ). Q e.0) es
all_before Q part cost [] all = (all.0, tt)
all_before Q part cost (e ∷ es) all = go (numbers_cmp part e.0) refl (all_before Q part cost es) all
  where
    go : (r : Ordering) → numbers_cmp part e.0 ≡ r
        → (AllByRecursion (λ (e : NumberPart × ℕ). Q e.0) (numbers_with part cost es) → Q part × AllByRecursion (λ (e : NumberPart × ℕ). Q e.0) es)
        → AllByRecursion (λ (e : NumberPart × ℕ). Q e.0) (match_ordering r ((part, cost) ∷ e ∷ es) ((e.0, counts_added e.1 cost) ∷ es) (e ∷ numbers_with part cost es))
        → Q part × AllByRecursion (λ (e : NumberPart × ℕ). Q e.0) (e ∷ es)
    go Less is more all = (all.0, all.1)
    go Equal is more all = (subst Q (sym (numbers_cmp_apart part e.0 is)) all.0, (all.0, all.1))
    go Greater is more all = let rest = more all.1 in (rest.0, (all.0, rest.1))

module _ (P : ℕ → Type 0) (sums : List (NumberPart × ℕ)) (row : CellRow ℕ) where
  -- what is told with a row more, where it costs something
  told_with : AllByRecursion P (numbers_told Function (numbers_with (numbers_part Function row) row.cost sums)) → (P row.object × P row.function) × AllByRecursion P (numbers_told Function sums)
  told_with all =
      let each = told_each P Function (numbers_with (numbers_part Function row) row.cost sums) all in
      let both = all_before (λ part. AllByRecursion P (told Function part)) (numbers_part Function row) row.cost sums each in
      ((both.0.0, both.0.1.0), told_all P Function sums both.1)

  abbrev with_it : Bool → SumsByNumber
  with_it is_free = if is_free then record { key = Function; sums = sums } else record { key = Function; sums = numbers_with (numbers_part Function row) row.cost sums }

  -- numbers that were told are told yet
  told_before : AllByRecursion P (numbers_told Function (with_function sums row)) → AllByRecursion P (numbers_told Function sums)
  told_before all = go (nat_eq row.cost 0) all
    where
      go : (is_free : Bool) → AllByRecursion P (numbers_told Function (with_it is_free).sums) → AllByRecursion P (numbers_told Function sums)
      go true all = all
      go false all = (told_with all).1

  -- and so are those of a row that costs something
  told_of_row : nat_eq row.cost 0 ≡ false → AllByRecursion P (numbers_told Function (with_function sums row)) → P row.object × P row.function
  told_of_row some all = go (nat_eq row.cost 0) some all
    where
      go : (is_free : Bool) → is_free ≡ false → AllByRecursion P (numbers_told Function (with_it is_free).sums) → P row.object × P row.function
      go true some all = absurd (let bad : true ≡ false = some in cc)
      go false some all = (told_with all).0

pub self_held : (names : List NameRow) (s : PartSums) (row : CellRow ℕ) → AreHeld names (with_self_costs s row) → AreHeld names s
self_held names s row held = (told_before (IsHeld names) s.numbers row held.0, held.1)

calls_held : (names : List NameRow) (s : PartSums) (row : ArcRow ℕ (List ℕ)) (cost : ℕ) → AreHeld names (with_calls s row cost) → AreHeld names s
calls_held names s row cost held = (told_before (IsHeld names) s.numbers (caller_cell row cost) held.0, told_before (IsHeld names) s.called (called_cell row cost) held.1)

-- ---- calls of the caller itself

same_bytes : (name : List ℕ) → bytes_eq name name ≡ true
same_bytes name = (bytes_eq-Decides name name).1 refl

same_number : (n : ℕ) → (n == n) ≡ true
same_number n = grind (arith, nat_tests)

module _ (names : List NameRow) where
  abbrev caller : ArcRow ℕ (List ℕ) → Spot
  caller row = function_spot (name_of names row.object) (name_of names row.function)

  abbrev callee : ArcRow ℕ (List ℕ) → Spot
  callee row = function_spot (name_of names row.called_object) (name_of names row.called_function)

  -- by number, and so by name
  one_by_number : (row : ArcRow ℕ (List ℕ)) → is_of_itself row ≡ true → is_one_function (caller row) (callee row) ≡ true
  one_by_number row is =
      let both = and_parts _ _ is in
      let object : row.object ≡ row.called_object = eqb-true row.object row.called_object both.0 in
      let function : row.function ≡ row.called_function = eqb-true row.function row.called_function both.1 in
      ap₂ (λ n m. bytes_eq (name_of names row.object) (name_of names n) && bytes_eq (name_of names row.function) (name_of names m)) (sym object) (sym function)
      ∙ ap₂ ◌&&◌ (same_bytes (name_of names row.object)) (same_bytes (name_of names row.function))

  -- by name, and so by number, where names are told apart
  one_by_name : (row : ArcRow ℕ (List ℕ)) → AreApart names → IsHeld names row.object × IsHeld names row.function → IsHeld names row.called_object × IsHeld names row.called_function
      → is_one_function (caller row) (callee row) ≡ true → is_of_itself row ≡ true
  one_by_name row apart from to is =
      let both = and_parts _ _ is in
      let object : row.object ≡ row.called_object = apart row.object row.called_object from.0 to.0 ((bytes_eq-Decides (name_of names row.object) (name_of names row.called_object)).0 both.0) in
      let function : row.function ≡ row.called_function = apart row.function row.called_function from.1 to.1 ((bytes_eq-Decides (name_of names row.function) (name_of names row.called_function)).0 both.1) in
      ap₂ (λ n m. (row.object == n) && (row.function == m)) (sym object) (sym function)
      ∙ ap₂ ◌&&◌ (same_number row.object) (same_number row.function)

-- what is free costs nothing
cell_nothing : (held : InclusiveCosts) (cell : CellRow (List ℕ)) → nat_eq cell.cost 0 ≡ true → with_cell held cell ≡ held
cell_nothing held cell is_free =
    let sums : Bool → Sums = λ b. if b then by_function held else record { key = Function; sums = sums_with (part_of Function (place_of_row cell)) cell.cost held.sums } in
    let costs : Bool → InclusiveCosts = λ b. record held { sums = (sums b).sums } in
    ap costs is_free

-- calls to another function cost as much at the caller, and others nothing
module _ (held : InclusiveCosts) (c : Calls) where
  abbrev outward : Bool → InclusiveCosts
  outward one = record held { sums = (fold with_row (by_function held) (rows_of (if one then [] else (c.caller, c.sum.first) ∷ []))).sums }

  outward_is : (one : Bool) → is_one_function c.caller c.callee ≡ one → with_outward held c ≡ outward one
  outward_is one is = ap outward is

  costs_nothing : nat_eq c.sum.first 0 ≡ true → with_outward held c ≡ held
  costs_nothing is_free = go (is_one_function c.caller c.callee)
    where
      go : (one : Bool) → outward one ≡ held
      go true = refl
      go false = rw is_free refl

module _ (names : List NameRow) (apart : AreApart names) (s : PartSums) (counts : List ℕ) (row : ArcRow ℕ (List ℕ)) where
  abbrev cost : ℕ
  cost = weighed counts row.costs

  abbrev calls : Calls
  calls = weighted_calls counts (named_call names row)

  abbrev at_caller : CellRow (List ℕ)
  at_caller = named_cell names (caller_cell row cost)

  -- whether they are of the caller itself, names tell as numbers do
  outward_more : is_of_itself row ≡ false → AreHeld names (with_calls s row cost) → with_cell (costs_named names s) at_caller ≡ with_outward (costs_named names s) calls
  outward_more other held = go (nat_eq cost 0) refl
    where
      is_other : nat_eq cost 0 ≡ false → is_one_function calls.caller calls.callee ≡ false
      is_other some = elim (cases_Bool (is_one_function calls.caller calls.callee)) [
        | inl one ↦
            let from = told_of_row (IsHeld names) s.numbers (caller_cell row cost) some held.0 in
            let to = told_of_row (IsHeld names) s.called (called_cell row cost) some held.1 in
            let same = one_by_name names row apart from to one in
            absurd (let bad : false ≡ true = sym other ∙ same in cc)
        | inr two ↦ two
      ]

      go : (is_free : Bool) → nat_eq cost 0 ≡ is_free → with_cell (costs_named names s) at_caller ≡ with_outward (costs_named names s) calls
      go true is_free = cell_nothing (costs_named names s) at_caller is_free ∙ sym (costs_nothing (costs_named names s) calls is_free)
      go false some = sym (outward_is (costs_named names s) calls false (is_other some))

  pub calls_more : AreHeld names (if is_of_itself row then s else with_calls s row cost)
      → AreHeld names s × (costs_named names (if is_of_itself row then s else with_calls s row cost) ≡ with_outward (costs_named names s) calls)
  calls_more held = go (is_of_itself row) refl held
    where
      go : (own : Bool) → is_of_itself row ≡ own → AreHeld names (if own then s else with_calls s row cost)
          → AreHeld names s × (costs_named names (if own then s else with_calls s row cost) ≡ with_outward (costs_named names s) calls)
      go true is held = (held, sym (outward_is (costs_named names s) calls true (one_by_number names row is)))
      go false is held = (calls_held names s row cost held, caller_more names s row cost ∙ outward_more is held)
