-- Costs by line: what is found at a line, and what is outside.
use Rattle.std.proofs.Common.{inl, inr, ◌≡◌, ℕ, ◌+◌, Bool, true, false, ◌&&◌, ◌||◌, ◌==◌, bytes_eq, cond, if◌then◌else◌, List, [], ◌∷◌, length, fold, Some, unwrap_or, refl, sym, ap, ap₂, ◌∙◌, arith}
use Rattle.std.proofs.lemmas.Bool.{eq-eqb}
use Rattle.std.proofs.Math.Nat.{add-zero, zero-add}
use Rattle.std.specs.declared.cmp.Ordering.{Ordering}
use Rattle.std.specs.declared.cmp.Ordering.TheVariants.{Less, Equal, Greater}
use Rattle.std.specs.Cmp.{nat_cmp_total}
use Rattle.std.specs.BTreeMap.{is_at}
use Rattle.std.specs.List.{AllByRecursion}
use Rattle.std.specs.List.Sorted.{IsStrictlySortedBy}
use Rattle.std.specs.Map.{lookup, keys_of}
use Rattle.std.specs.Ordering.{nat_cmp, is_eq}
use Rattle.std.specs.Str.Lines.{strip_carriage_return}
use Rattle.std.proofs.lemmas.Bool.{cases_Bool}
use Rattle.std.proofs.lemmas.Bool.Decides.{nat_tests}
use Rattle.std.proofs.lemmas.Cmp.{tied_itself}
use Rattle.std.proofs.lemmas.Map.Keys.{sorted_head, sorted_tail}
use Rattle.std.proofs.lemmas.Map.Lookups.{exact_unsigned}
use Rattle.cg_text.specs.Lines.{lines_of, numbered}
use Rattle.cost_rows.specs.KeySums.{cost_where, rows_of}
use Rattle.cost_rows.specs.Merging.{sum_where, TellsApart}
use Rattle.cost_rows.specs.Sums.{Spot}
use Rattle.cost_rows.specs.declared.keys.Key.TheVariants.{Line}
use Rattle.cost_rows.specs.declared.rows.CellRow.{CellRow}
use Rattle.report_texts.specs.Costs.{EventCells, EventRecords, StandForEach, all_costs, all_rows}
use Rattle.cost_reports.proofs.CostLemmas.{same_costs}
use Rattle.report_texts.specs.Amounts.{amount_of, with_amount}
use Rattle.report_texts.specs.Annotations.{Annotation, FileCosts, SourceLine, annotation_of, annotation_of_records, cost_at, cost_of_lines, costs_in, is_outside, no_lines, outside_cost, source_lines, with_line}
use Rattle.cost_exports.proofs.AmountLemmas.{sum-with}

pub nat_apart : TellsApart nat_cmp
nat_apart = exact_unsigned

-- ---- a line is found

differs : (line n : ℕ) (o : Ordering) → nat_cmp line n ≡ o → is_eq o ≡ false → (n == line) ≡ false
differs line n o is other = elim (cases_Bool (n == line)) [
  | inl same ↦
      let e : n ≡ line = grind (arith, nat_tests) in
      let tied : is_eq (nat_cmp line n) ≡ true = ap (λ k. is_eq (nat_cmp line k)) e ∙ tied_is line in
      absurd (let clash : true ≡ false = sym tied ∙ ap is_eq is ∙ other in cc)
  | inr not_same ↦ not_same
]
  where
    tied_is : (k : ℕ) → is_eq (nat_cmp k k) ≡ true
    tied_is k = ap is_eq (tied_itself nat_cmp_total k)

-- a line below all others costs nothing among them
none_below : (line : ℕ) (es : List (ℕ × ℕ)) → AllByRecursion (λ y. nat_cmp line y ≡ Less) (keys_of es) → cost_at line es ≡ 0
none_below line [] all = refl
none_below line (e ∷ es) all = rw (differs line e.0 Less all.0 refl) (ap (λ n. 0 + n) (none_below line es all.1))

pub cost-found : (line : ℕ) (es : List (ℕ × ℕ)) → IsStrictlySortedBy nat_cmp (keys_of es) → unwrap_or (lookup (is_at (nat_cmp line)) es) 0 ≡ cost_at line es
cost-found line [] sorted = refl
cost-found line (e ∷ es) sorted = go (nat_cmp line e.0) refl (cost-found line es (sorted_tail nat_cmp e.0 (keys_of es) sorted))
  where
    above : AllByRecursion (λ y. nat_cmp e.0 y ≡ Less) (keys_of es)
    above = sorted_head nat_cmp e.0 (keys_of es) sorted

    go : (o : Ordering) → nat_cmp line e.0 ≡ o → unwrap_or (lookup (is_at (nat_cmp line)) es) 0 ≡ cost_at line es
        → unwrap_or (cond (is_eq o) (Some e.1) (lookup (is_at (nat_cmp line)) es)) 0 ≡ cost_at line (e ∷ es)
    go Less is rest = rw (differs line e.0 Less is refl) (rest ∙ sym (zero-add (cost_at line es)))
    go Equal is rest =
        let here : line ≡ e.0 = exact_unsigned line e.0 is in
        let found : (e.0 == line) ≡ true = ap (λ n. e.0 == n) here ∙ eq-eqb e.0 e.0 refl in
        let none : cost_at line es ≡ 0 = ap (λ n. cost_at n es) here ∙ none_below e.0 es above in
        rw found (omega (arith, none))
    go Greater is rest = rw (differs line e.0 Greater is refl) (rest ∙ sym (zero-add (cost_at line es)))

-- ---- what is shown, and what is outside

-- of lines after so many, one is the next or is further outside
outside_next : (k n : ℕ) → (is_outside k n ≡ (n == k + 1) || is_outside (k + 1) n) × ((n == k + 1) && is_outside (k + 1) n ≡ false)
outside_next k n = (grind (arith, nat_tests), grind (arith, nat_tests))

either : (a b c : Bool) (n x y z : ℕ) → c ≡ a || b → a && b ≡ false → z ≡ x + y → (if c then n else 0) + z ≡ ((if a then n else 0) + x) + ((if b then n else 0) + y)
either true true c n x y z is none sum = absurd cc
either true false c n x y z is none sum = rw is (omega (arith, sum))
either false true c n x y z is none sum = rw is (omega (arith, sum))
either false false c n x y z is none sum = rw is (omega (arith, sum))

outside-step : (k : ℕ) (costs : List (ℕ × ℕ)) → outside_cost k costs ≡ cost_at (k + 1) costs + outside_cost (k + 1) costs
outside-step k [] = refl
outside-step k (e ∷ costs) =
    let one = outside_next k e.0 in
    either (e.0 == k + 1) (is_outside (k + 1) e.0) (is_outside k e.0) e.1 (cost_at (k + 1) costs) (outside_cost (k + 1) costs) (outside_cost k costs) one.0 one.1 (outside-step k costs)

pub shown-outside : (k : ℕ) (costs : List (ℕ × ℕ)) (lines : List (List ℕ)) → outside_cost k costs ≡ cost_of_lines (source_lines costs (numbered (k + 1) lines)) + outside_cost (k + length lines) costs
shown-outside k costs [] = ap (λ n. outside_cost n costs) (sym (add-zero k)) ∙ sym (zero-add (outside_cost (k + 0) costs))
shown-outside k costs (line ∷ lines) =
    let here = outside-step k costs in
    let rest = shown-outside (k + 1) costs lines in
    let far : (k + 1) + length lines ≡ k + length (line ∷ lines) = omega arith in
    let last = ap (λ n. outside_cost n costs) far in
    omega (arith, here, rest, last)

all_outside : (n : ℕ) → is_outside 0 n ≡ true
all_outside n = grind (arith, nat_tests)

pub outside-all : (costs : List (ℕ × ℕ)) → outside_cost 0 costs ≡ amount_of costs
outside-all [] = refl
outside-all (e ∷ costs) = rw (all_outside e.0) (ap (λ n. e.1 + n) (outside-all costs))

pub total-shown : (costs : List (ℕ × ℕ)) (lines : List (List ℕ)) → amount_of costs ≡ cost_of_lines (source_lines costs (numbered 1 lines)) + outside_cost (length lines) costs
total-shown costs lines = sym (outside-all costs) ∙ shown-outside 0 costs lines ∙ ap (λ n. cost_of_lines (source_lines costs (numbered 1 lines)) + outside_cost n costs) (zero-add (length lines))

-- ---- costs with the same sums have the same annotation

module _ (xs ys : List (ℕ × ℕ)) (same : (passes : ℕ → Bool) → sum_where passes (λ n. n) xs ≡ sum_where passes (λ n. n) ys) where
  same_lines : (lines : List (ℕ × List ℕ)) → source_lines xs lines ≡ source_lines ys lines
  same_lines [] = refl
  same_lines (l ∷ lines) =
      let at : ℕ → SourceLine = λ cost. record { number = l.0; text = strip_carriage_return l.1; cost = cost } in
      ap₂ (λ (x : SourceLine) rest. x ∷ rest) (ap at (same (λ n. n == l.0))) (same_lines lines)

  pub same_annotation : (file source : List ℕ) → annotation_of file source xs ≡ annotation_of file source ys
  same_annotation file source =
      let made : List SourceLine → ℕ → ℕ → Annotation = λ lines outside total. record { file = file; lines = lines; outside = outside; total = total } in
      let lines = numbered 1 (lines_of source) in
      ap (λ l. made l (outside_cost (length (lines_of source)) xs) (amount_of xs)) (same_lines lines)
      ∙ ap₂ (λ n m. made (source_lines ys lines) n m) (same (is_outside (length (lines_of source)))) (same (λ _. true))

-- ---- from rows to records

pub file-step : (held : FileCosts) (row : CellRow (List ℕ)) → (with_line held row).file ≡ held.file
file-step held row = go (bytes_eq row.file held.file)
  where
    go : (b : Bool) → (if b then record { file = held.file; known = true; costs = with_amount nat_cmp held.costs row.line row.cost } else held).file ≡ held.file
    go true = refl
    go false = refl

module _ (file : List ℕ) (passes : ℕ → Bool) where
  abbrev there : Spot → Bool
  there p = bytes_eq p.file file && passes p.line

  records-where : (costs : List (Spot × ℕ)) → sum_where passes (λ n. n) (costs_in file costs) ≡ cost_where Line there (rows_of costs)
  records-where [] = refl
  records-where (e ∷ costs) = go (bytes_eq e.0.file file) (records-where costs)
    where
      go : (b : Bool) → sum_where passes (λ n. n) (costs_in file costs) ≡ cost_where Line there (rows_of costs)
          → sum_where passes (λ n. n) (if b then (e.0.line, e.1) ∷ costs_in file costs else costs_in file costs) ≡ (if b && passes e.0.line then e.1 else 0) + cost_where Line there (rows_of costs)
      go true rest = ap (λ n. (if passes e.0.line then e.1 else 0) + n) rest
      go false rest = rest ∙ sym (zero-add (cost_where Line there (rows_of costs)))

  line-step : (held : FileCosts) (row : CellRow (List ℕ)) (b : Bool)
      → sum_where passes (λ n. n) (if b then record { file = held.file; known = true; costs = with_amount nat_cmp held.costs row.line row.cost } else held).costs
      ≡ sum_where passes (λ n. n) held.costs + (if b && passes row.line then row.cost else 0)
  line-step held row true = sum-with nat_apart passes held.costs row.line row.cost
  line-step held row false = sym (add-zero (sum_where passes (λ n. n) held.costs))

  rows-where : (rows : List (CellRow (List ℕ))) (held : FileCosts) → held.file ≡ file → sum_where passes (λ n. n) (fold with_line held rows).costs ≡ sum_where passes (λ n. n) held.costs + cost_where Line there rows
  rows-where [] held is = sym (add-zero (sum_where passes (λ n. n) held.costs))
  rows-where (row ∷ rows) held is =
      let one = line-step held row (bytes_eq row.file held.file) ∙ ap (λ f. sum_where passes (λ n. n) held.costs + (if bytes_eq row.file f && passes row.line then row.cost else 0)) is in
      let rest = rows-where rows (with_line held row) (file-step held row ∙ is) in
      omega (arith, one, rest)

pub annotation-records : (file source : List ℕ) (files : List EventRecords) (runs : List EventCells) → StandForEach files runs
    → annotation_of file source (fold with_line (no_lines file) (all_rows runs)).costs ≡ annotation_of_records file source files
annotation-records file source files runs stand =
    same_annotation (fold with_line (no_lines file) (all_rows runs)).costs (costs_in file (all_costs files))
    (λ passes.
    rows-where file passes (all_rows runs) (no_lines file) refl
    ∙ zero-add (cost_where Line (there file passes) (all_rows runs))
    ∙ same_costs Line (there file passes) files runs stand
    ∙ sym (records-where file passes (all_costs files)))
    file source
