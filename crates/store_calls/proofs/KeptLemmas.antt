-- Calls that are kept by number, with names in place, are those that are taken by name.
use Rattle.std.proofs.Common.{◌≡◌, ◌≢◌, ℕ, ◌+◌, ◌≤◌, Bool, true, false, ◌&&◌, ◌||◌, if◌then◌else◌, List, [], ◌∷◌, ◌++◌, map, fold, bytes_eq, get_or, Fits, w8, refl, sym, ap, ap₂, ◌∙◌, arith}
use Rattle.std.proofs.Math.Bool.{or-false, or_assoc}
use Rattle.std.specs.Prelude.{unwrap_or}
use Rattle.std.proofs.lemmas.Grind.{fold-append}
use Rattle.std.proofs.lemmas.List.{map-append}
use Rattle.std.proofs.lemmas.Slice.Eq.{bytes_eq-Decides}
use Rattle.cg_formulas.specs.Formulas.{weighed}
use Rattle.cost_rows.specs.Keys.{named_cmp}
use Rattle.cost_rows.specs.Merging.{merge}
use Rattle.cost_rows.specs.Sums.{Spot}
use Rattle.cost_rows.specs.declared.rows.ArcRow.{ArcRow}
use Rattle.cost_rows.specs.declared.rows.StackRow.{StackRow}
use Rattle.report_texts.specs.Calls.{Calls, CallsOfFunction, asked, other, weighted_calls, with_calls}
use Rattle.report_texts.specs.Functions.{is_one_function}
use Rattle.report_texts.specs.Inclusive.{is_frame}
use Rattle.report_texts.specs.Pairs.{firsts_of, pairs_added, pairs_by, pairs_with, seconds_of}
use Rattle.report_texts.specs.declared.call_sides.CallSide.{CallSide}
use Rattle.report_texts.specs.declared.call_sides.CallSide.TheVariants.{Callers, Callees}
use Rattle.report_texts.specs.declared.pairs.Pair.{Pair}
use Rattle.cost_reports.proofs.PairLemmas.{total_with}
use Rattle.run_stores.specs.Book.{cell_held, no_name}
use Rattle.plain_tables.specs.RunRows.{calls_in}
use Rattle.plain_tables.specs.Tables.{StoredCell, NameRow, Tables}
use Rattle.run_stores.specs.Names.{AreApart, IsNumberOf, named_call}
use Rattle.run_stores.proofs.Numbers.{number_tells}
use Rattle.run_stores.specs.Walks.{CallsFoldTo, cell_numbers}
use Rattle.selected_runs.proofs.NamedRowLemmas.{parts_named}
use Rattle.selected_runs.specs.declared.counting.Counted.{Counted}
use Rattle.store_calls.specs.FunctionCalls.{IsTakenFrom, Taken, is_in_cells, is_in_stacks, not_taken, with_call}
use Rattle.store_calls.specs.KeptCalls.{IsAsked, Keeping, Kept, calls_named, has_numbers, keeps_row, kept_call, kept_of, named_function, other_named, spot_asked, sums_named, taken_named, with_cell_sought, with_kept, with_stack_sought}
use Rattle.store_calls.specs.declared.asked_functions.AskedFunction.{AskedFunction}
use Rattle.store_calls.specs.declared.asked_functions.FunctionNumbers.{FunctionNumbers}
use Rattle.store_calls.specs.declared.kept_rows.KeptCall.{KeptCall}
use Rattle.store_calls.specs.declared.kept_rows.KeptCalls.{KeptCalls}

-- ---- one function

same_bytes : (a b : List ℕ) → bytes_eq a b ≡ true → bytes_eq b a ≡ true
same_bytes a b same = (bytes_eq-Decides b a).1 (sym ((bytes_eq-Decides a b).0 same))

turned_bytes : (a b : List ℕ) → bytes_eq a b ≡ bytes_eq b a
turned_bytes a b = go (bytes_eq a b) (bytes_eq b a) (same_bytes a b) (same_bytes b a)
  where
    go : (x y : Bool) → (x ≡ true → y ≡ true) → (y ≡ true → x ≡ true) → x ≡ y
    go true y one two = sym (one refl)
    go false true one two = two refl
    go false false one two = refl

turned : (p q : Spot) → is_one_function p q ≡ is_one_function q p
turned p q = ap₂ ◌&&◌ (turned_bytes p.object q.object) (turned_bytes p.function q.function)

itself : (f : Spot) → is_one_function f f ≡ true
itself f = ap₂ ◌&&◌ ((bytes_eq-Decides f.object f.object).1 refl) ((bytes_eq-Decides f.function f.function).1 refl)

-- what stands for no name is no bytes
pub no_bytes : (bytes : List ℕ) → ((i : ℕ) → Fits w8 (get_or bytes i 0)) → bytes ≢ no_name
no_bytes bytes fit none =
    let fits = (fit 0).fits in
    let first = ap (λ xs. get_or xs 0 0) none in
    omega (arith, fits, first)

-- numbers that are asked for tell the function
pub numbers_tell_functions : (names : List NameRow) → AreApart names → (of : AskedFunction) → of.object.now ≢ no_name → of.name.now ≢ no_name
    → IsNumberOf names of.object.now of.numbers.object → IsNumberOf names of.name.now of.numbers.function → IsAsked names of
numbers_tell_functions names apart of some_object some_name is_object is_function object function =
    ap₂ ◌&&◌ (number_tells names apart of.object.now some_object of.numbers.object is_object object) (number_tells names apart of.name.now some_name of.numbers.function is_function function)

-- ---- rows of calls

abbrev pub no_call : KeptCall
no_call = record { object = 0; function = 0; sum = record { first = 0; second = 0 } }

module _ (names : List NameRow) (f : Spot) where
  abbrev pub sums_at : CallSide → List (Spot × Pair) → CallsOfFunction
  sums_at side sums = record { side = side; function = f; sums = sums }

  pub one_more : (calls : List KeptCall) (c : KeptCall) → pairs_by (map (other_named names) (calls ++ c ∷ [])) ≡ pairs_with (named_function names c.object c.function) c.sum (pairs_by (map (other_named names) calls))
  one_more calls c =
      ap pairs_by (map-append (other_named names) calls (c ∷ []))
      ∙ fold-append (λ es a. merge named_cmp pairs_added es a.0 a.1) [] (map (other_named names) calls) (other_named names c ∷ [])

  -- a row that is added by name
  pub call_added : (side : CallSide) (c : KeptCall) (sums : List (Spot × Pair))
      → with_calls (sums_at side sums) (calls_named names side f c) ≡ sums_at side (pairs_with (named_function names c.object c.function) c.sum sums)
  call_added Callers c sums = ap (λ b. if b then sums_at Callers (pairs_with (named_function names c.object c.function) c.sum sums) else sums_at Callers sums) (itself f)
  call_added Callees c sums = ap (λ b. if b then sums_at Callees (pairs_with (named_function names c.object c.function) c.sum sums) else sums_at Callees sums) (itself f)

  -- kept where it is asked
  kept_where : (a b : Bool) (side : CallSide) (calls : List KeptCall) (c : KeptCall) → a ≡ b
      → sums_at side (pairs_by (map (other_named names) (if a then calls ++ c ∷ [] else calls)))
      ≡ (if b then sums_at side (pairs_with (named_function names c.object c.function) c.sum (pairs_by (map (other_named names) calls))) else sums_at side (pairs_by (map (other_named names) calls)))
  kept_where true true side calls c same = ap (sums_at side) (one_more calls c)
  kept_where false false side calls c same = refl
  kept_where true false side calls c same = absurd (cc same)
  kept_where false true side calls c same = absurd (cc same)

module _ (names : List NameRow) (of : AskedFunction) (is : IsAsked names of) where
  abbrev f : Spot
  f = spot_asked of

  there : (object function : ℕ) → has_numbers of.numbers object function ≡ is_one_function f (named_function names object function)
  there object function = is object function ∙ turned (named_function names object function) f

  kept_on : (side : CallSide) (known : Bool) (calls : List KeptCall) (counts : List ℕ) (r : ArcRow ℕ (List ℕ)) → let m : Kept = record { side = side; known = known; calls = calls } in
      sums_named names f (with_kept of.numbers counts m r) ≡ with_calls (sums_named names f m) (weighted_calls counts (named_call names r))
  kept_on Callers known calls counts r = kept_where names f _ _ Callers calls (kept_call Callers (weighed counts r.costs) r) (there r.called_object r.called_function)
  kept_on Callees known calls counts r = kept_where names f _ _ Callees calls (kept_call Callees (weighed counts r.costs) r) (there r.object r.function)

  kept_one : (counts : List ℕ) (m : Kept) (r : ArcRow ℕ (List ℕ)) → taken_named names f (with_kept of.numbers counts m r) ≡ with_call (taken_named names f m) (weighted_calls counts (named_call names r))
  kept_one counts m r =
      let taken : Bool → CallsOfFunction → Taken = λ known calls. record { function = f; known = known; calls = calls } in
      ap₂ taken
      (ap₂ (λ a b. m.known || (a || b)) (is r.object r.function) (is r.called_object r.called_function))
      (kept_on m.side m.known m.calls counts r)

  kept_all : (counts : List ℕ) (m : Kept) (rows : List (ArcRow ℕ (List ℕ)))
      → taken_named names f (fold (with_kept of.numbers counts) m rows) ≡ fold with_call (taken_named names f m) (map (weighted_calls counts) (map (named_call names) rows))
  kept_all counts m [] = refl
  kept_all counts m (r ∷ rows) =
      kept_all counts (with_kept of.numbers counts m r) rows
      ∙ ap (λ x. fold with_call x (map (weighted_calls counts) (map (named_call names) rows))) (kept_one counts m r)

kept_rows : (numbers : FunctionNumbers) (counts : List ℕ) (m : Kept) (rows : List (ArcRow ℕ (List ℕ))) → let keeping : Kept → Keeping = λ k. record { numbers = numbers; counts = counts; kept = k } in
    fold keeps_row (keeping m) rows ≡ keeping (fold (with_kept numbers counts) m rows)
kept_rows numbers counts m [] = refl
kept_rows numbers counts m (r ∷ rows) = kept_rows numbers counts (with_kept numbers counts m r) rows

-- the calls of a run
pub calls_kept : (t : Tables) (of : AskedFunction) (run : Counted) (counts : List ℕ) (m : Kept) (came : Keeping) → counts ≡ unwrap_or run.counts [] → IsAsked t.names of
    → CallsFoldTo run.events keeps_row (record { numbers = of.numbers; counts = counts; kept = m }) came (calls_in run.number t)
    → IsTakenFrom t run (taken_named t.names (spot_asked of) m) (taken_named t.names (spot_asked of) came.kept)
calls_kept t of run counts m came counts_are is was =
    let f = spot_asked of in (
      map (named_call t.names) was.rows,
      parts_named t.names (calls_in run.number t) was.rows was.parts_are,
      ap (λ (k : Keeping). taken_named t.names f k.kept) (was.comes ∙ kept_rows of.numbers counts m was.rows)
          ∙ kept_all t.names of is counts m was.rows
          ∙ ap (λ cs. fold with_call (taken_named t.names f m) (map (weighted_calls cs) (map (named_call t.names) was.rows))) counts_are,
    )

-- before the first run
pub none_kept : (names : List NameRow) (f : Spot) (side : CallSide) (none : KeptCalls) → none.side ≡ side → none.known ≡ false → none.rows.items ≡ [] → taken_named names f (kept_of none) ≡ not_taken side f
none_kept names f side none side_is known rows =
    let kept : CallSide → Bool → List KeptCall → Kept = λ s b calls. record { side = s; known = b; calls = calls } in
    ap (λ s. taken_named names f (kept s none.known none.rows.items)) side_is
    ∙ ap₂ (λ b calls. taken_named names f (kept side b calls)) known rows

-- ---- bounds

pub firsts_more : (held : CallsOfFunction) (c : Calls) → firsts_of (with_calls held c).sums ≤ firsts_of held.sums + c.sum.first
firsts_more held c = go (is_one_function held.function (asked held.side c))
  where
    go : (b : Bool) → firsts_of (if b then record held { sums = pairs_with (other held.side c) c.sum held.sums } else held).sums ≤ firsts_of held.sums + c.sum.first
    go true = let e = ap (λ (p : Pair). p.first) (total_with (other held.side c) c.sum held.sums) in omega (arith, e)
    go false = omega arith

pub seconds_more : (held : CallsOfFunction) (c : Calls) → seconds_of (with_calls held c).sums ≤ seconds_of held.sums + c.sum.second
seconds_more held c = go (is_one_function held.function (asked held.side c))
  where
    go : (b : Bool) → seconds_of (if b then record held { sums = pairs_with (other held.side c) c.sum held.sums } else held).sums ≤ seconds_of held.sums + c.sum.second
    go true = let e = ap (λ (p : Pair). p.second) (total_with (other held.side c) c.sum held.sums) in omega (arith, e)
    go false = omega arith

-- ---- a function that is looked for

pub cells_sought : (names : List NameRow) (of : AskedFunction) → IsAsked names of → (b : Bool) (lines : List StoredCell)
    → fold with_cell_sought (of, b) (map cell_numbers lines) ≡ (of, b || is_in_cells (spot_asked of) (map (cell_held names) lines))
cells_sought names of is b [] = ap (λ a. (of, a)) (sym (or-false b))
cells_sought names of is b (line ∷ lines) =
    let f = spot_asked of in
    let here = has_numbers of.numbers line.object line.function in
    let cells = map (cell_held names) lines in
    cells_sought names of is (b || here) lines
    ∙ ap (λ a. (of, a)) (or_assoc b here (is_in_cells f cells))
    ∙ ap (λ a. (of, b || (a || is_in_cells f cells))) (is line.object line.function)

pub stacks_sought : (of : AskedFunction) (b : Bool) (stacks : List (StackRow (List ℕ))) → fold with_stack_sought (of, b) stacks ≡ (of, b || is_in_stacks (spot_asked of) stacks)
stacks_sought of b [] = ap (λ a. (of, a)) (sym (or-false b))
stacks_sought of b (r ∷ stacks) =
    let here = is_frame (spot_asked of) r.stack in
    stacks_sought of (b || here) stacks ∙ ap (λ a. (of, a)) (or_assoc b here (is_in_stacks (spot_asked of) stacks))
