-- The calls of a function over runs are those of the files of a selection, and so is whether it is known.
use Rattle.std.proofs.Common.{◌≡◌, ℕ, zero, suc, ◌+◌, ◌<◌, Bool, true, false, not, ◌&&◌, ◌||◌, nat_lt, if◌then◌else◌, List, [], ◌∷◌, map, fold, Option, Some, None, Result, Ok, Err, refl, sym, ap, ap₂, subst, ◌∙◌, arith}
use Rattle.std.proofs.lemmas.Bool.{and_from, and_parts, lt-ltb, ltb-true, or_left, or_right}
use Rattle.std.proofs.Math.Bool.{or-false, or_assoc}
use Rattle.std.specs.Prelude.{unwrap_or}
use Rattle.std.specs.List.{list_any, AllByRecursion}
use Rattle.std.proofs.lemmas.Grind.{fold-append}
use Rattle.plain_tables.specs.Lists.{Has}
use Rattle.cost_rows.specs.StackSums.{frames_sum}
use Rattle.cost_rows.specs.Sums.{Spot, callee_spot, caller_spot, costs_at, has_call}
use Rattle.cost_rows.specs.WalkSums.{has_calls, stacks_count}
use Rattle.cost_rows.specs.Walks.{HaveCounts}
use Rattle.cost_rows.specs.declared.rows.ArcRow.{ArcRow}
use Rattle.cost_rows.specs.declared.rows.StackRow.{StackRow}
use Rattle.cost_rows.proofs.KnownLemmas.{cells_know, same_tests}
use Rattle.report_texts.specs.Calls.{Calls, CallsRepresentEach, EventEdges, all_edges, all_calls, call_report_of, call_report_text, calls_by, weighted_calls, with_calls}
use Rattle.report_texts.specs.Functions.{function_spot, is_one_function}
use Rattle.report_texts.specs.Inclusive.{is_frame}
use Rattle.report_texts.specs.declared.call_sides.CallSide.{CallSide}
use Rattle.report_texts.specs.declared.call_sides.CallSide.TheVariants as sides
use Rattle.cost_reports.proofs.AddedLemmas.{calls_come_to}
use Rattle.cost_reports.proofs.CallCostLemmas.{calls_are_records}
use Rattle.run_stores.specs.Book.{cells_held, stacks_held}
use Rattle.plain_tables.specs.Tables.{Tables}
use Rattle.profile_records.specs.Records.{Record, Own, Called}
use Rattle.profile_records.specs.Stacks.{Seen}
use Rattle.selected_runs.specs.NamedRows.{AreCallsOf}
use Rattle.histories.specs.Files.{records_of, stacks_of}
use Rattle.histories.specs.History.{History, File, held}
use Rattle.histories.specs.Legal.{expected_of_calls, expected_of_query, first_or, no_name, when}
use Rattle.histories.specs.Reports.{calls_text, event_records, is_seen_in, knows, tells_of}
use Rattle.histories.specs.Selections.{selected}
use Rattle.histories.specs.Representation.{TablesRepresent}
use Rattle.histories.specs.Told.{CallsSum}
use Rattle.histories.specs.declared.answers.Answer.{Answer}
use Rattle.histories.specs.declared.answers.Answer.TheVariants.{Text, Refused}
use Rattle.histories.specs.declared.answers.Refusal.{Refusal}
use Rattle.histories.specs.declared.answers.Refusal.TheVariants.{NoSuchName}
use Rattle.requests.specs.Plain.{Selection, calls_query}
use Rattle.histories.proofs.Runs.{tells_rows}
use Rattle.histories.proofs.Tests.{any-append}
use Rattle.histories.specs.FromTables.{AnswersFor, text_or_no_name}
use Rattle.selected_runs.specs.Added.{AreAdded}
use Rattle.selected_runs.specs.EventRuns.{AreEventRuns, AreEventRunsIn}
use Rattle.store_calls.specs.FunctionCalls.{AreEdgesOf, AreCallsShown, ShowsCalls, AreTakenFrom, IsCallsText, IsTakenFrom, Taken, is_in_cells, is_in_rows, is_in_stacks, not_taken, text_taken, touches, with_call}
use Rattle.selected_runs.specs.declared.counting.Counted.{Counted}
use Rattle.selected_runs.proofs.EventLemmas.{both_held, event_runs_told}
use Rattle.selected_runs.proofs.RunLemmas.{AreRunsOf, are_runs, selected_held}

-- ---- runs, one after another

module _ {M : Type 0} {P : Type 0} (taken : M → Taken) (t : Tables) (given : P) where
  pub calls_added : (runs : List Counted) (before after : M) → AreAdded (λ run old new. P → IsTakenFrom t run (taken old) (taken new)) runs before after → AreTakenFrom t runs (taken before) (taken after)
  calls_added [] before after all = ([], tt, ap taken all)
  calls_added (run ∷ runs) before after all =
      let one = all.1 given in
      let rest = calls_added runs all.0 after all.2 in
      let counts : List ℕ = unwrap_or run.counts [] in (
        record { coefs = counts; calls = one.0 } ∷ rest.0,
        (refl, one.1, rest.1),
        rest.2 ∙ ap (λ m. fold with_call m (all_edges rest.0)) one.2 ∙ sym (fold-append with_call (taken before) (map (weighted_calls counts) one.0) (all_edges rest.0)),
      )

pub seen_added : {P : Type 0} (is_in : Counted → Bool) → P → (runs : List Counted) (before after : Bool) → AreAdded (λ run old new. P → new ≡ old || is_in run) runs before after
    → after ≡ before || list_any is_in runs
seen_added is_in given [] before after all = all ∙ sym (or-false before)
seen_added is_in given (run ∷ runs) before after all =
    seen_added is_in given runs all.0 after all.2 ∙ ap (λ b. b || list_any is_in runs) (all.1 given) ∙ or_assoc before (is_in run) (list_any is_in runs)

-- ---- what was taken

taken_known : (m : Taken) (calls : List Calls) → (fold with_call m calls).known ≡ m.known || list_any (touches m.function) calls
taken_known m [] = sym (or-false m.known)
taken_known m (c ∷ calls) = taken_known (with_call m c) calls ∙ or_assoc m.known (touches m.function c) (list_any (touches m.function) calls)

taken_calls : (m : Taken) (calls : List Calls) → (fold with_call m calls).calls ≡ fold with_calls m.calls calls
taken_calls m [] = refl
taken_calls m (c ∷ calls) = taken_calls (with_call m c) calls

taken_function : (m : Taken) (calls : List Calls) → (fold with_call m calls).function ≡ m.function
taken_function m [] = refl
taken_function m (c ∷ calls) = taken_function (with_call m c) calls

-- the text of what was taken is that of the calls
pub text_of_taken : (t : Tables) (runs : List Counted) (side : CallSide) (f : Spot) (event : List ℕ) (all : Taken) (text : Option (List ℕ)) → AreTakenFrom t runs (not_taken side f) all
    → text ≡ text_taken t runs event all → IsCallsText t runs side f event text
text_of_taken t runs side f event all text from is =
    let edges = all_edges from.0 in
    let m = fold with_call (not_taken side f) edges in (
      from.0,
      from.1,
      is ∙ ap (text_taken t runs event) from.2
          ∙ ap (λ g. if m.known || list_any (is_in_rows t g) runs then Some (call_report_text event (call_report_of m.calls)) else None) (taken_function (not_taken side f) edges)
          ∙ ap (λ b. if b || list_any (is_in_rows t f) runs then Some (call_report_text event (call_report_of m.calls)) else None) (taken_known (not_taken side f) edges)
          ∙ ap (λ calls. if list_any (touches f) edges || list_any (is_in_rows t f) runs then Some (call_report_text event (call_report_of calls)) else None)
          (taken_calls (not_taken side f) edges ∙ calls_come_to side f edges),
    )

-- the text by what was found out of the function
pub text_known : (t : Tables) (runs : List Counted) (event : List ℕ) (m : Taken) (known : Bool) (text : List ℕ) → known ≡ m.known || list_any (is_in_rows t m.function) runs → known ≡ true
    → text ≡ call_report_text event (call_report_of m.calls) → Some text ≡ text_taken t runs event m
text_known t runs event m known text told is text_is =
    ap Some text_is ∙ ap (λ b. if b then Some (call_report_text event (call_report_of m.calls)) else None) (sym is ∙ told)

pub text_unknown : (t : Tables) (runs : List Counted) (event : List ℕ) (m : Taken) (known : Bool) → known ≡ m.known || list_any (is_in_rows t m.function) runs → known ≡ false
    → None ≡ text_taken t runs event m
text_unknown t runs event m known told is = ap (λ b. if b then Some (call_report_text event (call_report_of m.calls)) else None) (sym is ∙ told)

-- ---- rows and records know the same functions

module _ (f : Spot) where
  abbrev of_f : Spot → Bool
  of_f p = is_one_function p f

  abbrev either : Spot → Spot → Bool
  either p q = is_one_function p f || is_one_function q f

  or_swap : (a b c : Bool) → a || (b || c) ≡ b || (a || c)
  or_swap true true c = refl
  or_swap true false c = refl
  or_swap false b c = refl

  apart : (records : List Record) → list_any (tells_of f) records ≡ has_call either records || list_any (costs_at of_f) records
  apart [] = refl
  apart (Own cost ∷ records) = ap (λ b. costs_at of_f (Own cost) || b) (apart records) ∙ or_swap (costs_at of_f (Own cost)) (has_call either records) (list_any (costs_at of_f) records)
  apart (Called callee cost ∷ records) =
      ap (λ b. either (caller_spot cost) (callee_spot callee) || b) (apart records) ∙ sym (or_assoc (either (caller_spot cost) (callee_spot callee)) (has_call either records) (list_any (costs_at of_f) records))

  stacks_positive : (stacks : List (StackRow (List ℕ))) → 0 < stacks_count (is_frame f) stacks → is_in_stacks f stacks ≡ true
  stacks_positive [] low = absurd (omega (arith, low))
  stacks_positive (r ∷ stacks) low = go (is_frame f r.stack) refl low (stacks_positive stacks)
    where
      go : (b : Bool) → is_frame f r.stack ≡ b → 0 < (if b then r.count else 0) + stacks_count (is_frame f) stacks → (0 < stacks_count (is_frame f) stacks → is_in_stacks f stacks ≡ true)
          → is_frame f r.stack || is_in_stacks f stacks ≡ true
      go true here low rest = or_left _ _ here
      go false here low rest = or_right _ _ (rest (omega (arith, low)))

  stack_there : (stacks : List (StackRow (List ℕ))) → HaveCounts stacks → is_in_stacks f stacks ≡ true → 0 < stacks_count (is_frame f) stacks
  stack_there [] above is = absurd cc
  stack_there (r ∷ stacks) above is = go (is_frame f r.stack) is (stack_there stacks above.1)
    where
      low : 0 < r.count
      low = above.0

      go : (b : Bool) → b || is_in_stacks f stacks ≡ true → (is_in_stacks f stacks ≡ true → 0 < stacks_count (is_frame f) stacks) → 0 < (if b then r.count else 0) + stacks_count (is_frame f) stacks
      go true any rest = omega (arith, low)
      go false any rest = let some = rest any in omega (arith, some)

  seen_positive : (seen : List Seen) → 0 < frames_sum (is_frame f) seen → list_any (is_seen_in f) seen ≡ true
  seen_positive [] low = absurd (omega (arith, low))
  seen_positive (s ∷ seen) low = go (is_frame f s.stack.frames) s.stack.count refl refl low (seen_positive seen)
    where
      go : (b : Bool) (n : ℕ) → is_frame f s.stack.frames ≡ b → s.stack.count ≡ n → 0 < (if b then n else 0) + frames_sum (is_frame f) seen → (0 < frames_sum (is_frame f) seen → list_any (is_seen_in f) seen ≡ true)
          → (nat_lt 0 s.stack.count && is_frame f s.stack.frames) || list_any (is_seen_in f) seen ≡ true
      go true zero here count low rest = or_right _ _ (rest (omega (arith, low)))
      go true (suc n) here count low rest = or_left _ _ (and_from _ _ (lt-ltb 0 s.stack.count (omega (arith, count))) here)
      go false n here count low rest = or_right _ _ (rest (omega (arith, low)))

  seen_there : (seen : List Seen) → list_any (is_seen_in f) seen ≡ true → 0 < frames_sum (is_frame f) seen
  seen_there [] is = absurd cc
  seen_there (s ∷ seen) is = go (is_seen_in f s) refl is (seen_there seen)
    where
      go : (b : Bool) → is_seen_in f s ≡ b → b || list_any (is_seen_in f) seen ≡ true → (list_any (is_seen_in f) seen ≡ true → 0 < frames_sum (is_frame f) seen) → 0 < frames_sum (is_frame f) (s ∷ seen)
      go true here any rest =
          let low = ltb-true 0 s.stack.count (and_parts (nat_lt 0 s.stack.count) (is_frame f s.stack.frames) here).0 in
          let at = (and_parts (nat_lt 0 s.stack.count) (is_frame f s.stack.frames) here).1 in
          subst (λ b. 0 < (if b then s.stack.count else 0) + frames_sum (is_frame f) seen) (sym at) (omega (arith, low))
      go false here any rest = let some = rest any in omega (arith, some)

  stacks_know : (stacks : List (StackRow (List ℕ))) (seen : List Seen) → HaveCounts stacks → ((test : List ℕ → Bool) → stacks_count test stacks ≡ frames_sum test seen)
      → is_in_stacks f stacks ≡ list_any (is_seen_in f) seen
  stacks_know stacks seen above same = same_tests _ _
      (λ is. seen_positive seen (subst (λ n. 0 < n) (same (is_frame f)) (stack_there stacks above is)))
      (λ is. stacks_positive stacks (subst (λ n. 0 < n) (sym (same (is_frame f))) (seen_there seen is)))

  calls_touch : (coefs : List ℕ) (edges : List (ArcRow (List ℕ) (List ℕ))) → list_any (touches f) (map (weighted_calls coefs) edges) ≡ has_calls either edges
  calls_touch coefs [] = refl
  calls_touch coefs (a ∷ edges) = ap (λ b. touches f (weighted_calls coefs a) || b) (calls_touch coefs edges)

  -- of one file
  file_knows : (h : History) (t : Tables) (file : File) (coefs : List ℕ) (edges : List (ArcRow (List ℕ) (List ℕ))) → TablesRepresent h t → Has (held h) file → AreCallsOf file.number t edges
      → list_any (touches f) (map (weighted_calls coefs) edges) || (is_in_cells f (cells_held file.number t) || is_in_stacks f (stacks_held file.number t)) ≡ knows f file
  file_knows h t file coefs edges represent there are =
      let told = tells_rows h t represent file there in
      let records = records_of file.format file.bytes in
      ap₂ (λ a b. a || b) (calls_touch coefs edges ∙ (told.calls edges are).called either)
      (ap₂ (λ a b. a || b) (cells_know of_f (cells_held file.number t) records told.cells_above told.cells) (stacks_know (stacks_held file.number t) (stacks_of file.format file.bytes) told.stacks_above told.stacks))
      ∙ sym (or_assoc (has_call either records) (list_any (costs_at of_f) records) (list_any (is_seen_in f) (stacks_of file.format file.bytes)))
      ∙ ap (λ b. b || list_any (is_seen_in f) (stacks_of file.format file.bytes)) (sym (apart records))

  shuffled : (a b c d : Bool) → (a || b) || (c || d) ≡ (a || c) || (b || d)
  shuffled true b c d = refl
  shuffled false true true d = refl
  shuffled false true false d = refl
  shuffled false false c d = refl

  runs_know : (h : History) (t : Tables) (event : List ℕ) → TablesRepresent h t → (files : List File) (runs : List Counted) (rows : List EventEdges) → AllByRecursion (Has (held h)) files → AreRunsOf event files runs
      → AreEdgesOf runs t rows → list_any (touches f) (all_edges rows) || list_any (is_in_rows t f) runs ≡ list_any (knows f) files
  runs_know h t event represent [] [] [] all are edges = refl
  runs_know h t event represent [] [] (r ∷ rows) all are edges = absurd edges
  runs_know h t event represent [] (run ∷ runs) rows all are edges = absurd are
  runs_know h t event represent (file ∷ files) [] rows all are edges = absurd are
  runs_know h t event represent (file ∷ files) (run ∷ runs) [] all are edges = absurd edges
  runs_know h t event represent (file ∷ files) (run ∷ runs) (r ∷ rows) all are edges =
      let here = map (weighted_calls r.coefs) r.calls in
      let number = are.0.number in
      ap (λ a. a || (is_in_rows t f run || list_any (is_in_rows t f) runs)) (any-append (touches f) here (all_edges rows))
      ∙ shuffled (list_any (touches f) here) (list_any (touches f) (all_edges rows)) (is_in_rows t f run) (list_any (is_in_rows t f) runs)
      ∙ ap₂ (λ a b. a || b)
      (ap (λ n. list_any (touches f) here || (is_in_cells f (cells_held n t) || is_in_stacks f (stacks_held n t))) number
      ∙ file_knows h t file r.coefs r.calls represent all.0 (subst (λ n. AreCallsOf n t r.calls) number edges.1))
      (runs_know h t event represent files runs rows all.1 are.1 edges.2)

-- ---- the calls

calls_stand : (h : History) (t : Tables) (event : List ℕ) → TablesRepresent h t → (files : List File) (runs : List Counted) (rows : List EventEdges) → AllByRecursion (Has (held h)) files → AreRunsOf event files runs
    → AreEdgesOf runs t rows → CallsRepresentEach (map (event_records event) files) rows
calls_stand h t event represent [] [] [] all are edges = tt
calls_stand h t event represent [] [] (r ∷ rows) all are edges = absurd edges
calls_stand h t event represent [] (run ∷ runs) rows all are edges = absurd are
calls_stand h t event represent (f ∷ files) [] rows all are edges = absurd are
calls_stand h t event represent (f ∷ files) (run ∷ runs) [] all are edges = absurd edges
calls_stand h t event represent (f ∷ files) (run ∷ runs) (r ∷ rows) all are edges =
    let come : CallsSum r.calls (records_of f.format f.bytes) = (tells_rows h t represent f all.0).calls r.calls (subst (λ n. AreCallsOf n t r.calls) are.0.number edges.1) in (
      record {
        coefs = edges.0 ∙ ap (λ counts. unwrap_or counts []) are.0.counts;
        costs = come.costs;
        counts = come.counts;
        called = come.called;
      },
      calls_stand h t event represent files runs rows all.1 are.1 edges.2,
    )

-- ---- the answers

expected_of : (h : History) (t : Tables) (s : Selection) (side : CallSide) (event object name : List ℕ) (runs : List Counted) (text : Option (List ℕ)) → TablesRepresent h t → AreEventRuns h t s event (Ok runs)
    → IsCallsText t runs side (function_spot object name) event text → text_or_no_name text ≡ expected_of_calls h s side event object name
expected_of h t s side event object name runs text represent found is =
    let f = function_spot object name in
    let files = selected h s in
    let all = selected_held h s in
    let are = are_runs h t event represent files runs all found.2 in
    let same : calls_by side f (all_edges is.0) ≡ calls_by side f (all_calls (map (event_records event) files)) =
    calls_are_records side f (map (event_records event) files) is.0 (calls_stand h t event represent files runs is.0 all are is.1) in
    ap text_or_no_name is.2
    ∙ ap (λ sums. text_or_no_name (if list_any (touches f) (all_edges is.0) || list_any (is_in_rows t f) runs
    then Some (call_report_text event (call_report_of (record { side = side; function = f; sums = sums }))) else None)) same
    ∙ ap (λ b. text_or_no_name (if b then Some (calls_text side f files event) else None)) (runs_know f h t event represent files runs is.0 all are is.1)
    ∙ go (list_any (knows f) files) (calls_text side f files event)
    ∙ both_held h t s event runs found (no_name f files ∷ []) (Text (calls_text side f files event))
  where
    go : (b : Bool) (text : List ℕ) → text_or_no_name (if b then Some text else None) ≡ first_or (when (not b) (Refused NoSuchName) ∷ []) (Text text)
    go true text = refl
    go false text = refl

refused_of : (h : History) (t : Tables) (s : Selection) (side : CallSide) (event object name : List ℕ) (refusal : Refusal) → AreEventRuns h t s event (Err refusal)
    → Refused refusal ≡ expected_of_calls h s side event object name
refused_of h t s side event object name refusal found =
    let f = function_spot object name in
    sym (found (no_name f (selected h s) ∷ []) (Text (calls_text side f (selected h s) event)))

expected_by : (h : History) (t : Tables) (s : Selection) (side : CallSide) (event object name : List ℕ) (found : Result (List Counted) Refusal) (answer : Answer) → TablesRepresent h t → AreEventRunsIn t s event found
    → AnswersFor (λ runs. ShowsCalls t runs side (function_spot object name) event) found answer → answer ≡ expected_of_calls h s side event object name
expected_by h t s side event object name (Ok runs) answer represent found is = is.2 ∙ expected_of h t s side event object name runs is.0 represent (event_runs_told h t s event (Ok runs) represent found) is.1
expected_by h t s side event object name (Err refusal) answer represent found is = is ∙ refused_of h t s side event object name refusal (event_runs_told h t s event (Err refusal) represent found)

is_query : (h : History) (s : Selection) (side : CallSide) (event object name : List ℕ) → expected_of_calls h s side event object name ≡ expected_of_query h (calls_query side s event object name)
is_query h s sides.Callers event object name = refl
is_query h s sides.Callees event object name = refl

pub calls_are_expected : (s : Selection) (side : CallSide) (event object name : List ℕ) (h : History) (t : Tables) (answer : Answer) → TablesRepresent h t → AreCallsShown t s side event object name answer
    → answer ≡ expected_of_query h (calls_query side s event object name)
calls_are_expected s side event object name h t answer represent is =
    expected_by h t s side event object name is.found answer represent is.is_found is.answer_is ∙ is_query h s side event object name
