-- What the lines of a file cost over runs, and what is answered of it.
use Rattle.std.proofs.Common.{◌≡◌, ◌≢◌, ℕ, ◌*◌, ◌<◌, Bool, true, false, not, ◌||◌, if◌then◌else◌, List, [], ◌∷◌, map, fold, get_or, Option, Some, None, Result, Ok, Err, bytes_eq, refl, sym, ap, ap₂, subst, ◌∙◌, arith, slice_index}
use Rattle.std.specs.Prelude.{unwrap_or}
use Rattle.std.specs.List.{AllByRecursion, list_any}
use Rattle.std.specs.Ordering.{nat_cmp}
use Rattle.std.proofs.lemmas.Grind.{fold-append}
use Rattle.std.proofs.lemmas.Slice.Eq.{bytes_eq-Decides}
use Rattle.plain_tables.specs.Lists.{Has}
use Rattle.report_texts.specs.Amounts.{with_amount}
use Rattle.report_texts.specs.Annotations.{FileCosts, HaveCostsEach, annotation_of, annotation_text, know_file, no_lines, with_line}
use Rattle.cost_exports.proofs.KnownLemmas.{known-records}
use Rattle.cost_exports.proofs.LineLemmas.{annotation-records}
use Rattle.report_texts.specs.Costs.{all_rows, weighted}
use Rattle.cost_rows.specs.Walks.{HaveCosts}
use Rattle.cost_rows.specs.declared.rows.CellRow.{CellRow}
use Rattle.run_stores.specs.Book.{cell_held, cells_held, name_of, no_name}
use Rattle.plain_tables.specs.RunRows.{cells_in}
use Rattle.plain_tables.specs.Tables.{Tables, StoredCell}
use Rattle.run_stores.specs.Names.{AreApart, IsNumberOf, is_number}
use Rattle.run_stores.specs.Walks.{cell_numbers}
use Rattle.run_stores.proofs.Numbers.{number_tells}
use Rattle.histories.specs.Exports.{annotated_text, knows_source}
use Rattle.histories.specs.History.{History, File, held}
use Rattle.histories.specs.Legal.{expected_of_query, first_or, no_source, when}
use Rattle.histories.specs.Reports.{event_records}
use Rattle.histories.specs.Selections.{selected}
use Rattle.histories.specs.Representation.{TablesRepresent}
use Rattle.histories.specs.declared.answers.Answer.{Answer}
use Rattle.histories.specs.declared.answers.Answer.TheVariants.{Text, Refused}
use Rattle.requests.specs.declared.queries.Query.TheVariants as queries
use Rattle.histories.specs.declared.answers.Refusal.{Refusal}
use Rattle.histories.specs.declared.answers.Refusal.TheVariants.{NoSuchName}
use Rattle.requests.specs.Plain.{Selection}
use Rattle.histories.proofs.Runs.{tells_rows}
use Rattle.histories.specs.FromTables.{AnswersFor, text_or_no_name}
use Rattle.selected_runs.specs.Counted.{event_cells}
use Rattle.selected_runs.specs.EventRuns.{AreEventRuns, AreEventRunsIn}
use Rattle.selected_runs.specs.declared.counting.Counted.{Counted}
use Rattle.selected_runs.proofs.EventLemmas.{both_held, event_runs_told}
use Rattle.selected_runs.specs.Added.{AreAdded}
use Rattle.selected_runs.proofs.RunLemmas.{AreRunsOf, are_runs, runs_stand, selected_held}
use Rattle.store_reports.specs.Annotated.{IsAnnotated, annotated_if_known, annotated_over, lines_from, lines_over, numbered_from, with_numbered}

-- ---- cells that are added

abbrev pub taken : Option ℕ × List ℕ × List ℕ × FileCosts → CellRow ℕ → Option ℕ × List ℕ × List ℕ × FileCosts
taken m row = (m.0, m.1, m.2, with_numbered m.0 m.1 m.2 m.3 row)

pub lines_taken : (number : Option ℕ) (name counts : List ℕ) (costs : FileCosts) (cells : List (CellRow ℕ))
    → fold taken (number, name, counts, costs) cells ≡ (number, name, counts, fold (with_numbered number name counts) costs cells)
lines_taken number name counts costs [] = refl
lines_taken number name counts costs (cell ∷ cells) = lines_taken number name counts (with_numbered number name counts costs cell) cells

runs_added : (t : Tables) (start : FileCosts) (runs : List Counted) → fold (lines_from t) start runs ≡ fold with_line start (all_rows (map (event_cells t) runs))
runs_added t start [] = refl
runs_added t start (run ∷ runs) =
    runs_added t (lines_from t start run) runs ∙ sym (fold-append with_line start (map (weighted (unwrap_or run.counts [])) (cells_held run.number t)) (all_rows (map (event_cells t) runs)))

each_added : (step : FileCosts → Counted → FileCosts) (runs : List Counted) (before after : FileCosts) → AreAdded (λ run old new. new ≡ step old run) runs before after → after ≡ fold step before runs
each_added step [] before after all = all
each_added step (run ∷ runs) before after all = each_added step runs all.0 after all.2 ∙ ap (λ m. fold step m runs) all.1

file_stays : (costs : FileCosts) (rows : List (CellRow (List ℕ))) → (fold with_line costs rows).file ≡ costs.file
file_stays costs [] = refl
file_stays costs (row ∷ rows) = file_stays (with_line costs row) rows ∙ one (bytes_eq row.file costs.file)
  where
    one : (b : Bool) → (if b then record { file = costs.file; known = true; costs = with_amount nat_cmp costs.costs row.line row.cost } else costs).file ≡ costs.file
    one true = refl
    one false = refl

-- ---- by the number of the file's name

-- no bytes are what stands for no name
pub is_a_name : (name : List ℕ) → ((i : ℕ) → get_or name i 0 < 256) → name ≢ no_name
is_a_name name fit is = let low : 256 < 256 = subst (λ (n : List ℕ). get_or n 0 0 < 256) is (fit 0) in absurd (omega (arith, low))

module _ (t : Tables) (number : Option ℕ) (name : List ℕ) (tells : (m : ℕ) → is_number number m ≡ bytes_eq (name_of t.names m) name) where
  -- a cell of another file is none by its number, and adds nothing by its name
  one_by_number : (counts : List ℕ) (costs : FileCosts) (c : StoredCell) → costs.file ≡ name → with_numbered number name counts costs (cell_numbers c) ≡ with_line costs (weighted counts (cell_held t.names c))
  one_by_number counts costs c of =
      let more : FileCosts = record { file = costs.file; known = true; costs = with_amount nat_cmp costs.costs c.line (slice_index counts c.event * c.cost) } in
      ap (λ b. if b then (if bytes_eq name costs.file then more else costs) else costs) (tells c.file)
      ∙ go (bytes_eq (name_of t.names c.file) name) (bytes_eq name costs.file) more costs ((bytes_eq-Decides name costs.file).1 (sym of))
      ∙ ap (λ file. if bytes_eq (name_of t.names c.file) file then more else costs) (sym of)
    where
      go : (is same : Bool) (more less : FileCosts) → same ≡ true → (if is then (if same then more else less) else less) ≡ (if is then more else less)
      go true same more less own = ap (λ b. if b then more else less) own
      go false same more less own = refl

  cells_by_number : (counts : List ℕ) (costs : FileCosts) (cells : List StoredCell) → costs.file ≡ name
      → fold (with_numbered number name counts) costs (map cell_numbers cells) ≡ fold with_line costs (map (weighted counts) (map (cell_held t.names) cells))
  cells_by_number counts costs [] of = refl
  cells_by_number counts costs (c ∷ cells) of =
      let row = weighted counts (cell_held t.names c) in
      ap (λ m. fold (with_numbered number name counts) m (map cell_numbers cells)) (one_by_number counts costs c of)
      ∙ cells_by_number counts (with_line costs row) cells (file_stays costs (row ∷ []) ∙ of)

  runs_by_number : (costs : FileCosts) (runs : List Counted) → costs.file ≡ name → fold (numbered_from t number name) costs runs ≡ fold (lines_from t) costs runs
  runs_by_number costs [] of = refl
  runs_by_number costs (run ∷ runs) of =
      let counts = unwrap_or run.counts [] in
      ap (λ m. fold (numbered_from t number name) m runs) (cells_by_number counts costs (cells_in run.number t) of)
      ∙ runs_by_number (lines_from t costs run) runs (file_stays costs (map (weighted counts) (cells_held run.number t)) ∙ of)

pub lines_from_runs : (t : Tables) (name : List ℕ) (number : Option ℕ) → AreApart t.names → name ≢ no_name → IsNumberOf t.names name number → (runs : List Counted) (before after : FileCosts) → before ≡ no_lines name
    → AreAdded (λ run old new. new ≡ numbered_from t number name old run) runs before after → after ≡ fold (lines_from t) (no_lines name) runs
lines_from_runs t name number apart some is runs before after none added =
    each_added (numbered_from t number name) runs before after added
    ∙ ap (λ c. fold (numbered_from t number name) c runs) none
    ∙ runs_by_number t number name (number_tells t.names apart name some number is) (no_lines name) runs refl

-- ---- the text over runs

lines_are : (t : Tables) (name : List ℕ) (runs : List Counted) (costs : FileCosts) → costs ≡ fold (lines_from t) (no_lines name) runs → costs ≡ lines_over t runs name
lines_are t name runs costs is = is ∙ runs_added t (no_lines name) runs

pub text_missing : (t : Tables) (event name source : List ℕ) (runs : List Counted) (costs : FileCosts) → costs ≡ fold (lines_from t) (no_lines name) runs → costs.known ≡ false
    → None ≡ annotated_over t runs event name source
text_missing t event name source runs costs is unknown =
    sym (ap (λ b. if b then Some (annotation_text event (annotation_of costs.file source costs.costs)) else None) unknown) ∙ ap (annotated_if_known event source) (lines_are t name runs costs is)

pub text_found : (t : Tables) (event name source : List ℕ) (runs : List Counted) (costs : FileCosts) (text : List ℕ) → costs ≡ fold (lines_from t) (no_lines name) runs → costs.known ≡ true
    → text ≡ annotation_text event (annotation_of costs.file source costs.costs) → Some text ≡ annotated_over t runs event name source
text_found t event name source runs costs text is known are =
    ap (λ x. Some x) are ∙ sym (ap (λ b. if b then Some (annotation_text event (annotation_of costs.file source costs.costs)) else None) known) ∙ ap (annotated_if_known event source) (lines_are t name runs costs is)

-- ---- from runs to files

costs_each : (h : History) (t : Tables) (event : List ℕ) → TablesRepresent h t → (files : List File) (runs : List Counted) → AllByRecursion (Has (held h)) files → AreRunsOf event files runs → HaveCostsEach (map (event_cells t) runs)
costs_each h t event represent [] [] all are = tt
costs_each h t event represent [] (run ∷ runs) all are = absurd are
costs_each h t event represent (f ∷ files) [] all are = absurd are
costs_each h t event represent (f ∷ files) (run ∷ runs) all are =
    let above : HaveCosts (cells_held f.number t) = (tells_rows h t represent f all.0).cells_above in
    (subst (λ n. HaveCosts (cells_held n t)) (sym are.0.number) above, costs_each h t event represent files runs all.1 are.1)

known_by_files : (event name : List ℕ) (files : List File) → know_file name (map (event_records event) files) ≡ list_any (knows_source name) files
known_by_files event name [] = refl
known_by_files event name (f ∷ files) = ap (λ b. knows_source name f || b) (known_by_files event name files)

-- ---- the answers

expected_of : (h : History) (t : Tables) (s : Selection) (event name source : List ℕ) (runs : List Counted) (text : Option (List ℕ)) → TablesRepresent h t → AreEventRuns h t s event (Ok runs)
    → text ≡ annotated_over t runs event name source → text_or_no_name text ≡ expected_of_query h (queries.Annotate s event name source)
expected_of h t s event name source runs text represent found is =
    let files = selected h s in
    let records = map (event_records event) files in
    let cells = map (event_cells t) runs in
    let all = selected_held h s in
    let stand = runs_stand h t s event runs represent found.2 in
    let above = costs_each h t event represent files runs all (are_runs h t event represent files runs all found.2) in
    let lines = lines_over t runs name in
    let known : lines.known ≡ list_any (knows_source name) files = known-records name records cells stand above ∙ known_by_files event name files in
    let shown : annotation_text event (annotation_of lines.file source lines.costs) ≡ annotated_text event name source files =
    ap (λ file. annotation_text event (annotation_of file source lines.costs)) (file_stays (no_lines name) (all_rows cells)) ∙ ap (annotation_text event) (annotation-records name source records cells stand) in
    ap text_or_no_name is
    ∙ ap₂ (λ b x. text_or_no_name (if b then Some x else None)) known shown
    ∙ go (list_any (knows_source name) files) (annotated_text event name source files)
    ∙ both_held h t s event runs found (no_source name files ∷ []) (Text (annotated_text event name source files))
  where
    go : (b : Bool) (text : List ℕ) → text_or_no_name (if b then Some text else None) ≡ first_or (when (not b) (Refused NoSuchName) ∷ []) (Text text)
    go true text = refl
    go false text = refl

refused_of : (h : History) (t : Tables) (s : Selection) (event name source : List ℕ) (refusal : Refusal) → AreEventRuns h t s event (Err refusal)
    → Refused refusal ≡ expected_of_query h (queries.Annotate s event name source)
refused_of h t s event name source refusal found =
    sym (found (no_source name (selected h s) ∷ []) (Text (annotated_text event name source (selected h s))))

expected_by : (h : History) (t : Tables) (s : Selection) (event name source : List ℕ) (found : Result (List Counted) Refusal) (answer : Answer) → TablesRepresent h t → AreEventRunsIn t s event found
    → AnswersFor (λ runs given. given ≡ text_or_no_name (annotated_over t runs event name source)) found answer → answer ≡ expected_of_query h (queries.Annotate s event name source)
expected_by h t s event name source (Ok runs) answer represent found is = is ∙ expected_of h t s event name source runs _ represent (event_runs_told h t s event (Ok runs) represent found) refl
expected_by h t s event name source (Err refusal) answer represent found is = is ∙ refused_of h t s event name source refusal (event_runs_told h t s event (Err refusal) represent found)

pub annotation_is_expected : (s : Selection) (event name source : List ℕ) (h : History) (t : Tables) (answer : Answer) → TablesRepresent h t → IsAnnotated t s event name source answer
    → answer ≡ expected_of_query h (queries.Annotate s event name source)
annotation_is_expected s event name source h t answer represent is = expected_by h t s event name source is.found answer represent is.is_found is.answer_is
