-- The rows of runs that are added to inclusive costs sum to the files of a selection.
use Rattle.std.proofs.Common.{◌≡◌, ℕ, ◌+◌, ◌*◌, Bool, true, false, if◌then◌else◌, List, [], ◌∷◌, ◌++◌, map, fold, flat_map, Option, Some, None, append-nil, refl, sym, ap, ap₂, subst, ◌∙◌, arith}
use Rattle.std.specs.Prelude.{unwrap_or, Result, Ok, Err}
use Rattle.std.specs.List.{AllByRecursion}
use Rattle.std.specs.Option.{is_some, MatchOption}
use Rattle.std.proofs.lemmas.Grind.{fold-append}
use Rattle.plain_tables.specs.Lists.{Has}
use Rattle.cost_rows.specs.KeySums.{rows_of, with_row}
use Rattle.cost_rows.specs.StackSums.{frames_sum}
use Rattle.cost_rows.specs.Sums.{call_sum, count_sum, has_call, self_sum}
use Rattle.cost_rows.specs.WalkSums.{stacks_count}
use Rattle.cost_rows.specs.declared.keys.Key.TheVariants.{Function}
use Rattle.cost_rows.specs.declared.rows.ArcRow.{ArcRow}
use Rattle.cost_rows.specs.declared.rows.CellRow.{CellRow}
use Rattle.cost_rows.specs.declared.rows.StackRow.{StackRow}
use Rattle.report_texts.specs.Calls.{CallsRepresent, CallsRepresentEach, EventEdges, all_edges, weighted_calls}
use Rattle.report_texts.specs.Costs.{EventCells, StandForEach, Represents, all_rows, weighted}
use Rattle.report_texts.specs.Functions.{is_one_function}
use Rattle.report_texts.specs.Inclusive.{InclusiveCosts, InclusiveRow, OfSelf, OfCalls, OfStack, SameStacks, by_function, calls_in, inclusive_report, inclusive_rows, inclusive_text, no_costs, self_in, stacks_in, with_inclusive, with_outward, with_self}
use Rattle.cost_reports.proofs.AddedLemmas.{inclusive_come_to}
use Rattle.cost_reports.proofs.InclusiveLemmas.{inclusive_are_records}
use Rattle.run_stores.specs.Book.{cell_held, cells_held, stacks_held, IsHeld}
use Rattle.plain_tables.specs.Tables.{Tables, StoredCell, NameRow}
use Rattle.profile_records.specs.Stacks.{Seen}
use Rattle.profile_records.specs.declared.kinds.Kind.{Kind}
use Rattle.profile_records.specs.declared.kinds.Kind.TheVariants.{Callgrind, Folded}
use Rattle.selected_runs.specs.NamedRows.{AreCallsOf}
use Rattle.selected_runs.specs.Sums.{numbers_told}
use Rattle.run_stores.specs.Lookups.{IsKindOf}
use Rattle.run_stores.specs.Names.{named_call, AreApart}
use Rattle.run_stores.specs.Walks.{cell_numbers}
use Rattle.histories.specs.Formats as formats
use Rattle.histories.specs.Formats.{Format, kind_in}
use Rattle.histories.specs.Files.{records_of, stacks_of}
use Rattle.histories.specs.History.{History, File, held}
use Rattle.histories.specs.Legal.{expected_of_query}
use Rattle.histories.specs.Reports.{called_records, counts_of, event_stacks, has_event, inclusive_of, inclusive_of_files, inclusive_records}
use Rattle.histories.specs.Selections.{selected}
use Rattle.histories.specs.Representation.{TablesRepresent}
use Rattle.histories.specs.Told.{CallsSum, RowsAgree}
use Rattle.histories.specs.declared.answers.Answer.{Answer}
use Rattle.histories.specs.declared.answers.Answer.TheVariants.{Text, Refused}
use Rattle.requests.specs.declared.queries.Query.TheVariants.{Inclusive}
use Rattle.histories.specs.declared.answers.Refusal.{Refusal}
use Rattle.requests.specs.Plain.{Selection}
use Rattle.histories.proofs.Runs.{tells_rows}
use Rattle.histories.specs.FromTables.{AnswersFor, ShowsText}
use Rattle.selected_runs.specs.Added.{AreAdded}
use Rattle.selected_runs.specs.EventRuns.{AreEventRuns, AreEventRunsIn}
use Rattle.store_calls.specs.InclusiveParts.{Counting, PartSums, AreHeld, AreNamesFor, costs_named, none_added, sums_in, weighted_number, with_call_row, with_self_row, with_stack_row}
use Rattle.store_calls.specs.InclusiveRuns.{AddsHeld, AreRowsCounted, AreRowsOf, AreRowsOfKind, AreRowsOfRuns, IsInclusive, IsInclusiveText, IsTextNamed, call_rows, self_rows}
use Rattle.store_calls.specs.declared.inclusive_parts.InclusiveParts.{InclusiveParts}
use Rattle.selected_runs.specs.declared.counting.Counted.{Counted}
use Rattle.selected_runs.proofs.EventLemmas.{both_held, event_runs_told}
use Rattle.store_calls.proofs.KindLemmas.{kind_told}
use Rattle.store_calls.proofs.PartLemmas.{calls_more, self_held, self_more, stack_more}
use Rattle.selected_runs.proofs.RunLemmas.{AreRunsOf, IsRunOf, are_runs, selected_held}

all_so : {X : Type 0} (P Q : X → Type 0) → ((x : X) → P x → Q x) → (xs : List X) → AllByRecursion P xs → AllByRecursion Q xs
all_so P Q so [] all = tt
all_so P Q so (x ∷ xs) all = (so x all.0, all_so P Q so xs all.1)

-- ---- rows of one kind, taken one after another

self_counts : (m : Counting) (rows : List (CellRow ℕ)) → (fold with_self_row m rows).counts ≡ m.counts
self_counts m [] = refl
self_counts m (row ∷ rows) = self_counts (with_self_row m row) rows

module _ (names : List NameRow) where
  -- from sums whose names are held rows went to such costs, by name
  abbrev Went : PartSums → PartSums → (InclusiveCosts → InclusiveCosts) → Type 0
  Went old new added = AreHeld names new → AreHeld names old × (costs_named names new ≡ added (costs_named names old))

  self_taken : (m : Counting) (lines : List StoredCell) → Went m.sums (fold with_self_row m (map cell_numbers lines)).sums (λ costs. fold with_inclusive costs (self_rows m.counts (map (cell_held names) lines)))
  self_taken m [] held = (held, refl)
  self_taken m (line ∷ lines) held =
      let row = weighted_number m.counts (cell_numbers line) in
      let rest = self_taken (with_self_row m (cell_numbers line)) lines held in (
        self_held names m.sums row rest.0,
        rest.1 ∙ ap (λ costs. fold with_inclusive costs (self_rows m.counts (map (cell_held names) lines))) (self_more names m.sums row),
      )

  calls_taken : AreApart names → (m : Counting) (edges : List (ArcRow ℕ (List ℕ)))
      → Went m.sums (fold with_call_row m edges).sums (λ costs. fold with_inclusive costs (call_rows m.counts (map (named_call names) edges)))
  calls_taken apart m [] held = (held, refl)
  calls_taken apart m (call ∷ edges) held =
      let rest = calls_taken apart (with_call_row m call) edges held in
      let one = calls_more names apart m.sums m.counts call rest.0 in
      (one.0, rest.1 ∙ ap (λ costs. fold with_inclusive costs (call_rows m.counts (map (named_call names) edges))) one.1)

  pub stacks_taken : (m : Counting) (stacks : List (StackRow (List ℕ))) → Went m.sums (fold with_stack_row m stacks).sums (λ costs. fold with_inclusive costs (map OfStack stacks))
  stacks_taken m [] held = (held, refl)
  stacks_taken m (stack ∷ stacks) held =
      let rest = stacks_taken (with_stack_row m stack) stacks held in
      (rest.0, rest.1 ∙ ap (λ costs. fold with_inclusive costs (map OfStack stacks)) (stack_more names m.sums stack))

  -- self costs, and calls after them
  pub both_taken : AreApart names → (m : Counting) (lines : List StoredCell) (edges : List (ArcRow ℕ (List ℕ)))
      → Went m.sums (fold with_call_row (fold with_self_row m (map cell_numbers lines)) edges).sums
      (λ costs. fold with_inclusive costs (self_rows m.counts (map (cell_held names) lines) ++ call_rows m.counts (map (named_call names) edges)))
  both_taken apart m lines edges held =
      let mid : Counting = fold with_self_row m (map cell_numbers lines) in
      let costs = costs_named names m.sums in
      let own = self_rows m.counts (map (cell_held names) lines) in
      let calls = map (named_call names) edges in
      let late = calls_taken apart mid edges held in
      let early = self_taken m lines late.0 in (
        early.0,
        late.1 ∙ ap₂ (λ cs counts. fold with_inclusive cs (call_rows counts calls)) early.1 (self_counts m (map cell_numbers lines))
            ∙ sym (fold-append with_inclusive costs own (call_rows m.counts calls)),
      )

-- ---- rows of a run

-- told otherwise
adds_as : (t : Tables) (Are Other : List InclusiveRow → Type 0) (old new : PartSums) → ((rows : List InclusiveRow) → Are rows → Other rows) → AddsHeld t Are old new → AddsHeld t Other old new
adds_as t Are Other old new so adds apart held = let added = adds apart held in (added.0, (added.1.0, so added.1.0 added.1.1, added.1.2))

pub kind_added : (t : Tables) (number : ℕ) (counts : List ℕ) (told kind : Kind) (old new : PartSums) → IsKindOf number t told → told ≡ kind → AddsHeld t (AreRowsOfKind kind t number counts) old new
    → AddsHeld t (AreRowsCounted t number counts) old new
kind_added t number counts told kind old new is same adds =
    adds_as t (AreRowsOfKind kind t number counts) (AreRowsCounted t number counts) old new (λ rows are. (kind, subst (IsKindOf number t) same is, are)) adds

pub run_added : (t : Tables) (run : Counted) (counts : List ℕ) (old new : PartSums) → run.counts ≡ Some counts → AddsHeld t (AreRowsCounted t run.number counts) old new → AddsHeld t (AreRowsOf t run) old new
run_added t run counts old new is adds =
    adds_as t (AreRowsCounted t run.number counts) (AreRowsOf t run) old new
    (λ rows are. subst (λ (c : Option (List ℕ)). MatchOption c (rows ≡ []) (λ counts. AreRowsCounted t run.number counts rows)) (sym is) are) adds

-- ---- runs one after another

pub rows_added : (t : Tables) (runs : List Counted) (before after : InclusiveParts) → AreAdded (λ run old new. AddsHeld t (AreRowsOf t run) (sums_in old) (sums_in new)) runs before after
    → AddsHeld t (AreRowsOfRuns t runs) (sums_in before) (sums_in after)
rows_added t [] before after all apart held =
    let same = ap sums_in all in
    (subst (AreHeld t.names) same held, ([], refl, ap (costs_named t.names) same))
rows_added t (run ∷ runs) before after all apart held =
    let rest = rows_added t runs all.0 after all.2 apart held in
    let one = all.1 apart rest.0 in
    let costs = costs_named t.names (sums_in before) in
    let first = one.1 in
    let later = rest.1 in (
      one.0,
      (
        first.0 ++ later.0,
        (first.0, later.0, first.1, later.1, refl),
        later.2 ∙ ap (λ costs. fold with_inclusive costs later.0) first.2 ∙ sym (fold-append with_inclusive costs first.0 later.0),
      ),
    )

-- ---- the text

-- of what runs add up to, of which the names are given
pub text_told : (t : Tables) (runs : List Counted) (s : PartSums) (names : List NameRow) (event text : List ℕ) → AreApart t.names → AddsHeld t (AreRowsOfRuns t runs) none_added s → AreNamesFor t s names
    → IsTextNamed names s event text → IsInclusiveText t runs event text
text_told t runs s names event text apart added are is =
    let held = all_so (IsHeld names) (IsHeld t.names) (λ n here. (are.among.same n here).0) (numbers_told Function s.numbers) is.0 in
    (costs_named t.names s, (added apart (held, are.called)).1, is.1 t.names are.among.same)

-- ---- the rows of one file

-- self costs, calls and stacks, one kind after the other
abbrev by_kind : EventCells → EventEdges → List (StackRow (List ℕ)) → List InclusiveRow
by_kind cells edges stacks = self_rows cells.coefs cells.cells ++ (call_rows edges.coefs edges.calls ++ map OfStack stacks)

-- rows add what cells, calls and stacks do that represent a file
record AddsFile (event : List ℕ) (f : File) (rows : List InclusiveRow) : Type 0 where
  cells : EventCells
  own : Represents (inclusive_records event f) cells
  edges : EventEdges
  calls : CallsRepresent (inclusive_records event f) edges
  stacks : List (StackRow (List ℕ))
  seen : SameStacks stacks (event_stacks event f)
  same : (old : InclusiveCosts) → fold with_inclusive old rows ≡ fold with_inclusive old (by_kind cells edges stacks)

all_called : (format : Format) (bytes : List ℕ) → kind_in format ≡ Callgrind → called_records format bytes ≡ records_of format bytes
all_called (formats.Callgrind g) bytes is = refl
all_called formats.Folded bytes is = absurd cc

none_called : (format : Format) (bytes : List ℕ) → kind_in format ≡ Folded → called_records format bytes ≡ []
none_called (formats.Callgrind g) bytes is = absurd cc
none_called formats.Folded bytes is = refl

no_stacks : (format : Format) (bytes : List ℕ) → kind_in format ≡ Callgrind → stacks_of format bytes ≡ []
no_stacks (formats.Callgrind g) bytes is = refl
no_stacks formats.Folded bytes is = absurd cc

none_seen : (event : List ℕ) (f : File) → kind_in f.format ≡ Callgrind → SameStacks [] (event_stacks event f)
none_seen event f is = λ test. ap (frames_sum test) (sym (go (has_event event f)))
  where
    go : (b : Bool) → (if b then stacks_of f.format f.bytes else []) ≡ []
    go true = no_stacks f.format f.bytes is
    go false = refl

-- what costs nothing adds nothing
same_total : (n : ℕ) → n + 0 ≡ n
same_total n = omega arith

self_nothing : (old : InclusiveCosts) (cell : CellRow (List ℕ)) → with_self old (weighted [] cell) ≡ old
self_nothing old cell =
    ap (λ cost. with_self old (record cell { event = 0; cost = cost })) (none_of cell.cost) ∙ ap (λ total. record old { total = total }) (same_total old.total)
  where
    none_of : (cost : ℕ) → 0 * cost ≡ 0
    none_of cost = omega arith

calls_nothing : (old : InclusiveCosts) (call : ArcRow (List ℕ) (List ℕ)) → with_outward old (weighted_calls [] call) ≡ old
calls_nothing old call = go (is_one_function (weighted_calls [] call).caller (weighted_calls [] call).callee)
  where
    go : (b : Bool) → record old { sums = (fold with_row (by_function old) (rows_of (if b then [] else ((weighted_calls [] call).caller, 0) ∷ []))).sums } ≡ old
    go true = refl
    go false = refl

cells_nothing : (old : InclusiveCosts) (cells : List (CellRow (List ℕ))) (rest : List InclusiveRow) → fold with_inclusive old (self_rows [] cells ++ rest) ≡ fold with_inclusive old rest
cells_nothing old [] rest = refl
cells_nothing old (cell ∷ cells) rest = ap (λ costs. fold with_inclusive costs (self_rows [] cells ++ rest)) (self_nothing old cell) ∙ cells_nothing old cells rest

edges_nothing : (old : InclusiveCosts) (edges : List (ArcRow (List ℕ) (List ℕ))) (rest : List InclusiveRow) → fold with_inclusive old (call_rows [] edges ++ rest) ≡ fold with_inclusive old rest
edges_nothing old [] rest = refl
edges_nothing old (call ∷ edges) rest = ap (λ costs. fold with_inclusive costs (call_rows [] edges ++ rest)) (calls_nothing old call) ∙ edges_nothing old edges rest

-- cells of a Callgrind file, and its calls
module _ (h : History) (t : Tables) (event : List ℕ) (represent : TablesRepresent h t) (f : File) (there : Has (held h) f) where
  told : RowsAgree f t
  told = tells_rows h t represent f there

  self_of : (counts : List ℕ) → counts ≡ unwrap_or (counts_of event f) [] → kind_in f.format ≡ Callgrind → Represents (inclusive_records event f) (record { coefs = counts; cells = cells_held f.number t })
  self_of counts are is =
      let same = sym (all_called f.format f.bytes is) in
      record { coefs = are; cells = λ passes k. told.cells passes k ∙ ap (self_sum passes k) same }

  calls_of : (counts : List ℕ) (edges : List (ArcRow (List ℕ) (List ℕ))) → counts ≡ unwrap_or (counts_of event f) [] → kind_in f.format ≡ Callgrind → AreCallsOf f.number t edges
      → CallsRepresent (inclusive_records event f) (record { coefs = counts; calls = edges })
  calls_of counts edges are is whole =
      let same = sym (all_called f.format f.bytes is) in
      let come : CallsSum edges (records_of f.format f.bytes) = told.calls edges whole in
      record {
        coefs = are;
        costs = λ passes k. come.costs passes k ∙ ap (call_sum passes k) same;
        counts = λ passes. come.counts passes ∙ ap (count_sum passes) same;
        called = λ passes. come.called passes ∙ ap (has_call passes) same;
      }

  -- a folded file has neither
  no_self : kind_in f.format ≡ Folded → Represents (inclusive_records event f) (record { coefs = unwrap_or (counts_of event f) []; cells = [] })
  no_self is = record { coefs = refl; cells = λ passes k. ap (self_sum passes k) (sym (none_called f.format f.bytes is)) }

  no_calls : kind_in f.format ≡ Folded → CallsRepresent (inclusive_records event f) (record { coefs = unwrap_or (counts_of event f) []; calls = [] })
  no_calls is =
      let same = sym (none_called f.format f.bytes is) in
      record {
        coefs = refl;
        costs = λ passes k. ap (call_sum passes k) same;
        counts = λ passes. ap (count_sum passes) same;
        called = λ passes. ap (has_call passes) same;
      }

  -- by the kind of the file, where the run has the event
  of_kind : (kind : Kind) (counts : List ℕ) (rows : List InclusiveRow) → kind ≡ kind_in f.format → counts_of event f ≡ Some counts → AreRowsOfKind kind t f.number counts rows → AddsFile event f rows
  of_kind Callgrind counts rows is has are =
      let coefs : counts ≡ unwrap_or (counts_of event f) [] = sym (ap (λ c. unwrap_or c []) has) in
      record {
        cells = record { coefs = counts; cells = cells_held f.number t };
        own = self_of counts coefs (sym is);
        edges = record { coefs = counts; calls = are.0 };
        calls = calls_of counts are.0 coefs (sym is) are.1;
        stacks = [];
        seen = none_seen event f (sym is);
        same = λ old. ap (fold with_inclusive old) (are.2 ∙ ap (λ l. self_rows counts (cells_held f.number t) ++ l) (sym (append-nil (call_rows counts are.0))));
      }
  of_kind Folded counts rows is has are = record {
    cells = record { coefs = unwrap_or (counts_of event f) []; cells = [] };
    own = no_self (sym is);
    edges = record { coefs = unwrap_or (counts_of event f) []; calls = [] };
    calls = no_calls (sym is);
    stacks = stacks_held f.number t;
    seen = λ test. told.stacks test ∙ ap (λ b. frames_sum test (if b then stacks_of f.format f.bytes else [])) (sym (ap is_some has));
    same = λ old. ap (fold with_inclusive old) are;
  }

  -- and where it does not
  without : (kind : Kind) → kind ≡ kind_in f.format → counts_of event f ≡ None → AddsFile event f []
  without Callgrind is has =
      let coefs : [] ≡ unwrap_or (counts_of event f) [] = sym (ap (λ c. unwrap_or c []) has) in
      let edges = told.whole.0 in
      record {
        cells = record { coefs = []; cells = cells_held f.number t };
        own = self_of [] coefs (sym is);
        edges = record { coefs = []; calls = edges };
        calls = calls_of [] edges coefs (sym is) told.whole.1;
        stacks = [];
        seen = none_seen event f (sym is);
        same = λ old. sym (cells_nothing old (cells_held f.number t) (call_rows [] edges ++ []) ∙ edges_nothing old edges []);
      }
  without Folded is has = record {
    cells = record { coefs = unwrap_or (counts_of event f) []; cells = [] };
    own = no_self (sym is);
    edges = record { coefs = unwrap_or (counts_of event f) []; calls = [] };
    calls = no_calls (sym is);
    stacks = [];
    seen = λ test. ap (λ b. frames_sum test (if b then stacks_of f.format f.bytes else [])) (sym (ap is_some has));
    same = λ old. refl;
  }

  file_added : (run : Counted) (rows : List InclusiveRow) → IsRunOf event f run → AreRowsOf t run rows → AddsFile event f rows
  file_added run rows is are = go run.counts (sym is.counts) are
    where
      go : (counts : Option (List ℕ)) → counts_of event f ≡ counts
          → MatchOption counts (rows ≡ []) (λ counts. (kind : Kind) × IsKindOf run.number t kind × AreRowsOfKind kind t run.number counts rows) → AddsFile event f rows
      go (Some counts) has them =
          let kind : IsKindOf f.number t them.0 = subst (λ n. IsKindOf n t them.0) is.number them.1 in
          of_kind them.0 counts rows (kind_told h t f them.0 represent there kind) has (subst (λ n. AreRowsOfKind them.0 t n counts rows) is.number them.2)
      go None has them = subst (AddsFile event f) (sym them) (without (kind_in f.format) refl has)

-- ---- of files

record AddsFiles (event : List ℕ) (files : List File) (rows : List InclusiveRow) : Type 0 where
  cells : List EventCells
  own : StandForEach (map (inclusive_records event) files) cells
  edges : List EventEdges
  calls : CallsRepresentEach (map (inclusive_records event) files) edges
  stacks : List (StackRow (List ℕ))
  seen : SameStacks stacks (flat_map (event_stacks event) files)
  parts : List InclusiveRow
  same : (old : InclusiveCosts) → fold with_inclusive old rows ≡ fold with_inclusive old parts
  self_are : self_in parts ≡ all_rows cells
  calls_are : calls_in parts ≡ all_edges edges
  stacks_are : stacks_in parts ≡ stacks

self_append : (xs ys : List InclusiveRow) → self_in (xs ++ ys) ≡ self_in xs ++ self_in ys
self_append [] ys = refl
self_append (OfSelf r ∷ xs) ys = ap (λ l. r ∷ l) (self_append xs ys)
self_append (OfCalls c ∷ xs) ys = self_append xs ys
self_append (OfStack r ∷ xs) ys = self_append xs ys

calls_append : (xs ys : List InclusiveRow) → calls_in (xs ++ ys) ≡ calls_in xs ++ calls_in ys
calls_append [] ys = refl
calls_append (OfSelf r ∷ xs) ys = calls_append xs ys
calls_append (OfCalls c ∷ xs) ys = ap (λ l. c ∷ l) (calls_append xs ys)
calls_append (OfStack r ∷ xs) ys = calls_append xs ys

stacks_append : (xs ys : List InclusiveRow) → stacks_in (xs ++ ys) ≡ stacks_in xs ++ stacks_in ys
stacks_append [] ys = refl
stacks_append (OfSelf r ∷ xs) ys = stacks_append xs ys
stacks_append (OfCalls c ∷ xs) ys = stacks_append xs ys
stacks_append (OfStack r ∷ xs) ys = ap (λ l. r ∷ l) (stacks_append xs ys)

module _ (counts : List ℕ) where
  self_of_self : (cells : List (CellRow (List ℕ))) (rest : List InclusiveRow) → self_in (self_rows counts cells ++ rest) ≡ map (weighted counts) cells ++ self_in rest
  self_of_self [] rest = refl
  self_of_self (c ∷ cells) rest = ap (λ l. weighted counts c ∷ l) (self_of_self cells rest)

  self_of_calls : (edges : List (ArcRow (List ℕ) (List ℕ))) (rest : List InclusiveRow) → self_in (call_rows counts edges ++ rest) ≡ self_in rest
  self_of_calls [] rest = refl
  self_of_calls (a ∷ edges) rest = self_of_calls edges rest

  calls_of_self : (cells : List (CellRow (List ℕ))) (rest : List InclusiveRow) → calls_in (self_rows counts cells ++ rest) ≡ calls_in rest
  calls_of_self [] rest = refl
  calls_of_self (c ∷ cells) rest = calls_of_self cells rest

  calls_of_calls : (edges : List (ArcRow (List ℕ) (List ℕ))) (rest : List InclusiveRow) → calls_in (call_rows counts edges ++ rest) ≡ map (weighted_calls counts) edges ++ calls_in rest
  calls_of_calls [] rest = refl
  calls_of_calls (a ∷ edges) rest = ap (λ l. weighted_calls counts a ∷ l) (calls_of_calls edges rest)

  stacks_of_self : (cells : List (CellRow (List ℕ))) (rest : List InclusiveRow) → stacks_in (self_rows counts cells ++ rest) ≡ stacks_in rest
  stacks_of_self [] rest = refl
  stacks_of_self (c ∷ cells) rest = stacks_of_self cells rest

  stacks_of_calls : (edges : List (ArcRow (List ℕ) (List ℕ))) (rest : List InclusiveRow) → stacks_in (call_rows counts edges ++ rest) ≡ stacks_in rest
  stacks_of_calls [] rest = refl
  stacks_of_calls (a ∷ edges) rest = stacks_of_calls edges rest

self_of_stacks : (stacks : List (StackRow (List ℕ))) → self_in (map OfStack stacks) ≡ []
self_of_stacks [] = refl
self_of_stacks (s ∷ stacks) = self_of_stacks stacks

calls_of_stacks : (stacks : List (StackRow (List ℕ))) → calls_in (map OfStack stacks) ≡ []
calls_of_stacks [] = refl
calls_of_stacks (s ∷ stacks) = calls_of_stacks stacks

stacks_of_stacks : (stacks : List (StackRow (List ℕ))) → stacks_in (map OfStack stacks) ≡ stacks
stacks_of_stacks [] = refl
stacks_of_stacks (s ∷ stacks) = ap (λ l. s ∷ l) (stacks_of_stacks stacks)

module _ (cells : EventCells) (edges : EventEdges) (stacks : List (StackRow (List ℕ))) where
  self_by_kind : self_in (by_kind cells edges stacks) ≡ map (weighted cells.coefs) cells.cells
  self_by_kind =
      self_of_self cells.coefs cells.cells (call_rows edges.coefs edges.calls ++ map OfStack stacks)
      ∙ ap (λ l. map (weighted cells.coefs) cells.cells ++ l) (self_of_calls edges.coefs edges.calls (map OfStack stacks) ∙ self_of_stacks stacks)
      ∙ append-nil (map (weighted cells.coefs) cells.cells)

  calls_by_kind : calls_in (by_kind cells edges stacks) ≡ map (weighted_calls edges.coefs) edges.calls
  calls_by_kind =
      calls_of_self cells.coefs cells.cells (call_rows edges.coefs edges.calls ++ map OfStack stacks)
      ∙ calls_of_calls edges.coefs edges.calls (map OfStack stacks)
      ∙ ap (λ l. map (weighted_calls edges.coefs) edges.calls ++ l) (calls_of_stacks stacks)
      ∙ append-nil (map (weighted_calls edges.coefs) edges.calls)

  stacks_by_kind : stacks_in (by_kind cells edges stacks) ≡ stacks
  stacks_by_kind =
      stacks_of_self cells.coefs cells.cells (call_rows edges.coefs edges.calls ++ map OfStack stacks)
      ∙ stacks_of_calls edges.coefs edges.calls (map OfStack stacks)
      ∙ stacks_of_stacks stacks

count_append : (test : List ℕ → Bool) (xs ys : List (StackRow (List ℕ))) → stacks_count test (xs ++ ys) ≡ stacks_count test xs + stacks_count test ys
count_append test [] ys = let n : ℕ = stacks_count test ys in let e : n ≡ 0 + n = omega arith in e
count_append test (x ∷ xs) ys = let rest = count_append test xs ys in omega (arith, rest)

frames_append : (test : List ℕ → Bool) (xs ys : List Seen) → frames_sum test (xs ++ ys) ≡ frames_sum test xs + frames_sum test ys
frames_append test [] ys = let n : ℕ = frames_sum test ys in let e : n ≡ 0 + n = omega arith in e
frames_append test (x ∷ xs) ys = let rest = frames_append test xs ys in omega (arith, rest)

both_seen : (xs ys : List (StackRow (List ℕ))) (seen more : List Seen) → SameStacks xs seen → SameStacks ys more → SameStacks (xs ++ ys) (seen ++ more)
both_seen xs ys seen more one two = λ test. count_append test xs ys ∙ ap₂ ◌+◌ (one test) (two test) ∙ sym (frames_append test seen more)

one_more : (event : List ℕ) (f : File) (files : List File) (first later rows : List InclusiveRow) → rows ≡ first ++ later → AddsFile event f first → AddsFiles event files later → AddsFiles event (f ∷ files) rows
one_more event f files first later rows are one rest =
    let here = by_kind one.cells one.edges one.stacks in
    record {
      cells = one.cells ∷ rest.cells;
      own = (one.own, rest.own);
      edges = one.edges ∷ rest.edges;
      calls = (one.calls, rest.calls);
      stacks = one.stacks ++ rest.stacks;
      seen = both_seen one.stacks rest.stacks (event_stacks event f) (flat_map (event_stacks event) files) one.seen rest.seen;
      parts = here ++ rest.parts;
      same = λ old. ap (fold with_inclusive old) are ∙ fold-append with_inclusive old first later ∙ ap (λ costs. fold with_inclusive costs later) (one.same old)
          ∙ rest.same (fold with_inclusive old here) ∙ sym (fold-append with_inclusive old here rest.parts);
      self_are = self_append here rest.parts ∙ ap₂ ◌++◌ (self_by_kind one.cells one.edges one.stacks) rest.self_are;
      calls_are = calls_append here rest.parts ∙ ap₂ ◌++◌ (calls_by_kind one.cells one.edges one.stacks) rest.calls_are;
      stacks_are = stacks_append here rest.parts ∙ ap₂ ◌++◌ (stacks_by_kind one.cells one.edges one.stacks) rest.stacks_are;
    }

files_added : (h : History) (t : Tables) (event : List ℕ) → TablesRepresent h t → (files : List File) (runs : List Counted) (rows : List InclusiveRow) → AllByRecursion (Has (held h)) files
    → AreRunsOf event files runs → AreRowsOfRuns t runs rows → AddsFiles event files rows
files_added h t event represent [] [] rows all are rows_are = record {
  cells = [];
  own = tt;
  edges = [];
  calls = tt;
  stacks = [];
  seen = λ test. refl;
  parts = [];
  same = λ old. ap (fold with_inclusive old) rows_are;
  self_are = refl;
  calls_are = refl;
  stacks_are = refl;
}
files_added h t event represent [] (run ∷ runs) rows all are rows_are = absurd are
files_added h t event represent (f ∷ files) [] rows all are rows_are = absurd are
files_added h t event represent (f ∷ files) (run ∷ runs) rows all are rows_are =
    one_more event f files rows_are.0 rows_are.1 rows rows_are.4 (file_added h t event represent f all.0 run rows_are.0 are.0 rows_are.2)
    (files_added h t event represent files runs rows_are.1 all.1 are.1 rows_are.3)

inclusive_by : (event : List ℕ) (files : List File) (rows : List InclusiveRow) (costs : InclusiveCosts) → AddsFiles event files rows → costs ≡ fold with_inclusive no_costs rows → costs ≡ inclusive_of files event
inclusive_by event files rows costs added is =
    is ∙ added.same no_costs ∙ inclusive_come_to added.parts
    ∙ ap₂ (λ own calls. inclusive_rows own calls (stacks_in added.parts)) added.self_are added.calls_are
    ∙ ap (inclusive_rows (all_rows added.cells) (all_edges added.edges)) added.stacks_are
    ∙ inclusive_are_records (map (inclusive_records event) files) (flat_map (event_stacks event) files) added.cells added.edges added.stacks added.own added.calls added.seen

-- ---- the answers

expected_of : (h : History) (t : Tables) (s : Selection) (event : List ℕ) (runs : List Counted) (text : List ℕ) → TablesRepresent h t → AreEventRuns h t s event (Ok runs) → IsInclusiveText t runs event text
    → Text text ≡ expected_of_query h (Inclusive s event)
expected_of h t s event runs text represent found is =
    let files = selected h s in
    let all = selected_held h s in
    let added = files_added h t event represent files runs is.1.0 all (are_runs h t event represent files runs all found.2) is.1.1 in
    ap Text (is.2 ∙ ap (λ costs. inclusive_text event (inclusive_report costs)) (inclusive_by event files is.1.0 is.0 added is.1.2))
    ∙ both_held h t s event runs found [] (Text (inclusive_of_files files event))

refused_of : (h : History) (t : Tables) (s : Selection) (event : List ℕ) (refusal : Refusal) → AreEventRuns h t s event (Err refusal) → Refused refusal ≡ expected_of_query h (Inclusive s event)
refused_of h t s event refusal found = sym (found [] (Text (inclusive_of_files (selected h s) event)))

expected_by : (h : History) (t : Tables) (s : Selection) (event : List ℕ) (found : Result (List Counted) Refusal) (answer : Answer) → TablesRepresent h t → AreEventRunsIn t s event found
    → AnswersFor (λ runs. ShowsText (IsInclusiveText t runs event)) found answer → answer ≡ expected_of_query h (Inclusive s event)
expected_by h t s event (Ok runs) answer represent found is = is.2 ∙ expected_of h t s event runs is.0 represent (event_runs_told h t s event (Ok runs) represent found) is.1
expected_by h t s event (Err refusal) answer represent found is = is ∙ refused_of h t s event refusal (event_runs_told h t s event (Err refusal) represent found)

pub inclusive_is_expected : (s : Selection) (event : List ℕ) (h : History) (t : Tables) (answer : Answer) → TablesRepresent h t → IsInclusive t s event answer → answer ≡ expected_of_query h (Inclusive s event)
inclusive_is_expected s event h t answer represent is = expected_by h t s event is.found answer represent is.is_found is.answer_is
