-- From the runs of the tables to the files of a history.
use Rattle.std.proofs.Common.{◌≡◌, ℕ, Bool, ◌||◌, List, [], ◌∷◌, map, filter, inl, inr, refl, ap, ap₂, ◌∙◌}
use Rattle.std.specs.Prelude.{unwrap_or}
use Rattle.std.specs.List.{AllByRecursion, list_any}
use Rattle.std.specs.Option.{is_some}
use Rattle.plain_tables.specs.Lists.{Has}
use Rattle.plain_tables.proofs.Lists.{has_kept}
use Rattle.cg_formulas.specs.Flats.{row_in, row_of}
use Rattle.cg_formulas.specs.declared.heads.FileHead.{FileHead}
use Rattle.cost_rows.specs.declared.keys.Key.{Key}
use Rattle.cost_rows.specs.KeySums.{sums_by}
use Rattle.report_texts.specs.Costs.{StandForEach, all_rows, costs_by}
use Rattle.cost_reports.proofs.CostLemmas.{cells_are_records}
use Rattle.cost_rows.specs.WalkSums.{rows_cost}
use Rattle.run_stores.specs.Book.{cells_held}
use Rattle.plain_tables.specs.Tables.{Tables}
use Rattle.histories.specs.History.{History, File, held}
use Rattle.histories.specs.Reports.{counts_of, event_records, has_event}
use Rattle.histories.specs.Selections.{numbers_of, selected, selects}
use Rattle.histories.specs.Representation.{TablesRepresent}
use Rattle.requests.specs.Plain.{Selection}
use Rattle.histories.proofs.Runs.{tells_rows}
use Rattle.selected_runs.specs.Counted.{AreCounted, IsCounted, event_cells, has_counts}
use Rattle.selected_runs.specs.declared.counting.Counted.{Counted}
use Rattle.histories.specs.Told.{HeadAgrees}
use Rattle.histories.proofs.Heads.{held_head_told}

-- ---- one run

-- it has the number of the file, and counts its events as the file does
pub record IsRunOf (event : List ℕ) (f : File) (run : Counted) : Type 0 where
  pub number : run.number ≡ f.number
  pub counts : run.counts ≡ counts_of event f

same_row : (f : File) (head : FileHead) (event : List ℕ) → HeadAgrees f head → row_of head.derived event ≡ counts_of event f
same_row f head event told = ap₂ (λ events derived. row_in events derived event) (told.wide ∙ told.events) told.derived

run_of_file : (h : History) (t : Tables) (f : File) (event : List ℕ) (run : Counted) → TablesRepresent h t → Has (held h) f → IsCounted t event f.number run → IsRunOf event f run
run_of_file h t f event run represent is it = record {
  number = it.number_is;
  counts = it.counts_are ∙ same_row f it.head event (held_head_told h t f it.head represent is it.head_is);
}

-- ---- each in turn

abbrev pub AreRunsOf : List ℕ → List File → List Counted → Type 0
AreRunsOf event [] [] = Unit {0}
AreRunsOf event (f ∷ files) (run ∷ runs) = IsRunOf event f run × AreRunsOf event files runs
AreRunsOf event files runs = ⊥

pub are_runs : (h : History) (t : Tables) (event : List ℕ) → TablesRepresent h t → (files : List File) (runs : List Counted) → AllByRecursion (Has (held h)) files → AreCounted t event (numbers_of files) runs
    → AreRunsOf event files runs
are_runs h t event represent [] [] all counted = tt
are_runs h t event represent [] (run ∷ runs) all counted = absurd counted
are_runs h t event represent (f ∷ files) [] all counted = absurd counted
are_runs h t event represent (f ∷ files) (run ∷ runs) all counted = (run_of_file h t f event run represent all.0 counted.0, are_runs h t event represent files runs all.1 counted.1)

all_held : {X : Type 0} (p : X → Bool) (P : X → Type 0) (xs : List X) → ((x : X) → Has xs x → P x) → AllByRecursion P (filter p xs)
all_held {X = X} p P xs each = go (filter p xs) (λ x is. each x (has_kept p xs x is).0)
  where
    go : (ys : List X) → ((x : X) → Has ys x → P x) → AllByRecursion P ys
    go [] each = tt
    go (y ∷ ys) each = (each y (inl refl), go ys (λ x is. each x (inr is)))

pub selected_held : (h : History) (s : Selection) → AllByRecursion (Has (held h)) (selected h s)
selected_held h s = all_held (λ (f : File). selects h s f.number) (Has (held h)) (held h) (λ f is. is)

-- ---- what they sum to

any_has : (event : List ℕ) (files : List File) (runs : List Counted) → AreRunsOf event files runs → list_any has_counts runs ≡ list_any (has_event event) files
any_has event [] [] are = refl
any_has event [] (run ∷ runs) are = absurd are
any_has event (f ∷ files) [] are = absurd are
any_has event (f ∷ files) (run ∷ runs) are = ap₂ (λ a b. a || b) (ap is_some are.0.counts) (any_has event files runs are.1)

stand_for_each : (h : History) (t : Tables) (event : List ℕ) → TablesRepresent h t → (files : List File) (runs : List Counted) → AllByRecursion (Has (held h)) files → AreRunsOf event files runs
    → StandForEach (map (event_records event) files) (map (event_cells t) runs)
stand_for_each h t event represent [] [] all are = tt
stand_for_each h t event represent [] (run ∷ runs) all are = absurd are
stand_for_each h t event represent (f ∷ files) [] all are = absurd are
stand_for_each h t event represent (f ∷ files) (run ∷ runs) all are = (
  record {
    coefs = ap (λ counts. unwrap_or counts []) are.0.counts;
    cells = λ passes k. ap (λ n. rows_cost passes k (cells_held n t)) are.0.number ∙ (tells_rows h t represent f all.0).cells passes k;
  },
  stand_for_each h t event represent files runs all.1 are.1,
)

-- ---- over a selection

pub runs_have_event : (h : History) (t : Tables) (s : Selection) (event : List ℕ) (runs : List Counted) → TablesRepresent h t → AreCounted t event (numbers_of (selected h s)) runs
    → list_any has_counts runs ≡ list_any (has_event event) (selected h s)
runs_have_event h t s event runs represent counted = any_has event (selected h s) runs (are_runs h t event represent (selected h s) runs (selected_held h s) counted)

pub runs_stand : (h : History) (t : Tables) (s : Selection) (event : List ℕ) (runs : List Counted) → TablesRepresent h t → AreCounted t event (numbers_of (selected h s)) runs
    → StandForEach (map (event_records event) (selected h s)) (map (event_cells t) runs)
runs_stand h t s event runs represent counted =
    let all = selected_held h s in
    stand_for_each h t event represent (selected h s) runs all (are_runs h t event represent (selected h s) runs all counted)

pub runs_cost : (h : History) (t : Tables) (s : Selection) (key : Key) (event : List ℕ) (runs : List Counted) → TablesRepresent h t → AreCounted t event (numbers_of (selected h s)) runs
    → sums_by key (all_rows (map (event_cells t) runs)) ≡ costs_by key (map (event_records event) (selected h s))
runs_cost h t s key event runs represent counted = cells_are_records key _ _ (runs_stand h t s event runs represent counted)
