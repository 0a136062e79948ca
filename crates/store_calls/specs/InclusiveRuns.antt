-- Inclusive costs over runs of the tables.
use Rattle.std.specs.Prelude.{◌≡◌, ℕ, List, [], ◌∷◌, ◌++◌, map, fold}
use Rattle.std.specs.List.{AllByRecursion}
use Rattle.std.specs.Option.{MatchOption}
use Rattle.cost_rows.specs.declared.keys.Key.TheVariants.{Function}
use Rattle.cost_rows.specs.declared.rows.ArcRow.{ArcRow}
use Rattle.cost_rows.specs.declared.rows.CellRow.{CellRow}
use Rattle.report_texts.specs.Calls.{weighted_calls}
use Rattle.report_texts.specs.Costs.{weighted}
use Rattle.report_texts.specs.Inclusive.{InclusiveCosts, InclusiveRow, OfSelf, OfCalls, OfStack, inclusive_report, inclusive_text, no_costs, with_inclusive}
use Rattle.run_stores.specs.Book.{cells_held, stacks_held, IsHeld}
use Rattle.plain_tables.specs.Tables.{Tables, NameRow}
use Rattle.profile_records.specs.declared.kinds.Kind.{Kind}
use Rattle.profile_records.specs.declared.kinds.Kind.TheVariants.{Callgrind, Folded}
use Rattle.selected_runs.specs.NamedRows.{AreCallsOf}
use Rattle.run_stores.specs.Lookups.{IsKindOf}
use Rattle.run_stores.specs.Names.{AreApart}
use Rattle.selected_runs.specs.Named.{AreOf}
use Rattle.selected_runs.specs.Sums.{numbers_told}
use Rattle.histories.specs.declared.answers.Answer.{Answer}
use Rattle.requests.specs.Plain.{Selection}
use Rattle.histories.specs.FromTables.{AnswersBy, ShowsText}
use Rattle.selected_runs.specs.EventRuns.{AreEventRunsIn}
use Rattle.selected_runs.specs.declared.counting.Counted.{Counted}
use Rattle.store_calls.specs.InclusiveParts.{PartSums, AreHeld, costs_named}

-- ---- the rows of runs

abbrev pub self_rows : List ℕ → List (CellRow (List ℕ)) → List InclusiveRow
self_rows counts cells = map (λ row. OfSelf (weighted counts row)) cells

abbrev pub call_rows : List ℕ → List (ArcRow (List ℕ) (List ℕ)) → List InclusiveRow
call_rows counts calls = map (λ row. OfCalls (weighted_calls counts row)) calls

-- self costs and calls of a Callgrind run, and the stacks of a folded one
abbrev pub AreRowsOfKind : Kind → Tables → ℕ → List ℕ → List InclusiveRow → Type 0
AreRowsOfKind Callgrind t number counts rows =
    (calls : List (ArcRow (List ℕ) (List ℕ))) × AreCallsOf number t calls × (rows ≡ self_rows counts (cells_held number t) ++ call_rows counts calls)
AreRowsOfKind Folded t number counts rows = rows ≡ map OfStack (stacks_held number t)

-- by the kind that the tables tell
abbrev pub AreRowsCounted : Tables → ℕ → List ℕ → List InclusiveRow → Type 0
AreRowsCounted t number counts rows = (kind : Kind) × IsKindOf number t kind × AreRowsOfKind kind t number counts rows

-- a run without the event has none
abbrev pub AreRowsOf : Tables → Counted → List InclusiveRow → Type 0
AreRowsOf t run rows = MatchOption run.counts (rows ≡ []) (λ counts. AreRowsCounted t run.number counts rows)

-- one run after another
abbrev pub AreRowsOfRuns : Tables → List Counted → List InclusiveRow → Type 0
AreRowsOfRuns t [] rows = rows ≡ []
AreRowsOfRuns t (run ∷ runs) rows =
    (first : List InclusiveRow) × (later : List InclusiveRow) × AreRowsOf t run first × AreRowsOfRuns t runs later × (rows ≡ first ++ later)

-- such rows were added
abbrev pub Adds : (List InclusiveRow → Type 0) → InclusiveCosts → InclusiveCosts → Type 0
Adds Are old new = (rows : List InclusiveRow) × Are rows × (new ≡ fold with_inclusive old rows)

-- such rows were added by number: where names are told apart, and all are held that sums tell in the end, all were held that they told before, and by name such rows were added
abbrev pub AddsHeld : Tables → (List InclusiveRow → Type 0) → PartSums → PartSums → Type 0
AddsHeld t Are old new = AreApart t.names → AreHeld t.names new → AreHeld t.names old × Adds Are (costs_named t.names old) (costs_named t.names new)

-- the text of the inclusive costs of runs
abbrev pub IsInclusiveText : Tables → List Counted → List ℕ → List ℕ → Type 0
IsInclusiveText t runs event text =
    (costs : InclusiveCosts) × Adds (AreRowsOfRuns t runs) no_costs costs × (text ≡ inclusive_text event (inclusive_report costs))

-- that of sums, by names of which some are given: all that the sums tell
abbrev pub IsTextNamed : List NameRow → PartSums → List ℕ → List ℕ → Type 0
IsTextNamed some s event text =
    AllByRecursion (IsHeld some) (numbers_told Function s.numbers) × ((all : List NameRow) → AreOf all some → text ≡ inclusive_text event (inclusive_report (costs_named all s)))

-- what is answered over the tables, whatever they represent
abbrev pub IsInclusive : Tables → Selection → List ℕ → Answer → Type 0
IsInclusive t s event answer = AnswersBy (AreEventRunsIn t s event) (λ runs. ShowsText (IsInclusiveText t runs event)) answer
