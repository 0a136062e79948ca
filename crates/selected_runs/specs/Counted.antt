-- Runs with how often their events count in the event that is asked.
use Rattle.std.specs.Prelude.{◌≡◌, ℕ, Bool, List, [], ◌∷◌, ◌++◌, length, unwrap_or}
use Rattle.std.specs.Option.{is_some}
use Rattle.cg_formulas.specs.Flats.{row_of}
use Rattle.cg_formulas.specs.declared.heads.FileHead.{FileHead}
use Rattle.report_texts.specs.Costs.{EventCells}
use Rattle.run_stores.specs.Book.{cells_held}
use Rattle.plain_tables.specs.Tables.{Tables}
use Rattle.run_stores.specs.HeldHeads.{IsHeadIn}
use Rattle.selected_runs.specs.declared.counting.Counted.{Counted}

-- a run of the tables, by its head
pub record IsCounted (t : Tables) (event : List ℕ) (number : ℕ) (run : Counted) : Type 0 where
  pub number_is : run.number ≡ number
  pub head : FileHead
  pub head_is : IsHeadIn number t head
  pub events_are : run.events ≡ length head.events
  pub counts_are : run.counts ≡ row_of head.derived event

-- each in turn
abbrev pub AreCounted : Tables → List ℕ → List ℕ → List Counted → Type 0
AreCounted t event [] [] = Unit {0}
AreCounted t event (number ∷ numbers) (run ∷ runs) = IsCounted t event number run × AreCounted t event numbers runs
AreCounted t event numbers runs = ⊥

-- a run was added
abbrev pub AddsCounted : Tables → List ℕ → ℕ → List Counted → List Counted → Type 0
AddsCounted t event number old new = (run : Counted) × IsCounted t event number run × (new ≡ old ++ run ∷ [])

-- the cells of a run, which cost nothing in an event that it does not have
abbrev pub event_cells : Tables → Counted → EventCells
event_cells t run = record { coefs = unwrap_or run.counts []; cells = cells_held run.number t }

-- whether a run has the event
abbrev pub has_counts : Counted → Bool
has_counts run = is_some run.counts
