-- What has to fit so that a file can be put into lines.
use Rattle.std.specs.Prelude.{◌<◌, ◌≤◌, ◌^◌, ℕ, ⊤, All, List, length}
use Rattle.cg_formulas.specs.declared.heads.FileHead.{FileHead}
use Rattle.cost_rows.specs.Content.{Content}
use Rattle.cost_rows.specs.declared.places.Call.{Call}
use Rattle.cost_rows.specs.declared.rows.CellRow.{CellRow}
use Rattle.cost_rows.specs.declared.rows.StackRow.{StackRow}
use Rattle.cost_rows.specs.Walks.{counted_stacks}
use Rattle.plain_tables.specs.declared.errors.StoreError.{StoreError}
use Rattle.plain_tables.specs.declared.errors.StoreError.TheVariants.{Memory, Store}
use Rattle.run_stores.specs.Heads.{IsComplete}
use Rattle.page_imports.specs.Sums.{AllFit}

-- the names of a cell have numbers, and its own numbers fit their columns
pub record CellFits (numbers : List ℕ) (row : CellRow ℕ) : Type 0 where
  pub object : row.object < length numbers
  pub file : row.file < length numbers
  pub function : row.function < length numbers
  pub line : row.line < 2 ^ 63
  pub thread : row.thread < 2 ^ 63
  pub event : row.event < 2 ^ 32
  pub cost : row.cost < 2 ^ 63

-- so do the names and the numbers of a part of calls
pub record CallFits (numbers : List ℕ) (call : Call) (at amount : ℕ) : Type 0 where
  pub object : call.place.object < length numbers
  pub file : call.place.file < length numbers
  pub function : call.place.function < length numbers
  pub line : call.place.line < 2 ^ 63
  pub called_object : call.object < length numbers
  pub called_file : call.file < length numbers
  pub called_function : call.function < length numbers
  pub part : at < 2 ^ 32
  pub sum : amount < 2 ^ 63

-- each count above 0 of a stack fits its column
abbrev pub StacksFit : List (List ℕ × ℕ) → Type 0
StacksFit stacks = All (λ (s : StackRow (List ℕ)). s.count < 2 ^ 63) (counted_stacks stacks)

-- memory may run out at any time, and all else is refused only where this does not hold
abbrev pub RefusesUnless : Type 0 → StoreError → Type 0
RefusesUnless Can Memory = ⊤
RefusesUnless Can Store = ¬ Can

-- coefficients of one derived event fit, and their places do
pub record CoefsFit (coefficients : List ℕ) : Type 0 where
  pub times : All (λ n. n < 2 ^ 63) coefficients
  pub places : length coefficients ≤ 2 ^ 32

-- so do the places of derived events
abbrev pub DerivedFit : List (List ℕ × List ℕ) → Type 0
DerivedFit derived = length derived ≤ 2 ^ 32

-- a head is whole; its places, its coefficients and the sums of its columns fit
pub record HeadFits (head : FileHead) (c : Content) : Type 0 where
  pub complete : IsComplete head
  pub sums : AllFit head c
  pub events : length head.events ≤ 2 ^ 32
  pub derived : DerivedFit head.derived.derived
  pub coefs : All (λ (d : List ℕ × List ℕ). CoefsFit d.1) head.derived.derived
