-- Sums of rows by the numbers of their names, and what a row adds to them.
use Rattle.std.specs.Prelude.{ℕ, true, List, [], ◌∷◌, flat_map, nat_eq, if◌then◌else◌}
use Rattle.std.specs.declared.cmp.Ordering.{Ordering}
use Rattle.std.specs.Ordering.{nat_cmp, ordering_then}
use Rattle.cost_rows.specs.Merging.{merge, sum_where}
use Rattle.cost_rows.specs.Stacks.{counts_added}
use Rattle.cost_rows.specs.declared.keys.Key.{Key}
use Rattle.cost_rows.specs.declared.keys.Key.TheVariants.{Object, File, Function, Line, Thread}
use Rattle.cost_rows.specs.declared.rows.CellRow.{CellRow}
use Rattle.selected_runs.specs.declared.parts.NumberPart.{NumberPart}

-- the part of a row's place that a key tells, by number; the others are 0
abbrev pub numbers_part : Key → CellRow ℕ → NumberPart
numbers_part Object row = record { object = row.object; file = 0; function = 0; line = 0; thread = 0 }
numbers_part File row = record { object = 0; file = row.file; function = 0; line = 0; thread = 0 }
numbers_part Function row = record { object = row.object; file = 0; function = row.function; line = 0; thread = 0 }
numbers_part Line row = record { object = 0; file = row.file; function = 0; line = row.line; thread = 0 }
numbers_part Thread row = record { object = 0; file = 0; function = 0; line = 0; thread = row.thread }

-- parts by their numbers
abbrev pub numbers_cmp : NumberPart → NumberPart → Ordering
numbers_cmp a b =
    ordering_then (nat_cmp a.object b.object)
    (ordering_then (nat_cmp a.file b.file)
    (ordering_then (nat_cmp a.function b.function)
    (ordering_then (nat_cmp a.line b.line) (nat_cmp a.thread b.thread))))

-- what rows are added up by, and a sum for each part of a place, in order
pub record SumsByNumber : Type 0 where
  pub key : Key
  pub sums : List (NumberPart × ℕ)

-- a cost is added at its part
abbrev pub numbers_with : NumberPart → ℕ → List (NumberPart × ℕ) → List (NumberPart × ℕ)
numbers_with part cost sums = merge numbers_cmp counts_added sums part cost

-- a row's cost is added at its part; a cost of 0 adds nothing
abbrev pub with_number : SumsByNumber → CellRow ℕ → SumsByNumber
with_number s row =
    if nat_eq row.cost 0 then s
    else record { key = s.key; sums = numbers_with (numbers_part s.key row) row.cost s.sums }

-- the sum of all
abbrev pub numbers_total : List (NumberPart × ℕ) → ℕ
numbers_total = sum_where (λ _. true) (λ n. n)

-- a sum as a row, of event 0
abbrev pub number_row : NumberPart → ℕ → CellRow ℕ
number_row part cost = record { object = part.object; file = part.file; function = part.function; line = part.line; thread = part.thread; event = 0; cost = cost }

-- sums as rows
abbrev pub number_rows : List (NumberPart × ℕ) → List (CellRow ℕ)
number_rows [] = []
number_rows (e ∷ sums) = number_row e.0 e.1 ∷ number_rows sums

-- the numbers of the names that a key tells of a part
abbrev pub told : Key → NumberPart → List ℕ
told Object part = part.object ∷ []
told File part = part.file ∷ []
told Function part = part.object ∷ part.function ∷ []
told Line part = part.file ∷ []
told Thread part = []

-- those of sums, one after another
abbrev pub numbers_told : Key → List (NumberPart × ℕ) → List ℕ
numbers_told key sums = flat_map (λ (e : NumberPart × ℕ). told key e.0) sums
