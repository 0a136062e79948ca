-- The sum of each event of a run beside the total that its file states.
use Rattle.std.specs.Prelude.{ℕ, ◌+◌, ◌==◌, if◌then◌else◌, List, [], ◌∷◌, ◌++◌, flat_map, codes, slice_get, slice_index, Option, Some, None}
use Rattle.std.specs.Fmt.{decimal}
use Rattle.byte_io.specs.Escapes.{escaped}

pub record Checked : Type 0 where
  pub event : List ℕ
  pub sum : ℕ
  pub stated : Option ℕ

pub record Verified : Type 0 where
  pub run : ℕ
  pub checks : List Checked

-- the total that is stated of a column, if there are any
abbrev pub stated_in : Option (List ℕ) → ℕ → Option ℕ
stated_in None k = None
stated_in (Some totals) k = slice_get totals k

-- the checks of events, where the first is that of column k
abbrev pub checks_from : List ℕ → Option (List ℕ) → ℕ → List (List ℕ) → List Checked
checks_from sums stated k [] = []
checks_from sums stated k (event ∷ events) =
    record { event = event; sum = slice_index sums k; stated = stated_in stated k } ∷ checks_from sums stated (k + 1) events

abbrev pub verified : ℕ → List (List ℕ) → List ℕ → Option (List ℕ) → Verified
verified run events sums stated = record { run = run; checks = checks_from sums stated 0 events }

-- ---- the text

-- what is stated, and whether the sum is that
abbrev pub verdict : ℕ → Option ℕ → List ℕ
verdict sum None = codes "none none"
verdict sum (Some stated) = decimal stated ++ (if sum == stated then codes " ok" else codes " differs")

-- a run and one of its events
abbrev pub event_text : ℕ → List ℕ → List ℕ
event_text run event = decimal run ++ (codes " " ++ escaped event)

-- a sum beside what is stated
abbrev pub sum_text : ℕ → Option ℕ → List ℕ
sum_text sum stated = decimal sum ++ (codes " " ++ verdict sum stated)

abbrev pub check_line : ℕ → Checked → List ℕ
check_line run c = event_text run c.event ++ (codes " " ++ (sum_text c.sum c.stated ++ codes "\n"))

abbrev pub check_lines : ℕ → List Checked → List ℕ
check_lines run checks = flat_map (check_line run) checks

abbrev pub verify_text : Verified → List ℕ
verify_text v = check_lines v.run v.checks
