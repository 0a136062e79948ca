-- The definitions, computed on examples.
use Rattle.std.proofs.Common.{◌≡◌, ℕ, ◌*◌, List, [], ◌∷◌, fold, map, codes, Some, inl, inr, refl, arith}
use Rattle.std.proofs.lemmas.List.Sorted.{IsPermutation-refl}
use Rattle.cost_reports.specs.Enough.{AreEnough}
use Rattle.cost_rows.specs.KeySums.{sums_by}
use Rattle.cost_rows.specs.declared.keys.Key.TheVariants.{Object, File, Function, Line, Thread}
use Rattle.cost_rows.specs.declared.rows.CellRow.{CellRow}
use Rattle.plain_tables.specs.Tables.{NameRow}
use Rattle.run_stores.specs.Names.{named_cell}
use Rattle.selected_runs.specs.Named.{named_sum}
use Rattle.selected_runs.specs.Ranked.{sums_of, IsApart, Reached}
use Rattle.selected_runs.specs.Sums.{number_rows, numbers_part, numbers_told, numbers_total, told, with_number}
use Rattle.selected_runs.specs.declared.parts.NumberPart.{NumberPart}

abbrev row : ℕ → ℕ → ℕ → CellRow ℕ
row function line cost = record { object = 9; file = 4; function = function; line = line; thread = 1; event = 2; cost = cost }

part_of_a_function : numbers_part Function (row 7 30 5) ≡ record { object = 9; file = 0; function = 7; line = 0; thread = 0 }
part_of_a_function = refl

part_of_a_line : numbers_part Line (row 7 30 5) ≡ record { object = 0; file = 4; function = 0; line = 30; thread = 0 }
part_of_a_line = refl

-- two rows of a function, one of another before it in the order, and one that costs nothing
abbrev rows : List (CellRow ℕ)
rows = row 7 30 5 ∷ row 7 31 6 ∷ row 3 30 2 ∷ row 8 30 0 ∷ row 7 30 1 ∷ []

abbrev function : ℕ → NumberPart
function number = record { object = 9; file = 0; function = number; line = 0; thread = 0 }

sums_of_functions : (fold with_number (record { key = Function; sums = [] }) rows).sums ≡ (function 3, 2) ∷ (function 7, 12) ∷ []
sums_of_functions = refl

total_of_functions : numbers_total (fold with_number (record { key = Function; sums = [] }) rows).sums ≡ 14
total_of_functions = refl

-- two numbers may have one name, and are one sum by name
abbrev names : List NameRow
names = record { number = 9; name = codes "a.so" } ∷ record { number = 7; name = codes "f" } ∷ record { number = 3; name = codes "f" } ∷ []

sums_by_name : sums_by Function (map (named_cell names) (number_rows ((function 3, 2) ∷ (function 7, 12) ∷ [])))
    ≡ (record { object = codes "a.so"; file = codes "???"; function = codes "f"; line = 0; thread = 0 }, 14) ∷ []
sums_by_name = refl

-- ---- the numbers of names

abbrev everywhere : NumberPart
everywhere = record { object = 9; file = 4; function = 7; line = 30; thread = 1 }

told_by_each_key : told Object everywhere ∷ told File everywhere ∷ told Function everywhere ∷ told Line everywhere ∷ told Thread everywhere ∷ []
    ≡ (9 ∷ []) ∷ (4 ∷ []) ∷ (9 ∷ 7 ∷ []) ∷ (4 ∷ []) ∷ [] ∷ []
told_by_each_key = refl

-- numbers come as often as sums tell them
told_by_functions : numbers_told Function ((function 3, 2) ∷ (function 7, 12) ∷ []) ≡ 9 ∷ 3 ∷ 9 ∷ 7 ∷ []
told_by_functions = refl

-- ---- names that are told apart

abbrev apart : List NameRow
apart = record { number = 9; name = codes "a.so" } ∷ record { number = 7; name = codes "f" } ∷ record { number = 3; name = codes "g" } ∷ []

-- the sums have the order of the numbers
named_by_number : map (named_sum apart Function) ((function 3, 2) ∷ (function 7, 12) ∷ [])
    ≡ (record { object = codes "a.so"; file = codes "???"; function = codes "g"; line = 0; thread = 0 }, 2)
    ∷ (record { object = codes "a.so"; file = codes "???"; function = codes "f"; line = 0; thread = 0 }, 12)
    ∷ []
named_by_number = refl

-- and merged by name that of the names
merged_by_name : sums_by Function (map (named_cell apart) rows)
    ≡ (record { object = codes "a.so"; file = codes "???"; function = codes "f"; line = 0; thread = 0 }, 12)
    ∷ (record { object = codes "a.so"; file = codes "???"; function = codes "g"; line = 0; thread = 0 }, 2)
    ∷ []
merged_by_name = refl

-- of a line the file is named, and its number told
line_named : named_sum (record { number = 4; name = codes "a.c" } ∷ []) Line (everywhere, 5) ≡ (record { object = codes "???"; file = codes "a.c"; function = codes "???"; line = 30; thread = 0 }, 5)
line_named = refl

-- ---- sums, the greatest cost first

abbrev falling : List (NumberPart × ℕ)
falling = (function 7, 60) ∷ (function 3, 30) ∷ (function 8, 30) ∷ (function 2, 5) ∷ []

a_row : sums_of (record { cost = record { 0 = 60 }; part = function 7 } ∷ []) ≡ (function 7, 60) ∷ []
a_row = refl

-- half of 125 is reached by two: by one, 60 are not enough
two_reach_half : Reached (50 * 125) (Some 3) falling 2
two_reach_half = (omega arith, inr (inr (omega arith)))

-- the third costs as much as the second
two_are_not_apart : IsApart falling 2 → ⊥
two_are_not_apart apart = apart (omega arith) (omega arith) (function 0, 0) refl

-- so three are what a limit of two can show
three_are_enough : AreEnough (λ (e : NumberPart × ℕ). e.1) (record { limit = Some 2; threshold = 100 }) falling ((function 7, 60) ∷ (function 3, 30) ∷ (function 8, 30) ∷ [])
three_are_enough = record {
  others = (function 2, 5) ∷ [];
  are_all = IsPermutation-refl falling;
  above = ((omega arith, tt), ((omega arith, tt), ((omega arith, tt), tt)));
  suffice = inr (inl (2, refl, omega arith));
}
