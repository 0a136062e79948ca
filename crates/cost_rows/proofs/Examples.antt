-- The definitions, computed on examples.
use Rattle.std.proofs.Common.{◌≡◌, ℕ, ◌+◌, ◌-◌, ◌^◌, true, nat_lt, ◌==◌, map, fold, List, [], ◌∷◌, codes, Option, Some, None, refl}
use Rattle.std.specs.Ordering.{nat_cmp}
use Rattle.cost_rows.specs.Marks.{name_numbered, number_counted, number_held}
use Rattle.cost_rows.specs.Naming.{place_of, with_name, names_among}
use Rattle.profile_records.specs.Records.{Record, Own, Called}
use Rattle.profile_records.specs.Stacks.{Seen}
use Rattle.cost_rows.specs.Content.{Content, empty, with_record, with_stack}
use Rattle.cost_rows.specs.Walks.{named_cells, named_calls, counted_stacks}
use Rattle.cost_rows.specs.Sums.{self_sum}
use Rattle.cost_rows.specs.WalkSums.{rows_cost, calls_cost, calls_count, stacks_count}
use Rattle.cost_rows.specs.declared.places.Place.{Place}
use Rattle.cost_rows.specs.Merging.{merge_all, sum_where}
use Rattle.cost_rows.specs.Admit.{overflow_of}
use Rattle.cost_rows.specs.declared.rows.FileTotals.{FileTotals}
use Rattle.cost_rows.specs.declared.limits.Side.TheVariants.{SelfCost, CallCost, CallCount}

-- ---- names

names-in_order : names_among (codes "main" ∷ codes "f" ∷ codes "main" ∷ [] ∷ codes "f" ∷ []) ≡ codes "main" ∷ codes "f" ∷ [] ∷ []
names-in_order = refl

place-first : place_of (codes "main") (codes "main" ∷ codes "f" ∷ []) ≡ Some 0
place-first = refl

place-last : place_of (codes "f") (codes "main" ∷ codes "f" ∷ []) ≡ Some 1
place-last = refl

place-of_the_empty_name : place_of [] (codes "main" ∷ [] ∷ []) ≡ Some 1
place-of_the_empty_name = refl

-- a name is all its bytes
place-none : place_of (codes "mai") (codes "main" ∷ codes "f" ∷ []) ≡ None
place-none = refl

-- names need not be text
place-bytes : place_of (255 ∷ 0 ∷ []) ((255 ∷ []) ∷ (255 ∷ 0 ∷ []) ∷ []) ≡ Some 1
place-bytes = refl

with-new_name : with_name (codes "g") (codes "main" ∷ codes "f" ∷ []) ≡ codes "main" ∷ codes "f" ∷ codes "g" ∷ []
with-new_name = refl

with-known_name : with_name (codes "f") (codes "main" ∷ codes "f" ∷ []) ≡ codes "main" ∷ codes "f" ∷ []
with-known_name = refl

-- ---- marks

-- the first place has number 3, and the second none
abbrev held : List (Option ℕ)
held = Some 3 ∷ None ∷ []

number-of_a_place : number_held held 0 ≡ Some 3
number-of_a_place = refl

number-of_a_place_without_one : number_held held 1 ≡ None
number-of_a_place_without_one = refl

number-of_a_place_behind : number_held held 2 ≡ None
number-of_a_place_behind = refl

-- the second name without an identifier has number 5
number-of_the_last_plain_name : number_counted (Some (record { count = 2; number = 5 })) 2 ≡ Some 5
number-of_the_last_plain_name = refl

-- what came before it is past
number-of_an_earlier_plain_name : number_counted (Some (record { count = 2; number = 5 })) 1 ≡ None
number-of_an_earlier_plain_name = refl

known-name : name_numbered (codes "main" ∷ codes "f" ∷ []) (number_held (Some 1 ∷ []) 0) ≡ Some (codes "f")
known-name = refl

unknown-name : name_numbered (codes "main" ∷ codes "f" ∷ []) (number_held (Some 1 ∷ []) 7) ≡ None
unknown-name = refl

-- ---- what fits

abbrev totals : List ℕ → List ℕ → ℕ → FileTotals
totals self calls count = record { self_cost = self; call_cost = calls; call_count = count }

abbrev top : ℕ
top = 2 ^ 63 - 1

fits-at_the_bound : overflow_of (totals (0 ∷ 5 ∷ []) (1 ∷ 2 ∷ []) 7) (totals (top ∷ (top - 5) ∷ []) ((top - 1) ∷ 0 ∷ []) (top - 7)) ≡ None
fits-at_the_bound = refl

above-own : overflow_of (totals (0 ∷ 5 ∷ []) (1 ∷ 2 ∷ []) 7) (totals (top ∷ (top - 4) ∷ []) (top ∷ top ∷ []) top) ≡ Some (record { side = SelfCost; column = 1 })
above-own = refl

above-calls : overflow_of (totals (0 ∷ 0 ∷ []) (1 ∷ 2 ∷ []) 7) (totals (top ∷ top ∷ []) (top ∷ top ∷ []) top) ≡ Some (record { side = CallCost; column = 0 })
above-calls = refl

above-count : overflow_of (totals (0 ∷ 0 ∷ []) (1 ∷ 2 ∷ []) 7) (totals (top ∷ top ∷ []) (0 ∷ 0 ∷ []) (top - 6)) ≡ Some (record { side = CallCount; column = 0 })
above-count = refl

-- what is held may be above the bound by itself
above-alone : overflow_of (totals [] [] (2 ^ 127)) (totals [] [] (2 ^ 127)) ≡ Some (record { side = CallCount; column = 0 })
above-alone = refl

-- ---- merging

merged : merge_all nat_cmp (λ x y. x + y) [] ((7, 1) ∷ (3, 2) ∷ (7, 4) ∷ (9, 8) ∷ (3, 16) ∷ []) ≡ (3, 18) ∷ (7, 5) ∷ (9, 8) ∷ []
merged = refl

sum-below_eight : sum_where (λ k. nat_lt k 8) (λ n. n) ((3, 18) ∷ (7, 5) ∷ (9, 8) ∷ []) ≡ 23
sum-below_eight = refl

-- ---- the rows of a file

abbrev own : List ℕ → ℕ → List ℕ → Record
own function line costs = Own (record { at = 1; object = codes "???"; file = codes "a.c"; function = function; line = line; thread = 0; costs = costs })

abbrev called : List ℕ → ℕ → List ℕ → ℕ → List ℕ → Record
called function line callee count costs =
    Called (record { object = codes "???"; file = codes "b.c"; function = callee; count = count })
    (record { at = 1; object = codes "???"; file = codes "a.c"; function = function; line = line; thread = 0; costs = costs })

-- two places that differ in the line alone, one of them met twice, and a call met twice
abbrev records : List Record
records = own (codes "f") 3 (1 ∷ 2 ∷ []) ∷ called (codes "f") 3 (codes "g") 2 (10 ∷ []) ∷ own (codes "f") 2 (0 ∷ 5 ∷ []) ∷ own (codes "f") 3 (4 ∷ 0 ∷ 7 ∷ []) ∷ called (codes "f") 3 (codes "g") 1 (20 ∷ 3 ∷ []) ∷ []

abbrev content : Content
content = fold with_record empty records

content-names : content.names ≡ codes "???" ∷ codes "a.c" ∷ codes "f" ∷ codes "b.c" ∷ codes "g" ∷ []
content-names = refl

abbrev place : ℕ → Place
place line = record { object = 0; file = 1; function = 2; line = line }

content-cells : content.cells ≡ (record { place = place 2; thread = 0 }, 0 ∷ 5 ∷ []) ∷ (record { place = place 3; thread = 0 }, 5 ∷ 2 ∷ 7 ∷ []) ∷ []
content-cells = refl

content-edges : content.calls ≡ (record { place = place 3; object = 0; file = 3; function = 4 }, record { count = 3; costs = 30 ∷ 3 ∷ [] }) ∷ []
content-edges = refl

-- a cell whose sum is 0 is no row
rows-cells : map {B = ℕ × ℕ × ℕ} (λ r. (r.line, r.event, r.cost)) (named_cells content.names content.cells) ≡ (2, 1, 5) ∷ (3, 0, 5) ∷ (3, 1, 2) ∷ (3, 2, 7) ∷ []
rows-cells = refl

rows-functions : map (λ r. r.function) (named_cells content.names content.cells) ≡ codes "f" ∷ codes "f" ∷ codes "f" ∷ codes "f" ∷ []
rows-functions = refl

rows-called : map {B = List ℕ × List ℕ × ℕ} (λ r. (r.called_file, r.called_function, r.count)) (named_calls content.names content.calls) ≡ (codes "b.c", codes "g", 3) ∷ []
rows-called = refl

sum-second_column : self_sum (λ s. true) 1 records ≡ 7
sum-second_column = refl

sum-line_three : self_sum (λ s. s.line == 3) 0 records ≡ 5
sum-line_three = refl

-- the same of the rows that are walked
walked-second_column : rows_cost (λ s. true) 1 (named_cells content.names content.cells) ≡ 7
walked-second_column = refl

walked-line_three : rows_cost (λ s. s.line == 3) 0 (named_cells content.names content.cells) ≡ 5
walked-line_three = refl

walked-calls : calls_cost (λ caller callee. true) 0 (named_calls content.names content.calls) ≡ 30
walked-calls = refl

walked-count : calls_count (λ caller callee. callee.line == 0) (named_calls content.names content.calls) ≡ 3
walked-count = refl

-- ---- the rows of a folded file

abbrev seen : List ℕ → ℕ → Seen
seen frames count = record { at = 1; stack = record { frames = frames; count = count } }

abbrev folded : Content
folded = fold with_stack empty (seen (codes "main;f") 2 ∷ seen (codes "main") 1 ∷ seen (codes "main;f") 3 ∷ seen (codes "main;g;f") 4 ∷ seen (codes "main;") 0 ∷ [])

folded-names : folded.names ≡ codes "???" ∷ codes "f" ∷ codes "main" ∷ []
folded-names = refl

folded-stacks : folded.stacks ≡ (codes "main", 1) ∷ (codes "main;", 0) ∷ (codes "main;f", 5) ∷ (codes "main;g;f", 4) ∷ []
folded-stacks = refl

-- the last frames; one without a name is `???`
folded-cells : map {B = List ℕ × ℕ} (λ r. (r.function, r.cost)) (named_cells folded.names folded.cells) ≡ (codes "f", 9) ∷ (codes "main", 1) ∷ []
folded-cells = refl

folded-rows : map (λ r. r.count) (counted_stacks folded.stacks) ≡ 1 ∷ 5 ∷ 4 ∷ []
folded-rows = refl

walked-stacks : stacks_count (λ frames. true) (counted_stacks folded.stacks) ≡ 10
walked-stacks = refl
