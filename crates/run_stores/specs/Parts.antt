-- What the parts of calls sum to.
use Rattle.std.specs.Prelude.{◌≡◌, ◌⊎◌, ℕ, suc, ◌+◌, ◌<◌, Bool, true, false, ◌&&◌, ◌||◌, ◌==◌, List, [], ◌∷◌, if◌then◌else◌, flat_map}
use Rattle.std.specs.List.{AllByRecursion}
use Rattle.cost_rows.specs.Sums.{Spot}
use Rattle.cost_rows.specs.WalkSums.{calls_cost, calls_count, has_calls}
use Rattle.cost_rows.specs.declared.rows.ArcRow.{ArcRow}
use Rattle.run_stores.specs.Book.{CallPart, parts_of}

-- the place of calls, and whom they called; of their threads nothing is kept
abbrev pub caller_of_part : CallPart → Spot
caller_of_part p = record { object = p.object; file = p.file; function = p.function; line = p.line; thread = 0 }

abbrev pub callee_of_part : CallPart → Spot
callee_of_part p = record { object = p.called_object; file = p.called_file; function = p.called_function; line = 0; thread = 0 }

-- what the parts of one number sum to, of the calls that pass
abbrev pub parts_sum : (Spot → Spot → Bool) → ℕ → List CallPart → ℕ
parts_sum passes part [] = 0
parts_sum passes part (p ∷ parts) = (if passes (caller_of_part p) (callee_of_part p) && (p.part == part) then p.sum else 0) + parts_sum passes part parts

-- whether there are calls that pass, of whatever number and cost
abbrev pub has_part : (Spot → Spot → Bool) → List CallPart → Bool
has_part passes [] = false
has_part passes (p ∷ parts) = (passes (caller_of_part p) (callee_of_part p) && (p.part == 0)) || has_part passes parts

-- these are the parts of whole rows of calls: each has its number, and then the costs above 0
abbrev pub AreOfRows : List CallPart → Type 0
AreOfRows parts = (rows : List (ArcRow (List ℕ) (List ℕ))) × (parts ≡ flat_map parts_of rows)

-- where a part passes, a part 0 does
abbrev pub HasItsFirst : List CallPart → CallPart → Type 0
HasItsFirst parts p = (passes : Spot → Spot → Bool) → passes (caller_of_part p) (callee_of_part p) ≡ true → has_part passes parts ≡ true

-- what is sure of the parts of whole rows: none stands without its part 0, and none but a part 0 is 0
pub record AreWhole (parts : List CallPart) : Type 0 where
  pub firsts : AllByRecursion (HasItsFirst parts) parts
  pub above : AllByRecursion (λ (p : CallPart). (p.part ≡ 0) ⊎ (0 < p.sum)) parts

-- the parts of rows of calls sum to what the rows sum to, for every test of calls
pub record PartsSum (rows : List (ArcRow (List ℕ) (List ℕ))) : Type 0 where
  pub counts : (passes : Spot → Spot → Bool) → calls_count passes rows ≡ parts_sum passes 0 (flat_map parts_of rows)
  pub costs : (passes : Spot → Spot → Bool) (k : ℕ) → calls_cost passes k rows ≡ parts_sum passes (suc k) (flat_map parts_of rows)
  pub called : (passes : Spot → Spot → Bool) → has_calls passes rows ≡ has_part passes (flat_map parts_of rows)
