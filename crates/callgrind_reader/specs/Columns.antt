-- A column of positions as it is read, there or not, after a position that represents offsets: those up less those down.
use Rattle.std.specs.Prelude.{◌≡◌, ℕ, ◌+◌, ◌<◌, Bool, true, if◌then◌else◌, List, length, Ok, Err}
use Rattle.cg_text.specs.declared.faults.Fault.{Fault}
use Rattle.callgrind_reader.specs.Positions.{up, down, moved, placed, column, behind}

-- the next position, which stays where there is no column, and the fields behind
pub record ReadColumn (is_there : Bool) (limit before : ℕ) (fields : List (List ℕ)) (next : ℕ) (rest : List (List ℕ)) : Type 0 where
  pub said : (u d : ℕ) → before + d ≡ u → placed limit (column is_there fields) u d ≡ Ok (if is_there then next else 0)
  pub moves : (u d : ℕ) → before + d ≡ u → next + moved down (column is_there fields) d ≡ moved up (column is_there fields) u
  pub within : next < limit
  pub behind_it : rest ≡ behind is_there fields
  pub count : length rest + (if is_there then 1 else 0) ≡ length fields

-- it has a fault: of any kind where there is no field
pub record ReadFault (is_there : Bool) (limit before : ℕ) (fields : List (List ℕ)) (fault : Fault) : Type 0 where
  pub there : is_there ≡ true
  pub said : 0 < length fields → (u d : ℕ) → before + d ≡ u → placed limit (column is_there fields) u d ≡ Err fault
