-- Functions, each of its object.
use Rattle.std.specs.Prelude.{ℕ, Bool, ◌&&◌, bytes_eq, List}
use Rattle.cg_text.specs.Names.{unknown}
use Rattle.cost_rows.specs.Sums.{Spot}

-- a function as a place: of no file, no line and no thread
abbrev pub function_spot : List ℕ → List ℕ → Spot
function_spot object function = record { object = object; file = unknown; function = function; line = 0; thread = 0 }

-- whether two places are in one function
abbrev pub is_one_function : Spot → Spot → Bool
is_one_function p q = bytes_eq p.object q.object && bytes_eq p.function q.function
