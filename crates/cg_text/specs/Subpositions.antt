-- Subpositions: a number, `+` number, `-` number or `*`.
use Rattle.std.specs.Prelude.{ℕ, List, [], ◌∷◌, ◌==◌, if◌then◌else◌, Result, Ok, Err}
use Rattle.cg_text.specs.Bytes.{plus, minus, star}
use Rattle.cg_text.specs.Numbers.{number_of}
use Rattle.cg_text.specs.declared.faults.Fault.{Fault}
use Rattle.cg_text.specs.declared.positions.SubPos.{SubPos}
use Rattle.cg_text.specs.declared.positions.SubPos.TheVariants.{Abs, Plus, Minus, Same}

abbrev pub as_subpos : (ℕ → SubPos) → Result ℕ Fault → Result SubPos Fault
as_subpos form (Ok n) = Ok (form n)
as_subpos form (Err e) = Err e

-- `*` alone, else a number, which `*` is not
abbrev pub same_or_number : ℕ → List ℕ → Result SubPos Fault
same_or_number b [] = if b == star then Ok Same else as_subpos Abs (number_of (b ∷ []))
same_or_number b (c ∷ bs) = as_subpos Abs (number_of (b ∷ c ∷ bs))

-- the subposition that a field is
unfoldable pub subpos_of : List ℕ → Result SubPos Fault
subpos_of [] = as_subpos Abs (number_of [])
subpos_of (b ∷ bs) =
    if b == plus then as_subpos Plus (number_of bs)
    else (if b == minus then as_subpos Minus (number_of bs) else same_or_number b bs)
