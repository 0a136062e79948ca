-- What stands behind the `=` of a name line: an identifier, a text, or both.
use Rattle.std.specs.Prelude.{ℕ, ◌+◌, Bool, List, [], ◌∷◌, take, drop, position, ◌==◌, if◌then◌else◌, codes, Result, Ok, Err, Option, Some, None}
use Rattle.cg_text.specs.Bytes.{opening, closing}
use Rattle.cg_text.specs.Fields.{trim_start}
use Rattle.cg_text.specs.Numbers.{number_of}
use Rattle.cg_text.specs.declared.faults.Fault.{Fault}
use Rattle.cg_text.specs.declared.faults.Fault.TheVariants.{NumberTooLarge}

-- an identifier, a text, or both
pub record Spec : Type 0 where
  pub id : Option ℕ
  pub text : Option (List ℕ)

-- the name of what has none
abbrev pub unknown : List ℕ
unknown = codes "???"

-- a plain name; an empty one is `???`
abbrev pub plain_name : List ℕ → Spec
plain_name [] = record { id = None; text = Some unknown }
plain_name (b ∷ bs) = record { id = None; text = Some (b ∷ bs) }

-- what follows an identifier: the name that it gets, or nothing
abbrev pub name_behind : List ℕ → Option (List ℕ)
name_behind [] = None
name_behind (b ∷ bs) = Some (b ∷ bs)

-- brackets round a number are an identifier; round anything else they belong to a plain name
abbrev pub bracketed : List ℕ → Result ℕ Fault → List ℕ → Result Spec Fault
bracketed value (Ok id) behind = Ok (record { id = Some id; text = name_behind (trim_start behind) })
bracketed value (Err NumberTooLarge) behind = Err NumberTooLarge
bracketed value (Err other) behind = Ok (plain_name value)

abbrev pub is_closing : ℕ → Bool
is_closing b = b == closing

-- what is in brackets, where the closing one stands at place n, if at all
abbrev pub identified : List ℕ → List ℕ → Option ℕ → Result Spec Fault
identified value inside None = Ok (plain_name value)
identified value inside (Some n) = bracketed value (number_of (take n inside)) (drop (n + 1) inside)

-- what a value that begins with no blank says
abbrev pub spec_of : List ℕ → Result Spec Fault
spec_of [] = Ok (plain_name [])
spec_of (b ∷ bs) = if b == opening then identified (b ∷ bs) bs (position is_closing bs) else Ok (plain_name (b ∷ bs))

-- what the value of a name line says
unfoldable pub name_of : List ℕ → Result Spec Fault
name_of value = spec_of (trim_start value)
