-- Values that a fault may stand in the place of.
use Rattle.std.specs.Prelude.{ℕ, List, [], ◌∷◌, Result, Ok, Err, Option, Some, None}
use Rattle.cg_text.specs.declared.faults.Fault.{Fault}

-- goes on with the value, if there is one
infixl 10 ◌>>=◌
abbrev pub ◌>>=◌ : {A B : Type 0} → Result A Fault → (A → Result B Fault) → Result B Fault
(Ok x) >>= f = f x
(Err e) >>= f = Err e

-- what each field says, from left to right, or the first fault
abbrev pub each : {A : Type 0} → (List ℕ → Result A Fault) → List (List ℕ) → Result (List A) Fault
each read [] = Ok []
each read (field ∷ fields) = read field >>= λ x. (each read fields >>= λ xs. Ok (x ∷ xs))

-- the fault, if there is one
abbrev pub err_of : {A : Type 0} → Result A Fault → Option Fault
err_of (Ok x) = None
err_of (Err fault) = Some fault

-- the first of two faults, each with its line, if it is there, else the second
abbrev pub earlier_or : Option (Fault × ℕ) → Option (Fault × ℕ) → Option (Fault × ℕ)
earlier_or (Some fault) second = Some fault
earlier_or None second = second
