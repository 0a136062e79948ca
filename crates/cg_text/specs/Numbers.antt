-- Numbers: one or more decimal digits, or `0x` and one or more hexadecimal digits.
use Rattle.std.specs.Prelude.{ℕ, ◌+◌, ◌-◌, ◌*◌, ◌^◌, Bool, ◌&&◌, ◌||◌, List, [], ◌∷◌, drop, fold, nat_le, nat_lt, nat_eq, if◌then◌else◌, codes, Result, Ok, Err}
use Rattle.std.specs.List.{list_all, starts_with}
use Rattle.cg_text.specs.declared.faults.Fault.{Fault}
use Rattle.cg_text.specs.declared.faults.Fault.TheVariants.{BadNumber, NumberTooLarge}

-- `0` to `9`
abbrev pub is_digit : ℕ → Bool
is_digit b = nat_le 48 b && nat_le b 57

-- `0` to `9`, `A` to `F`, `a` to `f`
abbrev pub is_hex_digit : ℕ → Bool
is_hex_digit b = is_digit b || ((nat_le 65 b && nat_le b 70) || (nat_le 97 b && nat_le b 102))

-- what a digit represents
abbrev pub digit_value : ℕ → ℕ
digit_value b = if nat_le b 57 then b - 48 else (if nat_le b 70 then b - 55 else b - 87)

-- what digits represent in a base, the first the most
abbrev pub value_in : ℕ → List ℕ → ℕ
value_in base digits = fold (λ n b. n * base + digit_value b) 0 digits

-- a number below a limit
abbrev pub below : ℕ → ℕ → Result ℕ Fault
below limit n = if nat_lt n limit then Ok n else Err NumberTooLarge

-- one or more digits of a base, below 2^64
abbrev pub digits_in : ℕ → (ℕ → Bool) → List ℕ → Result ℕ Fault
digits_in base is_one [] = Err BadNumber
digits_in base is_one (b ∷ bs) = if list_all is_one (b ∷ bs) then below (2 ^ 64) (value_in base (b ∷ bs)) else Err BadNumber

-- the number that a field is
unfoldable pub number_of : List ℕ → Result ℕ Fault
number_of field = if starts_with nat_eq field (codes "0x") then digits_in 16 is_hex_digit (drop 2 field) else digits_in 10 is_digit field

abbrev pub below_half : Result ℕ Fault → Result ℕ Fault
below_half (Ok n) = below (2 ^ 63) n
below_half (Err e) = Err e

-- an amount is a number below 2^63: a cost, a count or a stated total
unfoldable pub amount_of : List ℕ → Result ℕ Fault
amount_of field = below_half (number_of field)
