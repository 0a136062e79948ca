-- How a name is printed: so that a line of a report stays one line, and no two names look alike.
use Rattle.std.specs.Prelude.{ℕ, ◌/◌, ◌%◌, List, [], ◌∷◌, ◌++◌, ◌==◌, ◌||◌, nat_lt, if◌then◌else◌, slice_index, codes}

abbrev pub backslash : ℕ
backslash = 92

-- the greatest of the control codes
abbrev pub delete : ℕ
delete = 127

abbrev pub hexadecimal_digit : ℕ → ℕ
hexadecimal_digit d = slice_index (codes "0123456789abcdef") d

-- a byte by two digits
abbrev pub hexadecimal : ℕ → List ℕ
hexadecimal b = codes "\\x" ++ (hexadecimal_digit (b / 16) ∷ hexadecimal_digit (b % 16) ∷ [])

-- a byte of a name as it is printed
abbrev pub escape : ℕ → List ℕ
escape b =
    if b == backslash then codes "\\\\"
    else (if nat_lt b 32 || b == delete then hexadecimal b
    else (b ∷ []))

-- a name as it is printed
abbrev pub escaped : List ℕ → List ℕ
escaped [] = []
escaped (b ∷ bs) = escape b ++ escaped bs
