-- The length of a body.
use Rattle.std.specs.Prelude.{◌≡◌, ℕ, ◌≤◌, Bool, nat_le, ◌&&◌, bytes_eq, if◌then◌else◌, map, List, [], ◌∷◌, length, codes, Result, Ok, Err}
use Rattle.std.specs.List.{list_all}
use Rattle.std.specs.Char.{to_ascii_lowercase}
use Rattle.cg_text.specs.Numbers.{is_digit, value_in}
use Rattle.http_exchange.specs.declared.failings.Failing.{Failing}
use Rattle.http_exchange.specs.declared.failings.Failing.TheVariants.{BadRequest, LengthRequired, TooLong}
use Rattle.http_exchange.specs.declared.lengths.Values.{Values}
use Rattle.http_exchange.specs.declared.lengths.Values.TheVariants as are

-- two names of fields are one without regard to ASCII case
abbrev pub same_name : List ℕ → List ℕ → Bool
same_name one other = bytes_eq (map to_ascii_lowercase one) (map to_ascii_lowercase other)

-- the values of the fields of a name, in their order; a field is its name and its value without blanks around it
abbrev pub values_named : List ℕ → List (List ℕ × List ℕ) → List (List ℕ)
values_named name [] = []
values_named name (field ∷ more) = if same_name field.0 name then field.1 ∷ values_named name more else values_named name more

abbrev pub AreValues : List (List ℕ) → Values → Type 0
AreValues values are.None = values ≡ []
AreValues values (are.One value) = values ≡ value.now ∷ []
AreValues values are.Many = 2 ≤ length values

-- the length that a text says: decimal digits, at most the limit
abbrev pub length_in : ℕ → List ℕ → Result ℕ Failing
length_in limit text =
    if nat_le 1 (length text) && list_all is_digit text
    then (if nat_le (value_in 10 text) limit then Ok (value_in 10 text) else Err TooLong)
    else Err BadRequest

-- by the values of Content-Length and of Transfer-Encoding
abbrev pub length_by : ℕ → List (List ℕ) → List (List ℕ) → Result ℕ Failing
length_by limit [] codings = Err LengthRequired
length_by limit (text ∷ more) (coding ∷ codings) = Err BadRequest
length_by limit (text ∷ next ∷ more) [] = Err BadRequest
length_by limit (text ∷ []) [] = length_in limit text

abbrev pub body_length : ℕ → List (List ℕ × List ℕ) → Result ℕ Failing
body_length limit fields = length_by limit (values_named (codes "content-length") fields) (values_named (codes "transfer-encoding") fields)
