-- `event:` lines: a name and, if it represents one, a formula over other events.
use Rattle.std.specs.Prelude.{ℕ, ◌-◌, ◌^◌, min, Bool, false, not, ◌||◌, ◌&&◌, List, [], ◌∷◌, map, drop, take_while, ◌==◌, if◌then◌else◌, Option, Some, None, Result, Ok, Err}
use Rattle.std.specs.List.{list_all, prefix_len, slice_split}
use Rattle.cg_text.specs.Bytes.{star, plus, colon, equals}
use Rattle.cg_text.specs.Fields.{is_blank, trim_start, trim_end}
use Rattle.cg_text.specs.Numbers.{is_digit, value_in}
use Rattle.cg_text.specs.declared.faults.Fault.{Fault}
use Rattle.cg_text.specs.declared.faults.Fault.TheVariants.{FormulaForm}

-- a number of times the event of a name
abbrev pub Term : Type 0
Term = ℕ × List ℕ

-- what an `event:` line says
pub record Event : Type 0 where
  pub name : List ℕ
  pub terms : Option (List Term)

-- ---- terms

-- a name is ended by a blank, `=` or `:`
abbrev pub ends_name : ℕ → Bool
ends_name b = is_blank b || (b == equals || b == colon)

-- in a formula by `+` and `*` as well
abbrev pub ends_term : ℕ → Bool
ends_term b = ends_name b || (b == plus || b == star)

-- there it begins with no digit
abbrev pub is_term_name : List ℕ → Bool
is_term_name [] = false
is_term_name (b ∷ bs) = not (is_digit b) && list_all (λ c. not (ends_term c)) (b ∷ bs)

abbrev pub times : ℕ → List ℕ → Option Term
times n name = if is_term_name name then Some (n, name) else None

-- the number of a term; one above 2^64-1 is read as 2^64-1
abbrev pub factor : List ℕ → ℕ
factor digits = min (value_in 10 digits) (2 ^ 64 - 1)

-- what follows the number, without one `*`
abbrev pub behind_star : List ℕ → List ℕ
behind_star [] = []
behind_star (b ∷ bs) = if b == star then trim_start bs else b ∷ bs

-- digits and what follows them; without digits the number is 1
abbrev pub counted : List ℕ → List ℕ → Option Term
counted [] rest = times 1 rest
counted (d ∷ digits) rest = times (factor (d ∷ digits)) (behind_star (trim_start rest))

-- a text that begins and ends with no blank: `Name`, `number Name` or `number * Name`
abbrev pub trimmed_term : List ℕ → Option Term
trimmed_term text = counted (take_while is_digit text) (drop (prefix_len is_digit text) text)

unfoldable pub term_of : List ℕ → Option Term
term_of text = trimmed_term (trim_end (trim_start text))

-- ---- formulas

abbrev pub with_first : Term → Option (List Term) → Option (List Term)
with_first t None = None
with_first t (Some ts) = Some (t ∷ ts)

-- all terms, if each text is one
abbrev pub all_terms : List (Option Term) → Option (List Term)
all_terms [] = Some []
all_terms (None ∷ texts) = None
all_terms (Some t ∷ texts) = with_first t (all_terms texts)

abbrev pub is_plus : ℕ → Bool
is_plus b = b == plus

-- terms joined by `+`
unfoldable pub formula_of : List ℕ → Option (List Term)
formula_of text = all_terms (map term_of (slice_split is_plus text))

-- ---- lines

abbrev pub defined : List ℕ → Option (List Term) → Result Event Fault
defined name None = Err FormulaForm
defined name (Some terms) = Ok (record { name = name; terms = Some terms })

abbrev pub is_colon : ℕ → Bool
is_colon b = b == colon

abbrev pub before_colon : List ℕ → List ℕ
before_colon text = take_while (λ b. not (is_colon b)) text

-- what follows a name: nothing, `=` and a formula, and, behind either, `:` and a long name
abbrev pub named : List ℕ → List ℕ → Result Event Fault
named name [] = Ok (record { name = name; terms = None })
named name (b ∷ bs) =
    if b == colon then Ok (record { name = name; terms = None })
    else (if b == equals then defined name (formula_of (before_colon bs)) else Err FormulaForm)

abbrev pub named_or_not : List ℕ → List ℕ → Result Event Fault
named_or_not [] rest = Err FormulaForm
named_or_not (b ∷ bs) rest = named (b ∷ bs) rest

-- a value that begins with no blank
abbrev pub unpadded_event : List ℕ → Result Event Fault
unpadded_event text = named_or_not (take_while (λ b. not (ends_name b)) text) (trim_start (drop (prefix_len (λ b. not (ends_name b)) text) text))

-- what the value of an `event:` line says
unfoldable pub event_of : List ℕ → Result Event Fault
event_of value = unpadded_event (trim_start value)
