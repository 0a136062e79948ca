-- The totals that a file states.
use Rattle.std.specs.Prelude.{ℕ, ◌+◌, Bool, false, ◌||◌, List, [], ◌∷◌, map, slice_index, ◌==◌, if◌then◌else◌, Result, Ok, Err, Option, Some, None, is_some}
use Rattle.std.specs.List.{range_with_len}
use Rattle.cg_text.specs.Readings.{Reading}
use Rattle.cg_text.specs.Kinds.{Header}
use Rattle.cg_text.specs.Fields.{fields_of}
use Rattle.cg_text.specs.Numbers.{amount_of}
use Rattle.cg_text.specs.declared.faults.Fault.{Fault}
use Rattle.cg_text.specs.declared.words.HeaderKey.{HeaderKey}
use Rattle.cg_text.specs.declared.words.HeaderKey.TheVariants as keys
use Rattle.callgrind_reader.specs.Faulty.{each}
use Rattle.callgrind_reader.specs.declared.stated.StatedKey.{StatedKey}
use Rattle.callgrind_reader.specs.declared.stated.StatedKey.TheVariants.{Totals, Summary}

abbrev pub header_key : StatedKey → HeaderKey
header_key Totals = keys.Totals
header_key Summary = keys.Summary

-- what a line states by a key
abbrev pub stated_by : Reading → StatedKey → Option (List ℕ)
stated_by (Ok (Header keys.Totals value)) Totals = Some value
stated_by (Ok (Header keys.Summary value)) Summary = Some value
stated_by r key = None

abbrev pub amounts_or_none : Result (List ℕ) Fault → List ℕ
amounts_or_none (Ok amounts) = amounts
amounts_or_none (Err fault) = []

-- the amount in column k of a line; a column that is absent counts 0
abbrev pub amount_in : ℕ → List ℕ → ℕ
amount_in k value = slice_index (amounts_or_none (each amount_of (fields_of value))) k

abbrev pub plus : ℕ → ℕ → Option (List ℕ) → ℕ
plus k sum None = sum
plus k sum (Some value) = sum + amount_in k value

-- the sum of column k over the lines of a key
abbrev pub sum_in : StatedKey → ℕ → List Reading → ℕ
sum_in key k [] = 0
sum_in key k (r ∷ back) = plus k (sum_in key k back) (stated_by r key)

-- whether there is a line of a key
abbrev pub is_stated : StatedKey → List Reading → Bool
is_stated key [] = false
is_stated key (r ∷ back) = is_some (stated_by r key) || is_stated key back

-- the first n columns
abbrev pub columns : (ℕ → ℕ) → ℕ → List ℕ
columns sum_in n = map sum_in (range_with_len 0 n)

-- n columns of what the lines of a key state, if there is one, else others
abbrev pub stated_or : StatedKey → ℕ → List Reading → Option (List ℕ) → Option (List ℕ)
stated_or key n back others = if is_stated key back then Some (columns (λ k. sum_in key k back) n) else others

-- by the `totals:` lines, else by the `summary:` lines
abbrev pub first_stated : ℕ → List Reading → Option (List ℕ)
first_stated n back = stated_or Totals n back (stated_or Summary n back None)

-- the stated totals of a file with n events
abbrev pub stated_of : ℕ → List Reading → Option (List ℕ)
stated_of n back = if n == 0 then None else first_stated n back
