-- The threads of records.
use Rattle.std.specs.Prelude.{ℕ, List, [], ◌∷◌, Result, Ok, Err}
use Rattle.cg_text.specs.Readings.{Reading}
use Rattle.cg_text.specs.Kinds.{Header}
use Rattle.cg_text.specs.Fields.{trim_start}
use Rattle.cg_text.specs.Numbers.{amount_of}
use Rattle.cg_text.specs.declared.faults.Fault.{Fault}
use Rattle.cg_text.specs.declared.words.HeaderKey.TheVariants.{Thread}

-- the number of a `thread:` line: it stands alone, and is at most 2^63-1
abbrev pub thread_in : List ℕ → Result ℕ Fault
thread_in value = amount_of (trim_start value)

abbrev pub number_or : Result ℕ Fault → ℕ
number_or (Ok n) = n
number_or (Err fault) = 0

-- the thread of the nearest `thread:` line, 0 before the first
abbrev pub thread_of : List Reading → ℕ
thread_of [] = 0
thread_of (Ok (Header Thread value) ∷ back) = number_or (thread_in value)
thread_of (r ∷ back) = thread_of back
