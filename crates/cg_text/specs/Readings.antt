-- What a line says by itself: its kind, or the fault that it has whatever stands around it.
use Rattle.std.specs.Prelude.{ℕ, List, length, nat_lt, if◌then◌else◌, Result, Err}
use Rattle.cg_text.specs.Fields.{line_text}
use Rattle.cg_text.specs.Kinds.{Kind, kind_of}
use Rattle.cg_text.specs.declared.faults.Fault.{Fault}
use Rattle.cg_text.specs.declared.faults.Fault.TheVariants.{LineTooLong}

abbrev pub Reading : Type 0
Reading = Result Kind Fault

-- how many bytes a line may have, its carriage return counted and its line feed not
abbrev pub line_limit : ℕ
line_limit = 1048576

-- the reading of a line of a Callgrind file
unfoldable pub reading_of : List ℕ → Reading
reading_of line = if nat_lt line_limit (length line) then Err LineTooLong else kind_of (line_text line)
