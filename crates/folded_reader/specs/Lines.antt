-- What a line of a folded file says: a stack, and how often it was seen.
use Rattle.std.specs.Prelude.{ℕ, ◌-◌, not, List, [], ◌∷◌, length, take, drop, nat_lt, if◌then◌else◌, Option, Some, None, Result, Ok, Err}
use Rattle.std.specs.List.{suffix_len}
use Rattle.std.specs.Str.Lines.{strip_carriage_return}
use Rattle.cg_text.specs.Fields.{is_blank}
use Rattle.cg_text.specs.Numbers.{is_digit, digits_in, below_half}
use Rattle.cg_text.specs.Readings.{line_limit}
use Rattle.cg_text.specs.declared.faults.Fault.{Fault}
use Rattle.cg_text.specs.declared.faults.Fault.TheVariants.{LineTooLong, NumberTooLarge, FoldedLine}
use Rattle.profile_records.specs.Stacks.{Stack}

-- how many bytes stand behind the last blank
abbrev pub behind_blank : List ℕ → ℕ
behind_blank text = suffix_len (λ b. not (is_blank b)) text

abbrev pub or_folded : Result ℕ Fault → Result ℕ Fault
or_folded (Ok n) = Ok n
or_folded (Err NumberTooLarge) = Err NumberTooLarge
or_folded (Err other) = Err FoldedLine

-- a count is decimal digits, and below 2^63
abbrev pub count_of : List ℕ → Result ℕ Fault
count_of digits = or_folded (below_half (digits_in 10 is_digit digits))

abbrev pub counted : List ℕ → Result ℕ Fault → Result Stack Fault
counted frames (Ok n) = Ok (record { frames = frames; count = n })
counted frames (Err fault) = Err fault

-- frames, of which there is a byte at least, and a count
abbrev pub stack_of : List ℕ → List ℕ → Result Stack Fault
stack_of [] count = Err FoldedLine
stack_of (b ∷ frames) count = counted (b ∷ frames) (count_of count)

-- the stack is all before the last blank, the count all behind it
abbrev pub cut_at : ℕ → List ℕ → Result Stack Fault
cut_at n text = if nat_lt n (length text) then stack_of (take (length text - n - 1) text) (drop (length text - n) text) else Err FoldedLine

abbrev pub some_stack : Result Stack Fault → Result (Option Stack) Fault
some_stack (Ok stack) = Ok (Some stack)
some_stack (Err fault) = Err fault

-- an empty line says nothing
abbrev pub text_says : List ℕ → Result (Option Stack) Fault
text_says [] = Ok None
text_says (b ∷ text) = some_stack (cut_at (behind_blank (b ∷ text)) (b ∷ text))

abbrev pub Reading : Type 0
Reading = Result (Option Stack) Fault

-- what a line says, blanks at its ends and all, but for one carriage return
unfoldable pub reading_of : List ℕ → Reading
reading_of line = if nat_lt line_limit (length line) then Err LineTooLong else text_says (strip_carriage_return line)
