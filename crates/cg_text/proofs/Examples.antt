-- The definitions, computed on examples: those of the manual, and the edges.
use Rattle.std.proofs.Common.{◌≡◌, ℕ, List, [], ◌∷◌, codes, refl, Some, None, Result, Ok, Err}
use Rattle.cg_text.specs.Lines.{lines_of, numbered, joined, ended}
use Rattle.cg_text.specs.Fields.{line_text, fields_of}
use Rattle.cg_text.specs.Numbers.{number_of, amount_of}
use Rattle.cg_text.specs.Subpositions.{subpos_of}
use Rattle.cg_text.specs.Names.{Spec, name_of}
use Rattle.cg_text.specs.Kinds.{Nothing, Cost, Header, Name, Calls, Jump, kind_of}
use Rattle.cg_text.specs.Readings.{reading_of}
use Rattle.cg_text.specs.declared.faults.Fault.{Fault}
use Rattle.cg_text.specs.declared.faults.Fault.TheVariants.{BadNumber, NumberTooLarge, UnknownLine}
use Rattle.cg_text.specs.declared.positions.SubPos.TheVariants.{Abs, Plus, Minus, Same}
use Rattle.cg_text.specs.declared.words.HeaderKey.TheVariants.{Version, Positions, Events, Event, Summary, Totals, Other}
use Rattle.cg_text.specs.declared.words.NameWord.TheVariants.{Fn, Cfl, Jfi}

-- ---- lines

lines-nothing : lines_of [] ≡ []
lines-nothing = refl

lines-one_end : lines_of (codes "\n") ≡ [] ∷ []
lines-one_end = refl

lines-two_ends : lines_of (codes "\n\n") ≡ [] ∷ [] ∷ []
lines-two_ends = refl

lines-no_end : lines_of (codes "events: Ir\n1 2") ≡ codes "events: Ir" ∷ codes "1 2" ∷ []
lines-no_end = refl

lines-with_end : lines_of (codes "events: Ir\n1 2\n") ≡ codes "events: Ir" ∷ codes "1 2" ∷ []
lines-with_end = refl

lines-empty_between : lines_of (codes "a\n\nb") ≡ codes "a" ∷ [] ∷ codes "b" ∷ []
lines-empty_between = refl

-- a carriage return is a byte of its line
lines-carriage_return : lines_of (codes "a\r\nb\r") ≡ codes "a\r" ∷ codes "b\r" ∷ []
lines-carriage_return = refl

numbered-two : numbered 1 (lines_of (codes "a\nb\n")) ≡ (1, codes "a") ∷ (2, codes "b") ∷ []
numbered-two = refl

joined-two : joined (codes "a" ∷ [] ∷ []) ≡ codes "a\n\n"
joined-two = refl

ended-open : ended (codes "a\nb") ≡ codes "a\nb\n"
ended-open = refl

ended-closed : ended (codes "a\n\n") ≡ codes "a\n\n"
ended-closed = refl

ended-nothing : ended [] ≡ []
ended-nothing = refl

-- ---- the text of a line

text-plain : line_text (codes "fn=main") ≡ codes "fn=main"
unfolding line_text
text-plain = refl

text-carriage_return : line_text (codes "16 20\r") ≡ codes "16 20"
unfolding line_text
text-carriage_return = refl

-- one carriage return is dropped, and no second
text-two_returns : line_text (codes "a\r\r") ≡ codes "a\r"
unfolding line_text
text-two_returns = refl

text-blanks : line_text (codes " \t16 20\t ") ≡ codes "16 20"
unfolding line_text
text-blanks = refl

text-blank_before_return : line_text (codes "16 20 \r") ≡ codes "16 20"
unfolding line_text
text-blank_before_return = refl

-- a carriage return in front of a blank stays
text-return_before_blank : line_text (codes "fn=f\r ") ≡ codes "fn=f\r"
unfolding line_text
text-return_before_blank = refl

text-all_blank : line_text (codes " \t \r") ≡ []
unfolding line_text
text-all_blank = refl

text-nothing : line_text [] ≡ []
unfolding line_text
text-nothing = refl

-- ---- fields

fields-three : fields_of (codes "15 90 14") ≡ codes "15" ∷ codes "90" ∷ codes "14" ∷ []
fields-three = refl

fields-blanks : fields_of (codes "\t 15  90\t") ≡ codes "15" ∷ codes "90" ∷ []
fields-blanks = refl

fields-one : fields_of (codes "*") ≡ codes "*" ∷ []
fields-one = refl

fields-all_blank : fields_of (codes " \t ") ≡ []
fields-all_blank = refl

fields-nothing : fields_of [] ≡ []
fields-nothing = refl

-- ---- numbers

number-zero : number_of (codes "0") ≡ Ok 0
unfolding number_of
number-zero = refl

number-padded : number_of (codes "000000000000000000000000016") ≡ Ok 16
unfolding number_of
number-padded = refl

number-hexadecimal : number_of (codes "0x80001234") ≡ Ok 2147488308
unfolding number_of
number-hexadecimal = refl

number-both_cases : number_of (codes "0xaAfF") ≡ Ok 43775
unfolding number_of
number-both_cases = refl

-- only `0x` begins a hexadecimal number
number-capital_x : number_of (codes "0X1F") ≡ Err BadNumber
unfolding number_of
number-capital_x = refl

number-no_hex_digit : number_of (codes "0x") ≡ Err BadNumber
unfolding number_of
number-no_hex_digit = refl

number-other_hex_digit : number_of (codes "0x1g") ≡ Err BadNumber
unfolding number_of
number-other_hex_digit = refl

number-nothing : number_of [] ≡ Err BadNumber
unfolding number_of
number-nothing = refl

number-sign : number_of (codes "+1") ≡ Err BadNumber
unfolding number_of
number-sign = refl

number-fraction : number_of (codes "1.5") ≡ Err BadNumber
unfolding number_of
number-fraction = refl

number-largest : number_of (codes "18446744073709551615") ≡ Ok 18446744073709551615
unfolding number_of
number-largest = refl

number-too_large : number_of (codes "18446744073709551616") ≡ Err NumberTooLarge
unfolding number_of
number-too_large = refl

number-largest_hexadecimal : number_of (codes "0xffffffffffffffff") ≡ Ok 18446744073709551615
unfolding number_of
number-largest_hexadecimal = refl

number-too_large_hexadecimal : number_of (codes "0x10000000000000000") ≡ Err NumberTooLarge
unfolding number_of
number-too_large_hexadecimal = refl

-- the form is looked at first
number-long_and_bad : number_of (codes "99999999999999999999x") ≡ Err BadNumber
unfolding number_of
number-long_and_bad = refl

amount-largest : amount_of (codes "9223372036854775807") ≡ Ok 9223372036854775807
unfolding amount_of number_of
amount-largest = refl

amount-too_large : amount_of (codes "9223372036854775808") ≡ Err NumberTooLarge
unfolding amount_of number_of
amount-too_large = refl

amount-negative : amount_of (codes "-5") ≡ Err BadNumber
unfolding amount_of number_of
amount-negative = refl

-- ---- subpositions

subpos-number : subpos_of (codes "0x80001234") ≡ Ok (Abs 2147488308)
unfolding subpos_of number_of
subpos-number = refl

subpos-plus : subpos_of (codes "+3") ≡ Ok (Plus 3)
unfolding subpos_of number_of
subpos-plus = refl

subpos-plus_hexadecimal : subpos_of (codes "+0x1f") ≡ Ok (Plus 31)
unfolding subpos_of number_of
subpos-plus_hexadecimal = refl

subpos-minus : subpos_of (codes "-22") ≡ Ok (Minus 22)
unfolding subpos_of number_of
subpos-minus = refl

subpos-same : subpos_of (codes "*") ≡ Ok Same
unfolding subpos_of number_of
subpos-same = refl

subpos-two_stars : subpos_of (codes "**") ≡ Err BadNumber
unfolding subpos_of number_of
subpos-two_stars = refl

subpos-star_and_digit : subpos_of (codes "*1") ≡ Err BadNumber
unfolding subpos_of number_of
subpos-star_and_digit = refl

subpos-sign_alone : subpos_of (codes "+") ≡ Err BadNumber
unfolding subpos_of number_of
subpos-sign_alone = refl

subpos-two_signs : subpos_of (codes "+-1") ≡ Err BadNumber
unfolding subpos_of number_of
subpos-two_signs = refl

subpos-nothing : subpos_of [] ≡ Err BadNumber
unfolding subpos_of number_of
subpos-nothing = refl

subpos-largest : subpos_of (codes "+18446744073709551615") ≡ Ok (Plus 18446744073709551615)
unfolding subpos_of number_of
subpos-largest = refl

subpos-too_large : subpos_of (codes "-18446744073709551616") ≡ Err NumberTooLarge
unfolding subpos_of number_of
subpos-too_large = refl

-- ---- names

abbrev named : List ℕ → Result Spec Fault
named text = Ok (record { id = None; text = Some text })

abbrev refers : ℕ → Result Spec Fault
refers id = Ok (record { id = Some id; text = None })

abbrev defines : ℕ → List ℕ → Result Spec Fault
defines id text = Ok (record { id = Some id; text = Some text })

name-plain : name_of (codes "file1.c") ≡ named (codes "file1.c")
unfolding name_of number_of
name-plain = refl

name-defines : name_of (codes "(1) file1.c") ≡ defines 1 (codes "file1.c")
unfolding name_of number_of
name-defines = refl

name-refers : name_of (codes "(1)") ≡ refers 1
unfolding name_of number_of
name-refers = refl

name-no_blank : name_of (codes "(1)x") ≡ defines 1 (codes "x")
unfolding name_of number_of
name-no_blank = refl

name-blank_inside : name_of (codes "( 1)") ≡ named (codes "( 1)")
unfolding name_of number_of
name-blank_inside = refl

name-hexadecimal : name_of (codes "(0x1) a") ≡ defines 1 (codes "a")
unfolding name_of number_of
name-hexadecimal = refl

name-below_main : name_of (codes "(below main)") ≡ named (codes "(below main)")
unfolding name_of number_of
name-below_main = refl

name-identified_below_main : name_of (codes "(7) (below main)") ≡ defines 7 (codes "(below main)")
unfolding name_of number_of
name-identified_below_main = refl

name-empty_brackets : name_of (codes "()") ≡ named (codes "()")
unfolding name_of number_of
name-empty_brackets = refl

name-open : name_of (codes "(1") ≡ named (codes "(1")
unfolding name_of number_of
name-open = refl

name-empty : name_of [] ≡ named (codes "???")
unfolding name_of number_of
name-empty = refl

name-blanks : name_of (codes " \t(2)\t g h ") ≡ defines 2 (codes "g h ")
unfolding name_of number_of
name-blanks = refl

name-two_identifiers : name_of (codes "(1)(2)") ≡ defines 1 (codes "(2)")
unfolding name_of number_of
name-two_identifiers = refl

name-largest : name_of (codes "(18446744073709551615)") ≡ refers 18446744073709551615
unfolding name_of number_of
name-largest = refl

name-too_large : name_of (codes "(18446744073709551616) x") ≡ Err NumberTooLarge
unfolding name_of number_of
name-too_large = refl

-- ---- kinds

kind-empty : kind_of [] ≡ Ok Nothing
unfolding kind_of
kind-empty = refl

kind-comment : kind_of (codes "# callgrind format") ≡ Ok Nothing
unfolding kind_of
kind-comment = refl

kind-cost : kind_of (codes "15 90 14 2") ≡ Ok (Cost (codes "15 90 14 2"))
unfolding kind_of
kind-cost = refl

kind-plus : kind_of (codes "+3 * 5") ≡ Ok (Cost (codes "+3 * 5"))
unfolding kind_of
kind-plus = refl

kind-minus : kind_of (codes "-1 2") ≡ Ok (Cost (codes "-1 2"))
unfolding kind_of
kind-minus = refl

kind-star : kind_of (codes "* 4") ≡ Ok (Cost (codes "* 4"))
unfolding kind_of
kind-star = refl

kind-events : kind_of (codes "events: Cycles Instructions") ≡ Ok (Header Events (codes " Cycles Instructions"))
unfolding kind_of
kind-events = refl

kind-event : kind_of (codes "event: Ir : Fetches") ≡ Ok (Header Event (codes " Ir : Fetches"))
unfolding kind_of
kind-event = refl

kind-positions : kind_of (codes "positions:line") ≡ Ok (Header Positions (codes "line"))
unfolding kind_of
kind-positions = refl

kind-version : kind_of (codes "version: 1") ≡ Ok (Header Version (codes " 1"))
unfolding kind_of
kind-version = refl

kind-summary : kind_of (codes "summary: 12") ≡ Ok (Header Summary (codes " 12"))
unfolding kind_of
kind-summary = refl

kind-totals : kind_of (codes "totals: 12") ≡ Ok (Header Totals (codes " 12"))
unfolding kind_of
kind-totals = refl

kind-other_key : kind_of (codes "creator: callgrind-3.22.0") ≡ Ok (Header Other (codes " callgrind-3.22.0"))
unfolding kind_of
kind-other_key = refl

-- keys are read to the letter
kind-capital_key : kind_of (codes "Events: Ir") ≡ Ok (Header Other (codes " Ir"))
unfolding kind_of
kind-capital_key = refl

kind-blank_before_colon : kind_of (codes "events : Ir") ≡ Err UnknownLine
unfolding kind_of
kind-blank_before_colon = refl

kind-function : kind_of (codes "fn=(below main)") ≡ Ok (Name Fn (codes "(below main)"))
unfolding kind_of
kind-function = refl

kind-called_file : kind_of (codes "cfl=file2.c") ≡ Ok (Name Cfl (codes "file2.c"))
unfolding kind_of
kind-called_file = refl

kind-jump_file : kind_of (codes "jfi=(3) x.h") ≡ Ok (Name Jfi (codes "(3) x.h"))
unfolding kind_of
kind-jump_file = refl

kind-calls : kind_of (codes "calls=1 50") ≡ Ok (Calls (codes "1 50"))
unfolding kind_of
kind-calls = refl

kind-jump : kind_of (codes "jump=1 +4") ≡ Ok Jump
unfolding kind_of
kind-jump = refl

kind-conditional_jump : kind_of (codes "jcnd=3/4 9") ≡ Ok Jump
unfolding kind_of
kind-conditional_jump = refl

kind-other_word : kind_of (codes "frfn=x") ≡ Err UnknownLine
unfolding kind_of
kind-other_word = refl

kind-word_alone : kind_of (codes "call") ≡ Err UnknownLine
unfolding kind_of
kind-word_alone = refl

kind-no_word : kind_of (codes "=x") ≡ Err UnknownLine
unfolding kind_of
kind-no_word = refl

kind-digit_in_word : kind_of (codes "I1: x") ≡ Err UnknownLine
unfolding kind_of
kind-digit_in_word = refl

-- ---- readings

reading-blanks : reading_of (codes "\t16 400 \r") ≡ Ok (Cost (codes "16 400"))
unfolding reading_of line_text kind_of
reading-blanks = refl

reading-comment : reading_of (codes "  # x") ≡ Ok Nothing
unfolding reading_of line_text kind_of
reading-comment = refl

reading-carriage_return : reading_of (codes "\r") ≡ Ok Nothing
unfolding reading_of line_text kind_of
reading-carriage_return = refl

-- what is left of two carriage returns is no line of the format
reading-two_returns : reading_of (codes "\r\r") ≡ Err UnknownLine
unfolding reading_of line_text kind_of
reading-two_returns = refl

reading-name : reading_of (codes "fn=(1) main \r") ≡ Ok (Name Fn (codes "(1) main"))
unfolding reading_of line_text kind_of
reading-name = refl
