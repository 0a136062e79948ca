-- What is printed of an answer, and which answers are refusals.
use Rattle.std.specs.Prelude.{ℕ, Bool, true, false, if◌then◌else◌, List, ◌++◌, codes}
use Rattle.std.specs.List.{list_any}
use Rattle.std.specs.Fmt.{decimal}
use Rattle.cg_text.specs.Errors.{error_text}
use Rattle.cg_text.specs.declared.faults.ReadEnd.TheVariants as ends
use Rattle.histories.specs.declared.answers.Answer.{Answer}
use Rattle.histories.specs.declared.answers.Answer.TheVariants.{Run, Held, Done, Text, Refused}
use Rattle.histories.specs.declared.answers.Excess.{Excess}
use Rattle.histories.specs.declared.answers.Excess.TheVariants.{SelfCost, CallCost, CallCount}
use Rattle.histories.specs.declared.answers.Refusal.{Refusal}
use Rattle.histories.specs.declared.answers.Refusal.TheVariants.{Memory, Store, ReadFault, TooLong, File, Overflow, Full, NumbersSpent, NoSuchRun, NoSuchGroup, GroupTaken, BadName, NoSuchEvent, NoSuchName, NoBaseline}
use Rattle.byte_io.specs.Escapes.{escaped}
use Rattle.file_reading.specs.TotalLines.{refused_line}

-- the sum that would pass its bound, an event by its name
abbrev pub excess_text : Excess → List ℕ
excess_text (SelfCost event) = codes "overflow of self cost " ++ escaped event
excess_text (CallCost event) = codes "overflow of call cost " ++ escaped event
excess_text CallCount = codes "overflow of call count"

-- why a command is refused
abbrev pub reason_text : Refusal → List ℕ
reason_text Memory = codes "out of memory"
reason_text Store = codes "store failed"
reason_text ReadFault = codes "read failed"
reason_text TooLong = codes "too long"
reason_text (File fault line) = error_text (ends.Fault fault line)
reason_text (Overflow excess) = excess_text excess
reason_text Full = codes "full"
reason_text NumbersSpent = codes "run numbers spent"
reason_text NoSuchRun = codes "no such run"
reason_text NoSuchGroup = codes "no such group"
reason_text GroupTaken = codes "group exists"
reason_text BadName = codes "bad name"
reason_text NoSuchEvent = codes "no such event"
reason_text NoSuchName = codes "no such name"
reason_text NoBaseline = codes "no baseline"

-- one line; a text has its own lines, and none if it is empty
abbrev pub line_text : Answer → List ℕ
line_text (Run n) = codes "run " ++ (decimal n ++ codes "\n")
line_text (Held n) = codes "held " ++ (decimal n ++ codes "\n")
line_text Done = codes "done\n"
line_text (Text text) = text
line_text (Refused refusal) = refused_line (reason_text refusal)

-- whether memory is taken for the line of an answer; a text is written from where it lies
abbrev pub takes_memory : Answer → Bool
takes_memory (Text text) = false
takes_memory answer = true

abbrev pub is_refused : Answer → Bool
is_refused (Refused refusal) = true
is_refused answer = false

-- of a program that has printed them
abbrev pub status_of : List Answer → ℕ
status_of answers = if list_any is_refused answers then 1 else 0
