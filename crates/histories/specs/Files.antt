-- What a file says, by the format in which it is read, straight from the definitions of that format.
use Rattle.std.specs.Prelude.{ℕ, List, [], map, Option, None}
use Rattle.cg_text.specs.declared.faults.Fault.{Fault}
use Rattle.cg_formulas.specs.declared.heads.FileHead.{FileHead}
use Rattle.callgrind_reader.specs.Files as callgrind
use Rattle.callgrind_reader.specs.Reads.{HeadOfFile}
use Rattle.profile_records.specs.Records.{Record, Own}
use Rattle.folded_reader.specs.Files as folded
use Rattle.profile_records.specs.Stacks.{Seen}
use Rattle.folded_reader.specs.Heads.{HeadIs, samples_alone}
use Rattle.cost_rows.specs.Content.{Content, leaf_cost}
use Rattle.cost_rows.specs.StackSums.{content_of_stacks}
use Rattle.cost_rows.specs.Sums.{content_of_records}
use Rattle.profile_records.specs.declared.kinds.Kind.{Kind}
use Rattle.profile_records.specs.declared.kinds.Kind.TheVariants as kinds
use Rattle.histories.specs.Formats.{Format, Callgrind, Folded}

-- its first fault, with the line; a file without one is accepted
abbrev pub fault_of : Format → List ℕ → Option (Fault × ℕ)
fault_of (Callgrind g) bytes = callgrind.fault_by g bytes
fault_of Folded bytes = folded.fault_of_file bytes

-- its events, in the order of their columns
abbrev pub events_of : Format → List ℕ → List (List ℕ)
events_of (Callgrind g) bytes = callgrind.events_by g bytes
events_of Folded bytes = samples_alone

-- its derived events, each with a coefficient for each event
abbrev pub derived_of : Format → List ℕ → List (List ℕ × List ℕ)
derived_of (Callgrind g) bytes = callgrind.derived_by g bytes
derived_of Folded bytes = []

-- the totals that it states, if it states any
abbrev pub stated_of : Format → List ℕ → Option (List ℕ)
stated_of (Callgrind g) bytes = callgrind.stated_by g bytes
stated_of Folded bytes = None

-- a stack counts for the function that was running
abbrev pub sample : Seen → Record
sample s = Own (leaf_cost s)

-- its self records and call records
abbrev pub records_of : Format → List ℕ → List Record
records_of (Callgrind g) bytes = callgrind.records_by g bytes
records_of Folded bytes = map sample (folded.stacks_of_file bytes)

-- its stacks
abbrev pub stacks_of : Format → List ℕ → List Seen
stacks_of (Callgrind g) bytes = []
stacks_of Folded bytes = folded.stacks_of_file bytes

-- ---- what is told of a file that is read now, by its kind

-- its head, as its reader tells it
abbrev pub IsHeadOf : Kind → FileHead → List ℕ → Type 0
IsHeadOf kinds.Callgrind head bytes = HeadOfFile head bytes
IsHeadOf kinds.Folded head bytes = HeadIs head

-- the rows of a Callgrind text
abbrev pub content_of_text : List ℕ → Content
content_of_text text = content_of_records (callgrind.records_of_file text)

-- the rows of a folded text
abbrev pub content_of_folded : List ℕ → Content
content_of_folded text = content_of_stacks (folded.stacks_of_file text)

-- its rows
abbrev pub rows_of : Kind → List ℕ → Content
rows_of kinds.Callgrind bytes = content_of_text bytes
rows_of kinds.Folded bytes = content_of_folded bytes
