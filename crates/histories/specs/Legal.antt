-- The legal answers to a command, after a history.
use Rattle.std.specs.Prelude.{◌≡◌, ◌⊎◌, ℕ, ◌==◌, Bool, true, false, not, nat_lt, nat_le, bytes_eq, if◌then◌else◌, List, [], ◌∷◌, ◌++◌, length, Option, Some, None, option_map}
use Rattle.std.specs.List.{list_any, AllByRecursion}
use Rattle.std.specs.Str.{IsUtf8}
use Rattle.sha2.specs.Sha256.{sha256}
use Rattle.report_texts.specs.Functions.{function_spot}
use Rattle.report_texts.specs.declared.call_sides.CallSide.{CallSide}
use Rattle.report_texts.specs.declared.call_sides.CallSide.TheVariants as sides
use Rattle.cost_rows.specs.Sums.{Spot}
use Rattle.cg_text.specs.declared.faults.Fault as faults
use Rattle.plain_tables.specs.Labels.{IsLabel, IsGroupName}
use Rattle.histories.specs.Formats.{Format}
use Rattle.histories.specs.Files.{fault_of}
use Rattle.byte_io.specs.Outcomes.{Outcome, bytes_of, is_failed, is_end}
use Rattle.histories.specs.History.{Command, Import, Remove, MakeGroup, DropGroup, Join, Leave, SetBaseline, Ask, Annotate, History, File, held, next, groups, is_member, baseline}
use Rattle.histories.specs.Sums.{excess_of}
use Rattle.histories.specs.Exports.{annotated_text, csv_of_files, folded_of_files, knows_source}
use Rattle.histories.specs.Reports.{by_text, calls_text, has_event, inclusive_of_files, knows, subtract_text, verified_text}
use Rattle.histories.specs.Selections.{selected}
use Rattle.histories.specs.Texts.{groups_text, runs_text}
use Rattle.histories.specs.declared.limits.Limits.{Limits}
use Rattle.histories.specs.declared.answers.Answer.{Answer}
use Rattle.histories.specs.declared.answers.Answer.TheVariants.{Run, Held, Done, Text, Refused}
use Rattle.histories.specs.declared.answers.Refusal.TheVariants as reasons
use Rattle.requests.specs.Plain.{Query, Selection}
use Rattle.requests.specs.declared.queries.Query.TheVariants as queries
use Rattle.requests.specs.declared.selections.Selection.TheVariants as selections

-- ---- the forms of names

-- a label is UTF-8; the name of a group that is made has its own form
abbrev pub IsInForm : Command → Type 0
IsInForm (Import format label outcomes) = IsUtf8 label × IsLabel label
IsInForm (MakeGroup name) = IsGroupName name
IsInForm command = Unit {0}

-- the source of an import is not read
abbrev pub IsUnread : Command → Type 0
IsUnread (Import format label outcomes) = outcomes ≡ []
IsUnread command = Unit {0}

-- ---- answers by the first condition that holds

abbrev pub when : Bool → Answer → Option Answer
when true answer = Some answer
when false answer = None

abbrev pub first_or : List (Option Answer) → Answer → Answer
first_or [] last = last
first_or (Some answer ∷ later) last = answer
first_or (None ∷ later) last = first_or later last

-- ---- sources

-- what is expected by what the reads of a source came to: more than the limit is refused, and then a failed read; nothing is expected while the source goes on
abbrev pub once_read : ℕ → List Outcome → Answer → Option Answer
once_read limit outcomes expected =
    if nat_lt limit (length (bytes_of outcomes)) then Some (Refused reasons.TooLong)
    else if list_any is_failed outcomes then Some (Refused reasons.ReadFault)
    else if list_any is_end outcomes then Some expected
    else None

-- the most bytes of a source that is annotated
abbrev pub most_of_source : ℕ
most_of_source = 16777216

-- ---- imports

-- the number of the file with this digest
abbrev pub number_of : List ℕ → List File → Option ℕ
number_of digest [] = None
number_of digest (f ∷ files) = if bytes_eq (sha256 f.bytes) digest then Some f.number else number_of digest files

abbrev pub faulty : faults.Fault × ℕ → Answer
faulty fault = Refused (reasons.File fault.0 fault.1)

-- once the source has ended
abbrev pub expected_of_file : Limits → History → Format → List ℕ → Answer
expected_of_file limits h format bytes = first_or
    (option_map Held (number_of (sha256 bytes) (held h))
    ∷ option_map faulty (fault_of format bytes)
    ∷ option_map (λ excess. Refused (reasons.Overflow excess)) (excess_of (held h) format bytes)
    ∷ when (nat_le limits.runs (length (held h))) (Refused reasons.Full)
    ∷ when (nat_le limits.numbers (next h)) (Refused reasons.NumbersSpent)
    ∷ [])
    (Run (next h))

abbrev pub expected_of_import : Limits → History → Format → List Outcome → Option Answer
expected_of_import limits h format outcomes = once_read limits.bytes outcomes (expected_of_file limits h format (bytes_of outcomes))

-- ---- all commands

abbrev pub has_run : History → ℕ → Bool
has_run h n = list_any (λ (f : File). f.number == n) (held h)

abbrev pub has_group : History → List ℕ → Bool
has_group h name = list_any (λ other. bytes_eq other name) (groups h)

abbrev pub no_group : History → List ℕ → Option Answer
no_group h name = when (not (has_group h name)) (Refused reasons.NoSuchGroup)

abbrev pub no_run : History → ℕ → Option Answer
no_run h n = when (not (has_run h n)) (Refused reasons.NoSuchRun)

-- ---- questions

-- the run, or the group, that is named is not held
abbrev pub no_selection : History → Selection → Option Answer
no_selection h selections.All = None
no_selection h (selections.Run n) = no_run h n
no_selection h (selections.Group name) = no_group h name

abbrev pub no_event : List ℕ → List File → Option Answer
no_event event files = when (not (list_any (has_event event) files)) (Refused reasons.NoSuchEvent)

-- a function that no file tells of
abbrev pub no_name : Spot → List File → Option Answer
no_name f files = when (not (list_any (knows f) files)) (Refused reasons.NoSuchName)

-- a source file whose lines cost nothing in any file
abbrev pub no_source : List ℕ → List File → Option Answer
no_source name files = when (not (list_any (knows_source name) files)) (Refused reasons.NoSuchName)

-- what a selection is compared with: what is given, or else the baseline of the group that it is
abbrev pub compared : History → Selection → Option Selection → Option Selection
compared h first (Some second) = Some second
compared h (selections.Group name) None = option_map selections.Run (baseline h name)
compared h first None = None

abbrev pub no_second : History → Option Selection → Option Answer
no_second h None = Some (Refused reasons.NoBaseline)
no_second h (Some second) = no_selection h second

abbrev pub files_of : History → Option Selection → List File
files_of h None = []
files_of h (Some s) = selected h s

abbrev pub expected_of_calls : History → Selection → CallSide → List ℕ → List ℕ → List ℕ → Answer
expected_of_calls h selection side event object function =
    let files = selected h selection in
    let f = function_spot object function in
    first_or (no_selection h selection ∷ no_event event files ∷ no_name f files ∷ []) (Text (calls_text side f files event))

abbrev pub expected_of_query : History → Query → Answer
expected_of_query h queries.Runs = Text (runs_text h)
expected_of_query h queries.Groups = Text (groups_text h)
expected_of_query h (queries.By selection key event cut) =
    first_or (no_selection h selection ∷ no_event event (selected h selection) ∷ []) (Text (by_text (selected h selection) key event cut))
expected_of_query h (queries.Verify selection) = first_or (no_selection h selection ∷ []) (Text (verified_text (selected h selection)))
expected_of_query h (queries.Inclusive selection event) =
    first_or (no_selection h selection ∷ no_event event (selected h selection) ∷ []) (Text (inclusive_of_files (selected h selection) event))
expected_of_query h (queries.Callers selection event object function) = expected_of_calls h selection sides.Callers event object function
expected_of_query h (queries.Callees selection event object function) = expected_of_calls h selection sides.Callees event object function
expected_of_query h (queries.Subtract first second key event) =
    let firsts = selected h first in
    let seconds = files_of h (compared h first second) in
    first_or (no_selection h first ∷ no_second h (compared h first second) ∷ no_event event (firsts ++ seconds) ∷ []) (Text (subtract_text key event firsts seconds))
expected_of_query h (queries.Annotate selection event name source) =
    let files = selected h selection in
    first_or (no_selection h selection ∷ no_event event files ∷ no_source name files ∷ []) (Text (annotated_text event name source files))
expected_of_query h (queries.Csv selection) = first_or (no_selection h selection ∷ []) (Text (csv_of_files (selected h selection)))
expected_of_query h (queries.Folded selection) = first_or (no_selection h selection ∷ []) (Text (folded_of_files (selected h selection)))

-- ---- each command

-- what a command in form is answered, if it is answered at all
abbrev pub expected_answer : Limits → History → Command → Option Answer
expected_answer limits h (Import format label outcomes) = expected_of_import limits h format outcomes
expected_answer limits h (Remove n) = Some (first_or (no_run h n ∷ []) Done)
expected_answer limits h (MakeGroup name) =
    Some (first_or (when (has_group h name) (Refused reasons.GroupTaken) ∷ when (nat_le limits.groups (length (groups h))) (Refused reasons.Full) ∷ []) Done)
expected_answer limits h (DropGroup name) = Some (first_or (no_group h name ∷ []) Done)
expected_answer limits h (Join name n) = Some (first_or (no_group h name ∷ no_run h n ∷ []) Done)
expected_answer limits h (Leave name n) = Some (first_or (no_group h name ∷ no_run h n ∷ []) Done)
expected_answer limits h (SetBaseline name n) = Some (first_or (no_group h name ∷ no_run h n ∷ []) Done)
expected_answer limits h (Ask query) = Some (expected_of_query h query)
expected_answer limits h (Annotate selection event file outcomes) =
    once_read most_of_source outcomes (expected_of_query h (queries.Annotate selection event file (bytes_of outcomes)))

-- out of memory, or a database call that failed
abbrev pub IsFailure : Answer → Type 0
IsFailure answer = (answer ≡ Refused reasons.Memory) ⊎ (answer ≡ Refused reasons.Store)

-- a command in form is answered what is expected, or a failure, at any moment; one out of form is refused as such, and no source is read
abbrev pub IsLegal : Limits → History → Command → Answer → Type 0
IsLegal limits h command answer =
    (IsInForm command × ((expected_answer limits h command ≡ Some answer) ⊎ IsFailure answer))
    ⊎ ((IsInForm command → ⊥) × IsUnread command × (answer ≡ Refused reasons.BadName))

-- ---- lists of commands

-- each answer is legal after the history and the steps before it
abbrev pub AreLegal : Limits → History → History → Type 0
AreLegal limits h [] = Unit {0}
AreLegal limits h (step ∷ later) = IsLegal limits h step.command step.answer × AreLegal limits (h ++ step ∷ []) later

-- each step is legal under some limits
abbrev pub IsHistoryAfter : History → History → Type 0
IsHistoryAfter before [] = Unit {0}
IsHistoryAfter before (step ∷ later) = ((limits : Limits) × IsLegal limits before step.command step.answer) × IsHistoryAfter (before ++ step ∷ []) later

abbrev pub IsHistory : History → Type 0
IsHistory h = IsHistoryAfter [] h

-- ---- what holds of each history

-- a group of this name is there, and this run is held
abbrev pub AreThere : History → List ℕ → ℕ → Type 0
AreThere h name n = (has_group h name ≡ true) × (has_run h n ≡ true)

-- whoever is in a group or its baseline is held, and so is the group; groups' names are in form
pub record IsTidy (h : History) : Type 0 where
  pub members : (name : List ℕ) (n : ℕ) → is_member h name n ≡ true → AreThere h name n
  pub baselines : (name : List ℕ) (n : ℕ) → baseline h name ≡ Some n → AreThere h name n
  pub names : AllByRecursion IsGroupName (groups h)

-- ---- cuts of one source

-- reads that gave the same bytes
abbrev pub GaveSame : List Outcome → List Outcome → Type 0
GaveSame xs ys = bytes_of xs ≡ bytes_of ys

-- and of which one failed in both or in none, and that both ended or did not
pub record AreAlike (xs ys : List Outcome) : Type 0 where
  pub bytes : GaveSame xs ys
  pub failed : list_any is_failed xs ≡ list_any is_failed ys
  pub ended : list_any is_end xs ≡ list_any is_end ys

-- after each history the same answer is expected to both commands
abbrev pub AreExpectedAlike : Command → Command → Type 0
AreExpectedAlike one other = (limits : Limits) (h : History) → expected_answer limits h one ≡ expected_answer limits h other
