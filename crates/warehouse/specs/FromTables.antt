-- What commands are answered over any tables, by the lines as which their rows are read.
use Rattle.std.specs.Prelude.{◌≡◌, ◌⊎◌, ℕ, List, []}
use Rattle.std.specs.Str.{IsUtf8}
use Rattle.run_stores.specs.declared.states.StoreState.{Ghosts}
use Rattle.run_stores.specs.Calls.{Tells}
use Rattle.plain_tables.specs.Tables.{Tables}
use Rattle.byte_io.specs.Outcomes.{Outcome, bytes_of}
use Rattle.byte_io.specs.Reads.{HasEnded, IsUnreadFor, Reads}
use Rattle.byte_io.specs.declared.reading.Unread.{Unread}
use Rattle.histories.specs.Legal.{most_of_source}
use Rattle.histories.specs.declared.answers.Answer.{Answer}
use Rattle.histories.specs.declared.answers.Answer.TheVariants as answers
use Rattle.requests.specs.declared.queries.Query.TheVariants as queries
use Rattle.histories.specs.declared.answers.Refusal.TheVariants as reasons
use Rattle.store_calls.specs.FunctionCalls.{AreCallsShown}
use Rattle.store_calls.specs.InclusiveRuns.{IsInclusive}
use Rattle.plain_tables.specs.Labels.{IsGroupName, IsLabel}
use Rattle.profile_records.specs.declared.kinds.Kind.{Kind}
use Rattle.file_reading.specs.FileParsers.{IsParsedOf}
use Rattle.file_reading.specs.declared.parser.ParsedFile.{ParsedFile}
use Rattle.store_commands.specs.FromTables.{IsImported}
use Rattle.histories.specs.declared.limits.Limits.{Limits}
use Rattle.store_commands.specs.Changes.{GroupsIn, RemovesIn}
use Rattle.store_commands.specs.Lists.{IsListOfGroups, IsListOfRuns}
use Rattle.store_reports.specs.Annotated.{IsAnnotated}
use Rattle.store_reports.specs.CsvRuns.{IsCsv}
use Rattle.store_reports.specs.FoldedRuns.{IsFolded}
use Rattle.histories.specs.FromTables.{OrFailed, ShowsText, WasChangedIn}
use Rattle.store_reports.specs.Checked.{IsVerified}
use Rattle.store_reports.specs.Compared.{IsSubtracted}
use Rattle.store_reports.specs.Reported.{IsReported}
use Rattle.requests.specs.Plain.{Query, Selection, plain_command, plain_selection}
use Rattle.requests.specs.declared.commands.Command as commands
use Rattle.requests.specs.declared.commands.Command.TheVariants as input
use Rattle.report_texts.specs.declared.call_sides.CallSide.TheVariants as sides
use Rattle.store_commands.specs.declared.changes.GroupChange.{GroupChange}
use Rattle.store_commands.specs.declared.changes.GroupChange.TheVariants as changes
use Rattle.warehouse.specs.Answered.{Lent, unread_for}

-- by what the lines say
abbrev pub AnswersIn : Query → Tables → Answer → Type 0
AnswersIn queries.Runs t answer = ShowsText (IsListOfRuns t) answer
AnswersIn queries.Groups t answer = ShowsText (IsListOfGroups t) answer
AnswersIn (queries.By selection key event cut) t answer = IsReported t selection key event cut answer
AnswersIn (queries.Verify selection) t answer = IsVerified t selection answer
AnswersIn (queries.Inclusive selection event) t answer = IsInclusive t selection event answer
AnswersIn (queries.Callers selection event object function) t answer = AreCallsShown t selection sides.Callers event object function answer
AnswersIn (queries.Callees selection event object function) t answer = AreCallsShown t selection sides.Callees event object function answer
AnswersIn (queries.Subtract first second key event) t answer = IsSubtracted t first second key event answer
AnswersIn (queries.Annotate selection event file source) t answer = IsAnnotated t selection event file source answer
AnswersIn (queries.Csv selection) t answer = IsCsv t selection answer
AnswersIn (queries.Folded selection) t answer = IsFolded t selection answer

-- a command that reads no source is answered by what the lines say; and where the tables hold these lines, what it removes or makes of groups is made of them
module _ {S : Type 0} (g : Ghosts S) where
  -- a group is changed under a name that a group can have
  abbrev pub GroupIsFound : Limits → GroupChange → List ℕ → Answer → S → S → Type 0
  GroupIsFound limits change name answer old new = IsGroupName name → WasChangedIn g (GroupsIn limits change name) answer old new

  abbrev pub IsFoundOf : {P : Type 0} → Limits → commands.Command P (List ℕ) → Answer → S → S → Type 0
  IsFoundOf limits (input.Ask query) answer old new = Tells g old new (λ t. OrFailed (AnswersIn query t) answer)
  IsFoundOf limits (input.Remove n) answer old new = WasChangedIn g (RemovesIn n) answer old new
  IsFoundOf limits (input.MakeGroup name) answer old new = GroupIsFound limits changes.Make name answer old new
  IsFoundOf limits (input.DropGroup name) answer old new = GroupIsFound limits changes.Drop name answer old new
  IsFoundOf limits (input.Join name n) answer old new = GroupIsFound limits (changes.Join n) name answer old new
  IsFoundOf limits (input.Leave name n) answer old new = GroupIsFound limits (changes.Leave n) name answer old new
  IsFoundOf limits (input.SetBaseline name n) answer old new = GroupIsFound limits (changes.SetBaseline n) name answer old new
  IsFoundOf limits command answer old new = ⊥

module _ {S R : Type 0} (g : Ghosts S) (reads : R → Outcome → R → Type 0) where
  -- a source was not read through; or what it gave is annotated by what the lines say
  pub record WasAnnotated (selection : Selection) (event file : List ℕ) (source to : R) (answer : Answer) (old new : S) : Type 0 where
    pub outcomes : List Outcome
    pub came : Reads reads source outcomes to
    pub answered : ((unread : Unread) × IsUnreadFor most_of_source outcomes unread × (answer ≡ unread_for unread))
        ⊎ (HasEnded most_of_source outcomes × Tells g old new (λ t. OrFailed (AnswersIn (queries.Annotate selection event file (bytes_of outcomes)) t) answer))

  -- under a label out of form a source is not read; one that was not read through is refused as such; what another gave is taken in by what the lines say
  pub record WasImported (limits : Limits) (kind : Kind) (label : List ℕ) (source to : R) (answer : Answer) (old new : S) : Type 0 where
    pub outcomes : List Outcome
    pub came : Reads reads source outcomes to
    pub answered : ((IsUtf8 label × IsLabel label → ⊥) × (outcomes ≡ []) × (answer ≡ answers.Refused reasons.BadName))
        ⊎ ((unread : Unread) × IsUnreadFor limits.bytes outcomes unread × (answer ≡ unread_for unread))
        ⊎ ((parsed : ParsedFile) × HasEnded limits.bytes outcomes × IsParsedOf kind (bytes_of outcomes) parsed × WasChangedIn g (IsImported limits kind label parsed) answer old new)

  -- each command is answered by what the lines say; and where the tables hold these lines, what it imports, removes or makes of groups is made of them. The reads of its source led from the one state to the other
  abbrev pub IsFoundOver : {P : Type 0} → Limits → commands.Command P (List ℕ) → R → R → Answer → S → S → Type 0
  IsFoundOver limits (input.Import kind label source) from to answer old new = WasImported limits kind label from to answer old new
  IsFoundOver limits (input.Annotate selection event file source) from to answer old new = WasAnnotated selection event file from to answer old new
  IsFoundOver limits command from to answer old new = IsFoundOf g limits command answer old new

  -- the same of a command that has its source with it
  abbrev pub IsFoundWithSource : Limits → Lent R → Answer → S → S → Type 0
  IsFoundWithSource limits (input.Import kind label source) answer old new = (to : R) × WasImported limits kind label.now source to answer old new
  IsFoundWithSource limits (input.Annotate selection event file source) answer old new = (to : R) × WasAnnotated (plain_selection selection) event.now file.now source to answer old new
  IsFoundWithSource limits command answer old new = IsFoundOf g limits (plain_command command) answer old new
