-- What is asked and told, by its names alone: as the code lends it, without where bytes lie in memory.
use Rattle.std.specs.Prelude.{ℕ, Bool, true, false, List, option_map}
use Rattle.std.specs.Borrow.{Bor}
use Rattle.report_texts.specs.declared.call_sides.CallSide.{CallSide}
use Rattle.report_texts.specs.declared.call_sides.CallSide.TheVariants as sides
use Rattle.requests.specs.declared.selections.Selection as any_selections
use Rattle.requests.specs.declared.selections.Selection.TheVariants as selections
use Rattle.requests.specs.declared.queries.Query as any_queries
use Rattle.requests.specs.declared.queries.Query.TheVariants as queries
use Rattle.requests.specs.declared.commands.Command as any_commands
use Rattle.requests.specs.declared.commands.Command.TheVariants as commands

-- which runs, and a question: names are bytes
abbrev pub Selection : Type 0
Selection = any_selections.Selection (List ℕ)

abbrev pub Query : Type 0
Query = any_queries.Query (List ℕ)

-- the question of the calls that have one side at a function
abbrev pub calls_query : CallSide → Selection → List ℕ → List ℕ → List ℕ → Query
calls_query sides.Callers selection event object function = queries.Callers selection event object function
calls_query sides.Callees selection event object function = queries.Callees selection event object function

-- whether a command changes nothing, whatever it finds
abbrev pub only_reads : {R N : Type 0} → any_commands.Command R N → Bool
only_reads (commands.Ask query) = true
only_reads (commands.Annotate selection event file source) = true
only_reads command = false

-- ---- what is lent

abbrev pub LentSelection : Type 0
LentSelection = any_selections.Selection (Bor (List ℕ))

abbrev pub plain_selection : LentSelection → Selection
plain_selection selections.All = selections.All
plain_selection (selections.Run n) = selections.Run n
plain_selection (selections.Group name) = selections.Group name.now

abbrev pub plain_query : any_queries.Query (Bor (List ℕ)) → Query
plain_query queries.Runs = queries.Runs
plain_query queries.Groups = queries.Groups
plain_query (queries.By selection key event cut) = queries.By (plain_selection selection) key event.now cut
plain_query (queries.Inclusive selection event) = queries.Inclusive (plain_selection selection) event.now
plain_query (queries.Callers selection event object function) = queries.Callers (plain_selection selection) event.now object.now function.now
plain_query (queries.Callees selection event object function) = queries.Callees (plain_selection selection) event.now object.now function.now
plain_query (queries.Subtract first second key event) = queries.Subtract (plain_selection first) (option_map plain_selection second) key event.now
plain_query (queries.Verify selection) = queries.Verify (plain_selection selection)
plain_query (queries.Annotate selection event file source) = queries.Annotate (plain_selection selection) event.now file.now source.now
plain_query (queries.Csv selection) = queries.Csv (plain_selection selection)
plain_query (queries.Folded selection) = queries.Folded (plain_selection selection)

-- a command, of which this tells where its bytes come from
abbrev pub plain_from : {R P : Type 0} → (R → P) → any_commands.Command R (Bor (List ℕ)) → any_commands.Command P (List ℕ)
plain_from from (commands.Import kind label source) = commands.Import kind label.now (from source)
plain_from from (commands.Remove n) = commands.Remove n
plain_from from (commands.MakeGroup name) = commands.MakeGroup name.now
plain_from from (commands.DropGroup name) = commands.DropGroup name.now
plain_from from (commands.Join name n) = commands.Join name.now n
plain_from from (commands.Leave name n) = commands.Leave name.now n
plain_from from (commands.SetBaseline name n) = commands.SetBaseline name.now n
plain_from from (commands.Ask query) = commands.Ask (plain_query query)
plain_from from (commands.Annotate selection event file source) = commands.Annotate (plain_selection selection) event.now file.now (from source)

abbrev pub plain_command : {R : Type 0} → any_commands.Command R (Bor (List ℕ)) → any_commands.Command R (List ℕ)
plain_command command = plain_from (λ source. source) command

-- a command that reads the file at a path
abbrev pub plain_request : any_commands.Command (Bor (List ℕ)) (Bor (List ℕ)) → any_commands.Command (List ℕ) (List ℕ)
plain_request command = plain_from (λ path. path.now) command
