-- The commands that a plan says.
use Rattle.std.specs.Prelude.{ℕ, true, false, List, [], ◌∷◌, map, Option, None, Some, option_map}
use Rattle.report_texts.specs.declared.cuts.Cut.{Cut}
use Rattle.requests.specs.Plain.{plain_selection}
use Rattle.requests.specs.declared.commands.Command as requests
use Rattle.requests.specs.declared.commands.Command.TheVariants as asks
use Rattle.requests.specs.declared.queries.Query.TheVariants as queries
use Rattle.command_line.specs.declared.plans.Plan.{Plan}
use Rattle.command_line.specs.declared.plans.Plan.TheVariants as plans

-- ---- which plans say what

-- a question of calls
abbrev pub AsksForCalls : Plan → Type 0
AsksForCalls (plans.Callers db selection event object function) = Unit {0}
AsksForCalls (plans.Callees db selection event object function) = Unit {0}
AsksForCalls plan = ⊥

-- a question
abbrev pub IsQuestion : Plan → Type 0
IsQuestion (plans.Runs db) = Unit {0}
IsQuestion (plans.Groups db) = Unit {0}
IsQuestion (plans.By db selection event limit threshold key) = Unit {0}
IsQuestion (plans.Inclusive db selection event) = Unit {0}
IsQuestion (plans.Subtract db selection less event key) = Unit {0}
IsQuestion (plans.Verify db selection) = Unit {0}
IsQuestion (plans.Csv db selection) = Unit {0}
IsQuestion (plans.Folded db selection) = Unit {0}
IsQuestion plan = AsksForCalls plan

-- one command
abbrev pub IsOneCommand : Plan → Type 0
IsOneCommand (plans.Group db drop name) = Unit {0}
IsOneCommand (plans.Join db name n) = Unit {0}
IsOneCommand (plans.Leave db name n) = Unit {0}
IsOneCommand (plans.Baseline db name n) = Unit {0}
IsOneCommand (plans.Annotate db selection event file source) = Unit {0}
IsOneCommand plan = IsQuestion plan

-- commands: a total is none, and a server has its commands from requests
abbrev pub HasCommands : Plan → Type 0
HasCommands (plans.Import db kind files) = Unit {0}
HasCommands (plans.Remove db numbers) = Unit {0}
HasCommands plan = IsOneCommand plan

-- ---- what they say

-- the path of the store
abbrev pub store_of : Plan → Option (List ℕ)
store_of (plans.Total path) = None
store_of (plans.Import db kind files) = Some db.now
store_of (plans.Remove db numbers) = Some db.now
store_of (plans.Runs db) = Some db.now
store_of (plans.Group db drop name) = Some db.now
store_of (plans.Join db name n) = Some db.now
store_of (plans.Leave db name n) = Some db.now
store_of (plans.Baseline db name n) = Some db.now
store_of (plans.Groups db) = Some db.now
store_of (plans.By db selection event limit threshold key) = Some db.now
store_of (plans.Inclusive db selection event) = Some db.now
store_of (plans.Callers db selection event object function) = Some db.now
store_of (plans.Callees db selection event object function) = Some db.now
store_of (plans.Subtract db selection less event key) = Some db.now
store_of (plans.Verify db selection) = Some db.now
store_of (plans.Annotate db selection event file source) = Some db.now
store_of (plans.Csv db selection) = Some db.now
store_of (plans.Folded db selection) = Some db.now
store_of (plans.Serve db port requests most_bytes log) = Some db.now

-- how much of a report is shown
abbrev pub cut_from : Option ℕ → ℕ → Cut
cut_from limit threshold = record { limit = limit; threshold = threshold }

-- a file is imported under its path as its label
abbrev pub commands_by : Plan → List (requests.Command (List ℕ) (List ℕ))
commands_by (plans.Total path) = []
commands_by (plans.Import db kind files) = map (λ file. asks.Import kind file.now file.now) files
commands_by (plans.Remove db numbers) = map asks.Remove numbers
commands_by (plans.Runs db) = asks.Ask queries.Runs ∷ []
commands_by (plans.Group db false name) = asks.MakeGroup name.now ∷ []
commands_by (plans.Group db true name) = asks.DropGroup name.now ∷ []
commands_by (plans.Join db name n) = asks.Join name.now n ∷ []
commands_by (plans.Leave db name n) = asks.Leave name.now n ∷ []
commands_by (plans.Baseline db name n) = asks.SetBaseline name.now n ∷ []
commands_by (plans.Groups db) = asks.Ask queries.Groups ∷ []
commands_by (plans.By db selection event limit threshold key) = asks.Ask (queries.By (plain_selection selection) key event.now (cut_from limit threshold)) ∷ []
commands_by (plans.Inclusive db selection event) = asks.Ask (queries.Inclusive (plain_selection selection) event.now) ∷ []
commands_by (plans.Callers db selection event object function) = asks.Ask (queries.Callers (plain_selection selection) event.now object.now function.now) ∷ []
commands_by (plans.Callees db selection event object function) = asks.Ask (queries.Callees (plain_selection selection) event.now object.now function.now) ∷ []
commands_by (plans.Subtract db selection less event key) = asks.Ask (queries.Subtract (plain_selection selection) (option_map plain_selection less) key event.now) ∷ []
commands_by (plans.Verify db selection) = asks.Ask (queries.Verify (plain_selection selection)) ∷ []
commands_by (plans.Annotate db selection event file source) = asks.Annotate (plain_selection selection) event.now file.now source.now ∷ []
commands_by (plans.Csv db selection) = asks.Ask (queries.Csv (plain_selection selection)) ∷ []
commands_by (plans.Folded db selection) = asks.Ask (queries.Folded (plain_selection selection)) ∷ []
commands_by (plans.Serve db port requests most_bytes log) = []
