-- What a plan has of the words of a command line.
use Rattle.std.specs.Prelude.{◌≡◌, ◌≢◌, ◌≤◌, ◌⊎◌, ℕ, Bool, true, false, List, [], ◌∷◌, map, Option, Some, None, IsSome, option_map, codes, IfSome}
use Rattle.std.specs.List.{All}
use Rattle.std.specs.Str.Parse.{IsNumeral, digits_value, without_leading_plus}
use Rattle.clap.specs.Faults.{fault_of}
use Rattle.clap.specs.Kinds.{IsAmong, Kinds}
use Rattle.clap.specs.Simple.{App, subcommand_of}
use Rattle.clap.specs.Values.{kind_of}
use Rattle.clap.specs.Walk.{Row, Text, all_of, first_of, one_of}
use Rattle.clap.specs.declared.error.Error.{Error}
use Rattle.clap.specs.declared.error.kind.ErrorKind.TheVariants.{OutOfMemory}
use Rattle.cost_rows.specs.Keys.{key_name}
use Rattle.cost_rows.specs.declared.keys.Key.{Key}
use Rattle.profile_records.specs.declared.kinds.Kind.{Kind}
use Rattle.profile_records.specs.declared.kinds.Kind.TheVariants.{Callgrind, Folded}
use Rattle.command_line.specs.declared.plans.Plan.{Plan}
use Rattle.command_line.specs.declared.plans.PlanEnd.{PlanEnd}
use Rattle.command_line.specs.declared.plans.PlanEnd.TheVariants.{Memory, RunAndGroup, LessRunAndLessGroup, Clap}
use Rattle.command_line.specs.declared.plans.Plan.TheVariants.{Total, Import, Remove, Runs, Group, Join, Leave, Baseline, Groups}
use Rattle.command_line.specs.declared.plans.Plan.TheVariants.{By, Inclusive, Callers, Callees, Subtract, Verify}
use Rattle.command_line.specs.declared.plans.Plan.TheVariants as plans
use Rattle.requests.specs.Plain.{LentSelection}
use Rattle.requests.specs.declared.selections.Selection.TheVariants as selections
use Rattle.command_line.specs.Grammar.{IsCommandLine}

-- ---- the numbers of runs, of requests and of bytes

-- a number from 1 to the greatest one
abbrev pub IsUpTo : ℕ → ℕ → Type 0
IsUpTo most n = (1 ≤ n) × (n ≤ most)

abbrev pub IsRunNumber : ℕ → Type 0
IsRunNumber n = IsUpTo 2147483647 n

-- the number that a text says; a plus may stand first
abbrev pub number_of : Text → ℕ
number_of text = digits_value 10 (without_leading_plus text)

-- how many requests may be answered before the program ends
abbrev pub IsRequestCount : ℕ → Type 0
IsRequestCount n = IsUpTo 1000000 n

-- how many bytes an answer may have
abbrev pub IsByteCount : ℕ → Type 0
IsByteCount n = IsUpTo 4294967295 n

-- a limit on rows
abbrev pub IsLimit : ℕ → Type 0
IsLimit n = n ≤ 4294967295

-- a port; 0 means any that is free
abbrev pub IsPort : ℕ → Type 0
IsPort n = n ≤ 65535

-- decimal digits; a plus may stand first
abbrev pub IsNumber : Text → Type 0
IsNumber text = IsNumeral 10 (without_leading_plus text)

-- decimal digits that say such a number
abbrev pub SaysUpTo : ℕ → Text → Type 0
SaysUpTo most text = IsNumber text × IsUpTo most (number_of text)

-- those that say the number of a run
abbrev pub SaysRun : Text → Type 0
SaysRun text = SaysUpTo 2147483647 text

-- ---- what is sure of a plan

abbrev pub IsSoundSelection : LentSelection → Type 0
IsSoundSelection selections.All = Unit {0}
IsSoundSelection (selections.Run number) = IsRunNumber number
IsSoundSelection (selections.Group name) = Unit {0}

-- numbers of runs, rows, ports, requests and bytes are in their range, where a list is wanted it has one item at least, and a threshold is one in percent
abbrev pub IsSound : Plan → Type 0
IsSound (Import db kind files) = files ≢ []
IsSound (Remove db numbers) = (numbers ≢ []) × All IsRunNumber numbers
IsSound (Join db name number) = IsRunNumber number
IsSound (Leave db name number) = IsRunNumber number
IsSound (Baseline db name number) = IsRunNumber number
IsSound (By db runs event limit threshold key) = IsSoundSelection runs × IfSome limit IsLimit × (threshold ≤ 100)
IsSound (Inclusive db runs event) = IsSoundSelection runs
IsSound (Callers db runs event object function) = IsSoundSelection runs
IsSound (Callees db runs event object function) = IsSoundSelection runs
IsSound (Subtract db runs less event key) = IsSoundSelection runs × IfSome less IsSoundSelection
IsSound (Verify db runs) = IsSoundSelection runs
IsSound (plans.Annotate db runs event file source) = IsSoundSelection runs
IsSound (plans.Csv db runs) = IsSoundSelection runs
IsSound (plans.Folded db runs) = IsSoundSelection runs
IsSound (plans.Serve db port requests most_bytes log) = IsPort port × IsRequestCount requests × IsByteCount most_bytes
IsSound plan = Unit {0}

-- ---- where a plan has its parts from

-- a flag that was given or not, with what was found of it
abbrev pub IsFlag : Option Text → Bool → Type 0
IsFlag None given = given ≡ false
IsFlag (Some text) given = (text ≡ codes "true" → given ≡ true) × (text ≡ codes "false" → given ≡ false)

abbrev pub is_folded : Kind → Bool
is_folded Folded = true
is_folded Callgrind = false

-- the word of an argument
abbrev pub HasWord : List Row → Text → Text → Type 0
HasWord rows id word = first_of id rows ≡ Some word

-- the number that the word of an argument says by digits
abbrev pub SaysNumber : List Row → Text → ℕ → Type 0
SaysNumber rows id number = (option_map number_of (first_of id rows) ≡ Some number) × IfSome (first_of id rows) IsNumber

abbrev pub HasRun : List Row → ℕ → Type 0
HasRun rows number = SaysNumber rows (codes "N") number

-- the number that an option says by digits, where it has one
abbrev pub HasNumber : List Row → Text → Option ℕ → Type 0
HasNumber rows id number = (option_map number_of (one_of id rows) ≡ number) × IfSome (one_of id rows) IsNumber

-- the runs that two options select: those of a group, one run, or all where neither is given
abbrev pub HasSelectionBy : Text → Text → List Row → LentSelection → Type 0
HasSelectionBy run group rows selections.All = (first_of run rows ≡ None) × (first_of group rows ≡ None)
HasSelectionBy run group rows (selections.Run number) = SaysNumber rows run number × (first_of group rows ≡ None)
HasSelectionBy run group rows (selections.Group name) = (first_of run rows ≡ None) × HasWord rows group name.now

abbrev pub HasSelection : List Row → LentSelection → Type 0
HasSelection rows runs = HasSelectionBy (codes "run") (codes "group") rows runs

-- the runs whose costs are taken off: none are selected where neither option is given
abbrev pub HasLess : List Row → Option LentSelection → Type 0
HasLess rows None = HasSelectionBy (codes "less-run") (codes "less-group") rows selections.All
HasLess rows (Some selections.All) = ⊥
HasLess rows (Some runs) = HasSelectionBy (codes "less-run") (codes "less-group") rows runs

-- the numbers that the words of an argument say, each by digits
abbrev pub HaveRuns : List Row → List ℕ → Type 0
HaveRuns rows numbers = (option_map (map number_of) (all_of (codes "N") rows) ≡ Some numbers) × IfSome (all_of (codes "N") rows) (All IsNumber)

-- the words of an argument that takes several: one at least
abbrev pub HasWords : List Row → Text → List Text → Type 0
HasWords rows id texts = (texts ≢ []) × (all_of id rows ≡ Some texts)

-- the runs that were named: one at least
abbrev pub HasRuns : List Row → List ℕ → Type 0
HasRuns rows numbers = (numbers ≢ []) × All IsRunNumber numbers × HaveRuns rows numbers

-- the group and the run that were named
abbrev pub HasMember : List Row → Text × ℕ → Type 0
HasMember rows found = HasWord rows (codes "NAME") found.0 × IsRunNumber found.1 × HasRun rows found.1

-- the plan for a subcommand, by its name and what was found of its arguments
abbrev pub IsPlanOf : Text → List Row → Plan → Type 0
IsPlanOf name rows (Total path) = (name ≡ codes "total") × HasWord rows (codes "FILE") path.now
IsPlanOf name rows (Import db kind files) =
    (name ≡ codes "import") × HasWord rows (codes "db") db.now × IsFlag (one_of (codes "folded") rows) (is_folded kind)
    × (all_of (codes "FILE") rows ≡ Some (map (λ file. file.now) files))
IsPlanOf name rows (Remove db numbers) =
    (name ≡ codes "remove") × HasWord rows (codes "db") db.now
    × HaveRuns rows numbers
IsPlanOf name rows (Runs db) = (name ≡ codes "runs") × HasWord rows (codes "db") db.now
IsPlanOf name rows (Group db drop group) =
    (name ≡ codes "group") × HasWord rows (codes "db") db.now × IsFlag (one_of (codes "drop") rows) drop
    × HasWord rows (codes "NAME") group.now
IsPlanOf name rows (Join db group number) =
    (name ≡ codes "join") × HasWord rows (codes "db") db.now × HasWord rows (codes "NAME") group.now × HasRun rows number
IsPlanOf name rows (Leave db group number) =
    (name ≡ codes "leave") × HasWord rows (codes "db") db.now × HasWord rows (codes "NAME") group.now × HasRun rows number
IsPlanOf name rows (Baseline db group number) =
    (name ≡ codes "baseline") × HasWord rows (codes "db") db.now × HasWord rows (codes "NAME") group.now × HasRun rows number
IsPlanOf name rows (Groups db) = (name ≡ codes "groups") × HasWord rows (codes "db") db.now
IsPlanOf name rows (By db runs event limit threshold key) =
    (name ≡ codes "by") × HasWord rows (codes "db") db.now × HasSelection rows runs × HasWord rows (codes "event") event.now
    × HasNumber rows (codes "limit") limit × HasNumber rows (codes "threshold") (Some threshold) × HasWord rows (codes "KEY") (key_name key)
IsPlanOf name rows (Inclusive db runs event) =
    (name ≡ codes "inclusive") × HasWord rows (codes "db") db.now × HasSelection rows runs × HasWord rows (codes "event") event.now
IsPlanOf name rows (Callers db runs event object function) =
    (name ≡ codes "callers") × HasWord rows (codes "db") db.now × HasSelection rows runs × HasWord rows (codes "event") event.now
    × HasWord rows (codes "object") object.now × HasWord rows (codes "FUNCTION") function.now
IsPlanOf name rows (Callees db runs event object function) =
    (name ≡ codes "callees") × HasWord rows (codes "db") db.now × HasSelection rows runs × HasWord rows (codes "event") event.now
    × HasWord rows (codes "object") object.now × HasWord rows (codes "FUNCTION") function.now
IsPlanOf name rows (Subtract db runs less event key) =
    (name ≡ codes "subtract") × HasWord rows (codes "db") db.now × HasSelection rows runs × HasLess rows less
    × HasWord rows (codes "event") event.now × HasWord rows (codes "KEY") (key_name key)
IsPlanOf name rows (Verify db runs) = (name ≡ codes "verify") × HasWord rows (codes "db") db.now × HasSelection rows runs
IsPlanOf name rows (plans.Annotate db runs event file source) =
    (name ≡ codes "annotate") × HasWord rows (codes "db") db.now × HasSelection rows runs × HasWord rows (codes "event") event.now
    × HasWord rows (codes "file") file.now × HasWord rows (codes "SOURCE") source.now
IsPlanOf name rows (plans.Csv db runs) = (name ≡ codes "csv") × HasWord rows (codes "db") db.now × HasSelection rows runs
IsPlanOf name rows (plans.Folded db runs) = (name ≡ codes "folded") × HasWord rows (codes "db") db.now × HasSelection rows runs
IsPlanOf name rows (plans.Serve db port requests most_bytes log) =
    (name ≡ codes "serve") × HasWord rows (codes "db") db.now × HasNumber rows (codes "port") (Some port)
    × SaysNumber rows (codes "requests") requests × SaysNumber rows (codes "most-bytes") most_bytes × IsFlag (one_of (codes "log") rows) log

-- what is said of a plan for a subcommand
pub record IsPlanned (name : Text) (rows : List Row) (plan : Plan) : Type 0 where
  pub sound : IsSound plan
  pub of : IsPlanOf name rows plan

-- the same, where there is a subcommand
abbrev pub IsPlannedFor : Option (Text × List Row) → Plan → Type 0
IsPlannedFor None plan = ⊥
IsPlannedFor (Some found) plan = IsPlanned found.0 found.1 plan

-- no value has the property
abbrev pub NoneIs : {T : Type 0} → (T → Type 0) → Type 0
NoneIs {T} P = (x : T) → P x → ⊥

-- no plan at all is one for what was found of a subcommand, by its name and its arguments
abbrev pub HasNoPlan : Option (Text × List Row) → Type 0
HasNoPlan found = NoneIs (IsPlannedFor found)

-- the name is one of these
abbrev pub IsOneOf : List Text → Text → Type 0
IsOneOf [] name = ⊥
IsOneOf (one ∷ others) name = (name ≡ one) ⊎ IsOneOf others name

-- the subcommands that set what a run and a group are to each other, and those that report calls
abbrev pub memberships : List Text
memberships = codes "join" ∷ codes "leave" ∷ codes "baseline" ∷ []

abbrev pub call_reports : List Text
call_reports = codes "callers" ∷ codes "callees" ∷ []

-- those that export, those that report or export, and all whose plan takes no memory and wants the database
abbrev pub exports : List Text
exports = codes "annotate" ∷ codes "csv" ∷ codes "folded" ∷ []

abbrev pub reports : List Text
reports = codes "by" ∷ codes "inclusive" ∷ codes "callers" ∷ codes "callees" ∷ codes "subtract" ∷ codes "verify" ∷ exports

abbrev pub small_plans : List Text
small_plans = codes "runs" ∷ codes "group" ∷ codes "groups" ∷ codes "join" ∷ codes "leave" ∷ codes "baseline" ∷ codes "serve" ∷ reports

-- the plan for the words of a command line, in which its grammar finds no fault
pub record IsPlanFor (words : List Text) (plan : Plan) : Type 0 where
  pub app : App
  pub line : IsCommandLine app
  pub faultless : fault_of app words ≡ []
  pub planned : IsPlannedFor (subcommand_of app words) plan

-- ---- why there is no plan

-- a run and a group were both named, by these options
abbrev pub NamesBoth : Text → Text → List Row → Type 0
NamesBoth run group rows = IsSome (first_of run rows) × IsSome (first_of group rows)

abbrev pub AreBothNamed : Option (Text × List Row) → Type 0
AreBothNamed None = ⊥
AreBothNamed (Some found) = NamesBoth (codes "run") (codes "group") found.1

-- the same of the runs whose costs are taken off
abbrev pub AreBothLessNamed : Option (Text × List Row) → Type 0
AreBothLessNamed None = ⊥
AreBothLessNamed (Some found) = NamesBoth (codes "less-run") (codes "less-group") found.1

-- no run was named beside a group
pub record AreApart (found : Option (Text × List Row)) : Type 0 where
  pub runs : AreBothNamed found → ⊥
  pub less : AreBothLessNamed found → ⊥

-- why nothing is planned for what was found of a subcommand
abbrev pub IsEndFound : Option (Text × List Row) → PlanEnd → Type 0
IsEndFound found Memory = Unit {0}
IsEndFound found RunAndGroup = AreBothNamed found
IsEndFound found LessRunAndLessGroup = (AreBothNamed found → ⊥) × AreBothLessNamed found
IsEndFound found (Clap error) = ⊥

-- what a clap error is to the program
abbrev pub IsEndBy : Error → PlanEnd → Type 0
IsEndBy error Memory = kind_of error ≡ OutOfMemory
IsEndBy error RunAndGroup = ⊥
IsEndBy error LessRunAndLessGroup = ⊥
IsEndBy error (Clap kept) = (kept ≡ error) × (kind_of error ≢ OutOfMemory)

-- by the kinds of faults that words have, and what is found of their subcommand: a fault of the grammar is one of them, and comes
-- first; then a run and a group exclude each other, first those of the report and then those that are taken off; out of memory may
-- come at any time; a clap error for words without a fault comes only where no plan at all is one for them
abbrev pub IsEndOf : Kinds → Option (Text × List Row) → PlanEnd → Type 0
IsEndOf kinds found Memory = Unit {0}
IsEndOf kinds found RunAndGroup = (kinds ≡ []) × AreBothNamed found
IsEndOf kinds found LessRunAndLessGroup = (kinds ≡ []) × (AreBothNamed found → ⊥) × AreBothLessNamed found
IsEndOf kinds found (Clap error) = (kinds ≢ [] → IsAmong (kind_of error) kinds) × (kinds ≡ [] → AreApart found × HasNoPlan found)

-- why there is no plan for the words of a command line
abbrev pub IsEndFor : List Text → PlanEnd → Type 0
IsEndFor words Memory = Unit {0}
IsEndFor words end = (app : App) × IsCommandLine app × IsEndOf (fault_of app words) (subcommand_of app words) end
