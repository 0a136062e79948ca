-- The command line that the program reads, as clap's definitions see it.
use Rattle.std.specs.Prelude.{◌≡◌, true, pos, List, [], ◌∷◌, ◌++◌, fold, map, Some, codes}
use Rattle.cg_text.specs.Names.{unknown}
use Rattle.cost_rows.specs.Keys.{key_name}
use Rattle.cost_rows.specs.declared.keys.Key.TheVariants.{Object, File, Function, Line, Thread}
use Rattle.clap.specs.Lexer.{usize_max}
use Rattle.clap.specs.Words.{App, Rule, Text, new_app, new_rule, with_subcommand}
use Rattle.clap.specs.Simple.{on_top}
use Rattle.clap.specs.declared.builder.action.ArgAction.TheVariants.{SetTrue}
use Rattle.clap.specs.declared.builder.value_parser.ValueParser.{ValueParser}
use Rattle.clap.specs.declared.builder.value_parser.ValueParser.TheVariants.{Signed, Names}

-- ---- arguments

abbrev pub operand : Text → Rule
operand id = record (new_rule id) { required = true }

-- an option with a value
abbrev pub option : Text → Rule
option id = record (new_rule id) { long = Some id; value_names = 1 }

abbrev pub database : Rule
database = record (option (codes "db")) { required = true }

abbrev pub flag : Text → Rule
flag id = record (new_rule id) { long = Some id; action = Some SetTrue }

-- one or more
abbrev pub several : Rule → Rule
several r = record r { range = Some (record { start_inclusive = 1; end_inclusive = usize_max }) }

abbrev pub run_numbers : ValueParser
run_numbers = Signed (pos 1) (pos 2147483647)

abbrev pub run_number : Rule
run_number = record (operand (codes "N")) { parser = Some run_numbers }

-- an option that names a run
abbrev pub run_option : Text → Rule
run_option id = record (option id) { parser = Some run_numbers }

abbrev pub event : Rule
event = record (option (codes "event")) { required = true }

abbrev pub limit : Rule
limit = record (option (codes "limit")) { parser = Some (Signed (pos 0) (pos 4294967295)) }

-- 100 where it is not given
abbrev pub threshold : Rule
threshold = record (option (codes "threshold")) { parser = Some (Signed (pos 0) (pos 100)); defaults = codes "100" ∷ [] }

-- ??? where it is not given: so an object is called that no file names
abbrev pub object : Rule
object = record (option (codes "object")) { defaults = unknown ∷ [] }

-- the file whose lines are annotated
abbrev pub annotated : Rule
annotated = record (option (codes "file")) { required = true }

-- 8090 where it is not given
abbrev pub port : Rule
port = record (option (codes "port")) { parser = Some (Signed (pos 0) (pos 65535)); defaults = codes "8090" ∷ [] }

-- after how many requests the program ends
abbrev pub requests : Rule
requests = record (option (codes "requests")) { parser = Some (Signed (pos 1) (pos 1000000)); required = true }

-- 256 MiB where it is not given
abbrev pub most_bytes : Rule
most_bytes = record (option (codes "most-bytes")) { parser = Some (Signed (pos 1) (pos 4294967295)); defaults = codes "268435456" ∷ [] }

-- one of the words that a parser takes
abbrev pub key : ValueParser → Rule
key keys = record (operand (codes "KEY")) { parser = Some keys }

-- ---- subcommands

-- the runs that are selected
abbrev pub selection : List Rule
selection = run_option (codes "run") ∷ option (codes "group") ∷ []

-- a group and a run
abbrev pub membership : List Rule
membership = operand (codes "NAME") ∷ run_number ∷ []

-- the calls that have one side at a function
abbrev pub calls : List Rule
calls = database ∷ selection ++ event ∷ object ∷ operand (codes "FUNCTION") ∷ []

-- a subcommand with its arguments
abbrev pub TableRow : Type 0
TableRow = Text × List Rule

-- the subcommands that read files, and the one that lists what was imported
abbrev pub import_rows : List TableRow
import_rows =
    (codes "total", operand (codes "FILE") ∷ [])
    ∷ (codes "import", database ∷ flag (codes "folded") ∷ several (operand (codes "FILE")) ∷ [])
    ∷ (codes "runs", database ∷ [])
    ∷ []

-- those that report costs
abbrev pub cost_rows : ValueParser → List TableRow
cost_rows keys =
    (codes "by", database ∷ selection ++ event ∷ limit ∷ threshold ∷ key keys ∷ [])
    ∷ (codes "inclusive", database ∷ selection ++ event ∷ [])
    ∷ []

-- those that report calls
abbrev pub call_rows : List TableRow
call_rows = (codes "callers", calls) ∷ (codes "callees", calls) ∷ []

-- those that compare costs
abbrev pub comparison_rows : ValueParser → List TableRow
comparison_rows keys =
    (codes "subtract", database ∷ selection ++ run_option (codes "less-run") ∷ option (codes "less-group") ∷ event ∷ key keys ∷ [])
    ∷ (codes "verify", database ∷ selection)
    ∷ []

-- those that write costs out in other forms
abbrev pub export_rows : List TableRow
export_rows =
    (codes "annotate", database ∷ selection ++ event ∷ annotated ∷ operand (codes "SOURCE") ∷ [])
    ∷ (codes "csv", database ∷ selection)
    ∷ (codes "folded", database ∷ selection)
    ∷ []

-- those about groups
abbrev pub group_rows : List TableRow
group_rows =
    (codes "group", database ∷ flag (codes "drop") ∷ operand (codes "NAME") ∷ [])
    ∷ (codes "join", database ∷ membership)
    ∷ (codes "leave", database ∷ membership)
    ∷ (codes "baseline", database ∷ membership)
    ∷ (codes "groups", database ∷ [])
    ∷ []

-- those that remove runs from a store, or serve it
abbrev pub upkeep_rows : List TableRow
upkeep_rows =
    (codes "remove", database ∷ several run_number ∷ [])
    ∷ (codes "serve", database ∷ port ∷ requests ∷ most_bytes ∷ flag (codes "log") ∷ [])
    ∷ []

-- all of them, in the order in which help lists them
abbrev pub rows : ValueParser → List TableRow
rows keys = import_rows ++ cost_rows keys ++ call_rows ++ comparison_rows keys ++ export_rows ++ group_rows ++ upkeep_rows

-- such a subcommand
abbrev pub app_with : Text → List Rule → App
app_with name rules = on_top (λ s. record s { rules = rules }) (new_app name)

-- ---- the program

abbrev pub program : App
program = on_top (λ s. record s { has_version = true; subcommand_required = true }) (new_app (codes "profhouse"))

-- a command with one more subcommand
abbrev pub with_row : App → TableRow → App
with_row a row = with_subcommand a (app_with row.0 row.1).top

abbrev pub command_line : ValueParser → App
command_line keys = fold with_row program (rows keys)

-- ---- the words of keys

abbrev pub key_words : List Text
key_words = map key_name (Object ∷ File ∷ Function ∷ Line ∷ Thread ∷ [])

-- the parser takes the words of keys; where these lie in memory is left open
abbrev pub TakesKeys : ValueParser → Type 0
TakesKeys (Names words) = map (λ word. word.now) words.now ≡ key_words
TakesKeys parser = ⊥

-- this is the command line
abbrev pub IsCommandLine : App → Type 0
IsCommandLine a = (keys : ValueParser) × TakesKeys keys × (a ≡ command_line keys)
