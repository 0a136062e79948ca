-- From the table of the grammar to the command line.
use Rattle.std.proofs.Common.{◌≡◌, ◌<◌, ◌≤◌, ◌+◌, ℕ, List, [], ◌∷◌, ◌++◌, append_assoc, flat_map, fold, get_or, length, map, take, Option, Some, None, IfOk, IsOkAnd, Result, Ok, Err, ap, sym, ◌∙◌}
use Rattle.std.proofs.lemmas.Grind.{flat_map-append, fold-append}
use Rattle.std.proofs.lemmas.List.{append-nil, map-append, map_more, take_all, take_more}
use Rattle.std.specs.Borrow.{Bor}
use Rattle.std.specs.declared.alloc.AllocError.{AllocError}
use Rattle.clap.specs.Words.{App, Rule, Text, app_of, with_rule, with_subcommand}
use Rattle.clap.specs.declared.builder.command.Command.{Command}
use Rattle.clap.specs.declared.builder.value_parser.ValueParser.{ValueParser}
use Rattle.command_line.specs.Grammar.{IsCommandLine, TakesKeys, app_with, program, rows, with_row}
use Rattle.command_line.specs.Table.{app_by, by_default, line_by, row_by, rule_by}
use Rattle.command_line.specs.declared.grammar.Argument.{Argument}
use Rattle.command_line.specs.declared.grammar.Subcommand.{Subcommand}

-- a command that got one more has got the one that was made
pub has_got : (made : Result Command AllocError) (all before more : App) → IsOkAnd made (λ one. all ≡ with_subcommand before (app_of one).top) → IfOk made (λ one. app_of one ≡ more)
    → all ≡ with_subcommand before more.top
has_got (Err end) all before more got is = absurd got
has_got (Ok one) all before more got is = got ∙ ap (λ (a : App). with_subcommand before a.top) is

-- ---- the whole command line

-- one row after others: those of whole tables, and the first i of the next
pub row_more : (keys : ValueParser) (first table : List Subcommand) (i : ℕ) (d : Subcommand) (before after : App) → i < length table
    → before ≡ line_by keys (first ++ take i table) → after ≡ with_subcommand before (app_by keys (get_or table i d)).top → after ≡ line_by keys (first ++ take (i + 1) table)
row_more keys first table i d before after within known is =
    let one = get_or table i d ∷ [] in
    let rows : first ++ take (i + 1) table ≡ (first ++ take i table) ++ one = ap (λ table. first ++ table) (take_more table i d within) ∙ sym (append_assoc first (take i table) one) in
    is ∙ ap (λ (a : App). with_row a (row_by keys (get_or table i d))) known
    ∙ sym (ap (λ rows. line_by keys rows) rows ∙ ap (λ rows. fold with_row program rows) (map-append (row_by keys) (first ++ take i table) one) ∙ fold-append with_row program (map (row_by keys) (first ++ take i table)) (map (row_by keys) one))

-- the rows of some tables
abbrev of_tables : List (Bor (List Subcommand)) → List Subcommand
of_tables tables = flat_map (λ rows. rows.now) tables

-- after all rows of a table, the tables are one more
pub table_more : (keys : ValueParser) (tables : List (Bor (List Subcommand))) (i j : ℕ) (d : Bor (List Subcommand)) (all : App) → i < length tables → length (get_or tables i d).now ≤ j
    → all ≡ line_by keys (of_tables (take i tables) ++ take j (get_or tables i d).now) → all ≡ line_by keys (of_tables (take (i + 1) tables))
table_more keys tables i j d all within whole is =
    let one : List (Bor (List Subcommand)) = get_or tables i d ∷ [] in
    is ∙ ap (λ rows. line_by keys rows)
    (ap (λ rows. of_tables (take i tables) ++ rows) (take_all j (get_or tables i d).now whole ∙ sym (append-nil (get_or tables i d).now)) ∙ sym (ap of_tables (take_more tables i d within) ∙ flat_map-append (λ (rows : Bor (List Subcommand)). rows.now) (take i tables) one))

-- before the first row of a table
pub table_begun : (keys : ValueParser) (first : List Subcommand) (all : App) → all ≡ line_by keys first → all ≡ line_by keys (first ++ [])
table_begun keys first all is = is ∙ ap (λ rows. line_by keys rows) (sym (append-nil first))

pub line_made : (result : Result Command AllocError) (keys : ValueParser) (table : List Subcommand) → TakesKeys keys → map (row_by keys) table ≡ rows keys
    → IfOk result (λ all. app_of all ≡ line_by keys table) → IfOk result (λ all. IsCommandLine (app_of all))
line_made (Ok all) keys table takes are is = (keys, takes, is ∙ ap (λ rows. fold with_row program rows) are)
line_made (Err end) keys table takes are is = tt

-- ---- an argument

-- one argument after others
pub arg_more : (keys : ValueParser) (name : Text) (arguments : List Argument) (i : ℕ) (d : Argument) (before after : App) → i < length arguments
    → before ≡ app_with name (map (rule_by keys) (take i arguments)) → after ≡ with_rule before (rule_by keys (get_or arguments i d)) → after ≡ app_with name (map (rule_by keys) (take (i + 1) arguments))
arg_more keys name arguments i d before after within known is =
    is ∙ ap (λ (a : App). with_rule a (rule_by keys (get_or arguments i d))) known ∙ ap (app_with name) (sym (map_more (rule_by keys) arguments i d within))

-- with a default, where it has one
pub with_default : (default : Option (Bor Text)) (value : Bor Text) (rule known : Rule) → default ≡ Some value → rule ≡ known → record rule { defaults = value.now ∷ [] } ≡ by_default default known
with_default default value rule known is same = rw is (ap (λ (r : Rule). record r { defaults = value.now ∷ [] }) same)

pub without_default : (default : Option (Bor Text)) (rule known : Rule) → default ≡ None → rule ≡ known → rule ≡ by_default default known
without_default default rule known is same = rw is same
