-- What a request asks for.
use Rattle.std.specs.Prelude.{ℕ, Bool, true, false, if◌then◌else◌, List, [], codes, get_or, Option, Some, None, Result, Ok, Err}
use Rattle.percent_encoding.specs.Percent.{percent_decode}
use Rattle.cg_text.specs.Names.{unknown}
use Rattle.cost_rows.specs.declared.keys.Key.{Key}
use Rattle.report_texts.specs.declared.call_sides.CallSide.{CallSide}
use Rattle.report_texts.specs.declared.cuts.Cut.{Cut}
use Rattle.http_exchange.specs.Texts.{parts_of}
use Rattle.http_exchange.specs.Numbers.{number_of, run_bound, limit_bound, threshold_bound, or_zero}
use Rattle.http_exchange.specs.Parameters.{Given}
use Rattle.http_exchange.specs.Parameters as parameters
use Rattle.http_exchange.specs.Failings.{and_then}
use Rattle.http_exchange.specs.declared.failings.Failing.{Failing}
use Rattle.http_exchange.specs.declared.failings.Failing.TheVariants.{BadRequest}
use Rattle.http_exchange.specs.declared.names.Name.{Name}
use Rattle.http_exchange.specs.declared.names.Name.TheVariants as is
use Rattle.http_exchange.specs.declared.places.Place.{Place}
use Rattle.http_exchange.specs.declared.places.Place.TheVariants as at
use Rattle.http_exchange.specs.declared.places.Method.{Method}
use Rattle.http_exchange.specs.declared.places.Method.TheVariants.{Get, Post, Put, Delete}
use Rattle.profile_records.specs.declared.kinds.Kind.{Kind}
use Rattle.profile_records.specs.declared.kinds.Kind.TheVariants as kinds
use Rattle.requests.specs.Plain.{Selection, calls_query}
use Rattle.requests.specs.declared.selections.Selection.TheVariants as selections
use Rattle.requests.specs.declared.queries.Query.TheVariants as queries
use Rattle.requests.specs.declared.commands.Command as commands
use Rattle.requests.specs.declared.commands.Command.TheVariants as asks

-- a command, but for the bytes of its body
abbrev pub PathCommand : Type 0
PathCommand = commands.Command (Unit {0}) (List ℕ)

abbrev pub value_of : Name → Given → Option (List ℕ)
value_of = parameters.value_of

-- a parameter that has to be there: its value is decoded
abbrev pub text_of : Option (List ℕ) → Result (List ℕ) Failing
text_of (Some value) = Ok (percent_decode value)
text_of None = Err BadRequest

abbrev pub or_bad : Option ℕ → Result ℕ Failing
or_bad (Some n) = Ok n
or_bad None = Err BadRequest

-- the number that a value is, decoded
abbrev pub number_in : ℕ → List ℕ → Result ℕ Failing
number_in bound value = or_bad (number_of bound (percent_decode value))

abbrev pub some_run : List ℕ → Result (Option Selection) Failing
some_run value = and_then (number_in run_bound value) (λ n. Ok (Some (selections.Run n)))

-- a run or a group, by the values of two parameters; not both
abbrev pub run_or_group : Option (List ℕ) → Option (List ℕ) → Result (Option Selection) Failing
run_or_group (Some run) (Some group) = Err BadRequest
run_or_group (Some run) None = some_run run
run_or_group None (Some group) = Ok (Some (selections.Group (percent_decode group)))
run_or_group None None = Ok None

abbrev pub or_all : Option Selection → Result Selection Failing
or_all (Some one) = Ok one
or_all None = Ok selections.All

-- which runs
abbrev pub selected_by : Given → Result Selection Failing
selected_by given = and_then (run_or_group (value_of is.Run given) (value_of is.Group given)) or_all

-- the second ones
abbrev pub less_by : Given → Result (Option Selection) Failing
less_by given = run_or_group (value_of is.LessRun given) (value_of is.LessGroup given)

abbrev pub limit_in : Option (List ℕ) → Result (Option ℕ) Failing
limit_in (Some value) = and_then (number_in limit_bound value) (λ n. Ok (Some n))
limit_in None = Ok None

abbrev pub threshold_in : Option (List ℕ) → Result ℕ Failing
threshold_in (Some value) = number_in threshold_bound value
threshold_in None = Ok 100

-- how much of a report
abbrev pub cut_by : Given → Result Cut Failing
cut_by given =
    and_then (limit_in (value_of is.Limit given)) (λ limit.
    and_then (threshold_in (value_of is.Threshold given)) (λ threshold.
    Ok (record { limit = limit; threshold = threshold })))

abbrev pub object_in : Option (List ℕ) → List ℕ
object_in (Some value) = percent_decode value
object_in None = unknown

abbrev pub import_by : Kind → Given → Result PathCommand Failing
import_by kind given = and_then (text_of (value_of is.Label given)) (λ label. Ok (asks.Import kind label tt))

abbrev pub report_by : Key → Given → Result PathCommand Failing
report_by key given =
    and_then (text_of (value_of is.Event given)) (λ event.
    and_then (selected_by given) (λ selection.
    and_then (cut_by given) (λ cut.
    Ok (asks.Ask (queries.By selection key event cut)))))

abbrev pub inclusive_by : Given → Result PathCommand Failing
inclusive_by given =
    and_then (text_of (value_of is.Event given)) (λ event.
    and_then (selected_by given) (λ selection.
    Ok (asks.Ask (queries.Inclusive selection event))))

abbrev pub calls_by : CallSide → Given → Result PathCommand Failing
calls_by side given =
    and_then (text_of (value_of is.Event given)) (λ event.
    and_then (text_of (value_of is.Function given)) (λ function.
    and_then (selected_by given) (λ selection.
    Ok (asks.Ask (calls_query side selection event (object_in (value_of is.Object given)) function)))))

abbrev pub annotate_by : Given → Result PathCommand Failing
annotate_by given =
    and_then (text_of (value_of is.Event given)) (λ event.
    and_then (text_of (value_of is.File given)) (λ file.
    and_then (selected_by given) (λ selection.
    Ok (asks.Annotate selection event file tt))))

abbrev pub subtract_by : Key → Given → Result PathCommand Failing
subtract_by key given =
    and_then (text_of (value_of is.Event given)) (λ event.
    and_then (selected_by given) (λ first.
    and_then (less_by given) (λ second.
    Ok (asks.Ask (queries.Subtract first second key event)))))

-- ---- what stands in a path

-- the part after so many slashes
abbrev pub part : ℕ → List ℕ → List ℕ
part number path = get_or (parts_of 47 path) number []

-- the name of a group is decoded
abbrev pub group_in : List ℕ → List ℕ
group_in path = percent_decode (part 2 path)

-- a run's number is not; what is no such number is run 0, which is never held
abbrev pub run_in : ℕ → List ℕ → ℕ
run_in number path = or_zero (number_of run_bound (part number path))

abbrev pub is_put : Method → Bool
is_put Put = true
is_put Get = false
is_put Post = false
is_put Delete = false

abbrev pub of_group : Method → List ℕ → PathCommand
of_group method path = if is_put method then asks.MakeGroup (group_in path) else asks.DropGroup (group_in path)

abbrev pub of_member : Method → List ℕ → PathCommand
of_member method path = if is_put method then asks.Join (group_in path) (run_in 4 path) else asks.Leave (group_in path) (run_in 4 path)

abbrev pub baseline_of : List ℕ → PathCommand
baseline_of path = asks.SetBaseline (group_in path) (run_in 4 path)

-- ---- all of it

-- what is asked at a place by one of its methods
abbrev pub asked_of : Place → Method → List ℕ → Given → Result PathCommand Failing
asked_of at.CallgrindRuns method path given = import_by kinds.Callgrind given
asked_of at.FoldedRuns method path given = import_by kinds.Folded given
asked_of at.Runs method path given = Ok (asks.Ask queries.Runs)
asked_of at.Groups method path given = Ok (asks.Ask queries.Groups)
asked_of at.OneRun method path given = Ok (asks.Remove (run_in 2 path))
asked_of at.OneGroup method path given = Ok (of_group method path)
asked_of at.Member method path given = Ok (of_member method path)
asked_of at.Baseline method path given = Ok (baseline_of path)
asked_of (at.Report key) method path given = report_by key given
asked_of at.Inclusive method path given = inclusive_by given
asked_of (at.Calls side) method path given = calls_by side given
asked_of at.Annotate method path given = annotate_by given
asked_of (at.Subtract key) method path given = subtract_by key given
asked_of at.Verify method path given = and_then (selected_by given) (λ selection. Ok (asks.Ask (queries.Verify selection)))
asked_of at.Csv method path given = and_then (selected_by given) (λ selection. Ok (asks.Ask (queries.Csv selection)))
asked_of at.Folded method path given = and_then (selected_by given) (λ selection. Ok (asks.Ask (queries.Folded selection)))
