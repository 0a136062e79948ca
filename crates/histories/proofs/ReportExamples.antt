-- Reports over histories, computed on worked ones.
use Rattle.std.proofs.Common.{◌≡◌, ℕ, List, [], ◌∷◌, ◌++◌, codes, Option, None, Some, refl}
use Rattle.std.specs.Fmt.{digits}
use Rattle.cg_text.specs.Fields.{line_text}
use Rattle.cg_text.specs.Kinds.{kind_of}
use Rattle.cg_text.specs.Names.{name_of}
use Rattle.cg_text.specs.Numbers.{number_of, amount_of}
use Rattle.cg_text.specs.Readings.{reading_of}
use Rattle.cg_text.specs.Subpositions.{subpos_of}
use Rattle.cg_formulas.specs.EventLines.{event_of, formula_of, term_of}
use Rattle.folded_reader.specs.Lines.{reading_of as stack_of}
use Rattle.report_texts.specs.declared.call_sides.CallSide.{CallSide}
use Rattle.report_texts.specs.declared.call_sides.CallSide.TheVariants as sides
use Rattle.report_texts.specs.declared.cuts.Cut.{Cut}
use Rattle.cost_rows.specs.declared.keys.Key.{Key}
use Rattle.cost_rows.specs.declared.keys.Key.TheVariants as keys
use Rattle.profile_records.specs.declared.kinds.Kind.{Kind}
use Rattle.profile_records.specs.declared.kinds.Kind.TheVariants.{Callgrind, Folded}
use Rattle.byte_io.specs.Outcomes.{Gave}
use Rattle.histories.specs.Formats.{today}
use Rattle.histories.specs.History.{History, Import, Remove, MakeGroup, Join, SetBaseline, Step}
use Rattle.histories.specs.Legal.{expected_of_query}
use Rattle.histories.specs.declared.answers.Answer.{Answer}
use Rattle.histories.specs.declared.answers.Answer.TheVariants.{Run, Done, Text, Refused}
use Rattle.requests.specs.declared.queries.Query.TheVariants.{By, Inclusive, Subtract, Verify}
use Rattle.histories.specs.declared.answers.Refusal.TheVariants as reasons
use Rattle.requests.specs.Plain.{Selection, calls_query}
use Rattle.requests.specs.declared.selections.Selection.TheVariants as selections

-- ---- files and histories

abbrev imported : ℕ → Kind → List ℕ → Step
imported n kind bytes = record { command = Import (today kind) (codes "a") (Gave bytes ∷ Gave [] ∷ []); answer = Run n }

abbrev whole : Cut
whole = record { limit = None; threshold = 100 }

abbrev by : Selection → Key → List ℕ → History → Answer
by selection key event h = expected_of_query h (By selection key event whole)

abbrev functions : List ℕ
functions = codes "# callgrind format\nevents: Instructions\n\nfl=file1.c\nfn=main\n16 20\ncfn=func1\ncalls=1 50\n16 400\ncfi=file2.c\ncfn=func2\ncalls=3 20\n16 400\n\nfn=func1\n51 100\ncfi=file2.c\ncfn=func2\ncalls=2 20\n51 300\n\nfl=file2.c\nfn=func2\n20 700\n"

abbrev ticks : List ℕ
ticks = codes "positions: instr line\nevents: ticks\nfn=func\n0x80001234 90 1\n+3 * 5\n+1 +1 6\n"

abbrev estimated : List ℕ
estimated = codes "event: Est = Ir + 10 L1m + 100 * LLm : Estimate\nevents: Ir L1m LLm\nfn=f\n1 1000 20 3\n"

abbrev estimated_otherwise : List ℕ
estimated_otherwise = codes "event: Est = 2 Ir\nevents: Ir\n1 5\n"

abbrev stated : List ℕ
stated = codes "events: Ir\nsummary: 10\nfn=f\n1 9\ntotals: 8\n"

-- ---- costs by key

-- what is called costs its caller nothing
functions_are_told : by selections.All keys.Function (codes "Instructions") (imported 1 Callgrind functions ∷ [])
    ≡ Text (codes "by function Instructions\n820 100.00% total\n700 85.36% ???:func2\n100 12.19% ???:func1\n20 2.43% ???:main\n0 0.00% (rest)\n")
unfolding digits reading_of line_text kind_of name_of number_of amount_of subpos_of
functions_are_told = refl

-- equal costs in the order of their lines
lines_are_told : by selections.All keys.Line (codes "ticks") (imported 1 Callgrind ticks ∷ [])
    ≡ Text (codes "by line ticks\n12 100.00% total\n6 50.00% ???:90\n6 50.00% ???:91\n0 0.00% (rest)\n")
unfolding digits reading_of line_text kind_of name_of number_of amount_of subpos_of
lines_are_told = refl

-- a derived event by the formula of each run
formulas_are_those_of_runs : by selections.All keys.Function (codes "Est") (imported 1 Callgrind estimated ∷ imported 2 Callgrind estimated_otherwise ∷ [])
    ≡ Text (codes "by function Est\n1510 100.00% total\n1500 99.33% ???:f\n10 0.66% ???:???\n0 0.00% (rest)\n")
unfolding digits reading_of line_text kind_of name_of number_of amount_of subpos_of event_of formula_of term_of
formulas_are_those_of_runs = refl

-- a stack costs its last function
samples_are_told : by selections.All keys.Function (codes "samples") (imported 1 Folded (codes "a;b;a 3\na;b 2\n") ∷ [])
    ≡ Text (codes "by function samples\n5 100.00% total\n3 60.00% ???:a\n2 40.00% ???:b\n0 0.00% (rest)\n")
unfolding digits reading_of line_text kind_of name_of number_of amount_of subpos_of stack_of
samples_are_told = refl

-- ---- which files

abbrev grouped : History
grouped = imported 1 Callgrind ticks ∷ imported 2 Callgrind estimated_otherwise ∷ record { command = MakeGroup (codes "g"); answer = Done } ∷ record { command = Join (codes "g") 2; answer = Done } ∷ []

one_group_is_told : by (selections.Group (codes "g")) keys.Function (codes "Ir") grouped ≡ Text (codes "by function Ir\n5 100.00% total\n5 100.00% ???:???\n0 0.00% (rest)\n")
unfolding digits reading_of line_text kind_of name_of number_of amount_of subpos_of event_of formula_of term_of
one_group_is_told = refl

-- no file that is selected has the event
event_of_another_run : by (selections.Group (codes "g")) keys.Function (codes "ticks") grouped ≡ Refused reasons.NoSuchEvent
unfolding reading_of line_text kind_of name_of number_of amount_of subpos_of event_of formula_of term_of
event_of_another_run = refl

-- the selection is looked at first
no_run_first : by (selections.Run 3) keys.Function (codes "ticks") grouped ≡ Refused reasons.NoSuchRun
no_run_first = refl

no_group_first : by (selections.Group (codes "h")) keys.Function (codes "ticks") grouped ≡ Refused reasons.NoSuchGroup
no_group_first = refl

no_events_at_all : by selections.All keys.Function (codes "Ir") [] ≡ Refused reasons.NoSuchEvent
no_events_at_all = refl

-- ---- verification

sums_are_verified : expected_of_query (imported 1 Callgrind stated ∷ imported 2 Callgrind estimated_otherwise ∷ []) (Verify selections.All) ≡ Text (codes "1 Ir 9 8 differs\n2 Ir 5 none none\n")
unfolding digits reading_of line_text kind_of name_of number_of amount_of subpos_of event_of formula_of term_of
sums_are_verified = refl

-- ---- with all that is called

inclusive_costs_are_told : expected_of_query (imported 1 Callgrind functions ∷ []) (Inclusive selections.All (codes "Instructions"))
    ≡ Text (codes "inclusive Instructions\n820 100.00% total\n820 100.00% ???:main\n700 85.36% ???:func2\n400 48.78% ???:func1\n")
unfolding digits reading_of line_text kind_of name_of number_of amount_of subpos_of
inclusive_costs_are_told = refl

-- a stack counts once for each of its functions
inclusive_samples_are_told : expected_of_query (imported 1 Folded (codes "a;b;a 3\na;b 2\n") ∷ []) (Inclusive selections.All (codes "samples"))
    ≡ Text (codes "inclusive samples\n5 100.00% total\n5 100.00% ???:a\n5 100.00% ???:b\n")
unfolding digits reading_of line_text kind_of name_of number_of amount_of subpos_of stack_of
inclusive_samples_are_told = refl

-- ---- calls

abbrev calls : CallSide → List ℕ → List ℕ → History → Answer
calls side event name h = expected_of_query h (calls_query side selections.All event (codes "???") name)

callers_are_told : calls sides.Callers (codes "Instructions") (codes "func2") (imported 1 Callgrind functions ∷ []) ≡ Text (codes "callers Instructions ???:func2\n700 5 total\n400 3 ???:main\n300 2 ???:func1\n")
unfolding digits reading_of line_text kind_of name_of number_of amount_of subpos_of
callers_are_told = refl

callees_are_told : calls sides.Callees (codes "Instructions") (codes "main") (imported 1 Callgrind functions ∷ []) ≡ Text (codes "callees Instructions ???:main\n800 4 total\n400 1 ???:func1\n400 3 ???:func2\n")
unfolding digits reading_of line_text kind_of name_of number_of amount_of subpos_of
callees_are_told = refl

-- a run without the event has calls that cost nothing
calls_of_another_event : calls sides.Callers (codes "ticks") (codes "func2") (imported 1 Callgrind functions ∷ imported 2 Callgrind ticks ∷ [])
    ≡ Text (codes "callers ticks ???:func2\n0 5 total\n0 2 ???:func1\n0 3 ???:main\n")
unfolding digits reading_of line_text kind_of name_of number_of amount_of subpos_of
calls_of_another_event = refl

-- a frame of a stack is known, and nobody calls it
frames_are_known : calls sides.Callers (codes "samples") (codes "a") (imported 1 Folded (codes "a;b 2\n") ∷ []) ≡ Text (codes "callers samples ???:a\n0 0 total\n")
unfolding digits reading_of line_text kind_of name_of number_of amount_of subpos_of stack_of
frames_are_known = refl

nobody_is_known : calls sides.Callers (codes "Instructions") (codes "nobody") (imported 1 Callgrind functions ∷ []) ≡ Refused reasons.NoSuchName
unfolding reading_of line_text kind_of name_of number_of amount_of subpos_of
nobody_is_known = refl

-- the event is looked at before the name
no_event_first : calls sides.Callers (codes "Ir") (codes "nobody") (imported 1 Callgrind functions ∷ []) ≡ Refused reasons.NoSuchEvent
unfolding reading_of line_text kind_of name_of number_of amount_of subpos_of
no_event_first = refl

-- ---- differences

abbrev fifty_and_fifty : List ℕ
fifty_and_fifty = codes "events: Ir\nfl=a.c\nfn=f\n1 50\n2 30\n3 15\n4 5\n"

abbrev one : List ℕ
one = codes "events: Ir\n1 1\n"

abbrev two_runs : History
two_runs = imported 1 Callgrind fifty_and_fifty ∷ imported 2 Callgrind one ∷ []

abbrev subtracted : Selection → Option Selection → History → Answer
subtracted first second h = expected_of_query h (Subtract first second keys.Function (codes "Ir"))

differences_are_told : subtracted (selections.Run 2) (Some (selections.Run 1)) two_runs ≡ Text (codes "subtract function Ir\n-99 total\n-100 ???:f\n1 ???:???\n")
unfolding digits reading_of line_text kind_of name_of number_of amount_of subpos_of
differences_are_told = refl

no_difference_from_itself : subtracted (selections.Run 1) (Some (selections.Run 1)) two_runs ≡ Text (codes "subtract function Ir\n0 total\n")
unfolding digits reading_of line_text kind_of name_of number_of amount_of subpos_of
no_difference_from_itself = refl

-- the baseline of a group serves as a second selection
abbrev compared_group : List Step → History
compared_group steps = two_runs ++ record { command = MakeGroup (codes "g"); answer = Done } ∷ record { command = Join (codes "g") 2; answer = Done } ∷ steps

abbrev based : Step
based = record { command = SetBaseline (codes "g") 1; answer = Done }

baselines_are_compared : subtracted (selections.Group (codes "g")) None (compared_group (based ∷ [])) ≡ Text (codes "subtract function Ir\n-99 total\n-100 ???:f\n1 ???:???\n")
unfolding digits reading_of line_text kind_of name_of number_of amount_of subpos_of
baselines_are_compared = refl

no_baseline_was_set : subtracted (selections.Group (codes "g")) None (compared_group []) ≡ Refused reasons.NoBaseline
no_baseline_was_set = refl

removed_baseline_is_none : subtracted (selections.Group (codes "g")) None (compared_group (based ∷ record { command = Remove 1; answer = Done } ∷ [])) ≡ Refused reasons.NoBaseline
removed_baseline_is_none = refl

runs_have_no_baseline : subtracted (selections.Run 1) None two_runs ≡ Refused reasons.NoBaseline
runs_have_no_baseline = refl

first_selection_first : subtracted (selections.Run 3) None two_runs ≡ Refused reasons.NoSuchRun
first_selection_first = refl

second_selection_before_the_event : expected_of_query two_runs (Subtract (selections.Run 1) (Some (selections.Group (codes "h"))) keys.Function (codes "Dr")) ≡ Refused reasons.NoSuchGroup
second_selection_before_the_event = refl
