-- The definitions of inclusive costs, callers and callees on examples.
use Rattle.std.proofs.Common.{◌≡◌, ℕ, List, [], ◌∷◌, codes, refl}
use Rattle.std.specs.Fmt.{digits}
use Rattle.cg_text.specs.Names.{unknown}
use Rattle.profile_records.specs.Stacks.{Seen}
use Rattle.report_texts.specs.Calls.{all_calls, calls_by, call_report_of, call_report_text}
use Rattle.report_texts.specs.Costs.{EventRecords}
use Rattle.report_texts.specs.Functions.{function_spot}
use Rattle.report_texts.specs.Inclusive.{inclusive_costs, inclusive_report, inclusive_text}
use Rattle.report_texts.specs.declared.call_sides.CallSide.{CallSide}
use Rattle.report_texts.specs.declared.call_sides.CallSide.TheVariants.{Callers, Callees}
use Rattle.cost_reports.proofs.Examples.{own, call, manual_calls}

-- the records of files and the stacks of others, by one of their events
abbrev inclusive_by : List ℕ → List EventRecords → List Seen → List ℕ
inclusive_by event files seen = inclusive_text event (inclusive_report (inclusive_costs files seen))

abbrev calls_text : CallSide → List ℕ → List ℕ → List EventRecords → List ℕ
calls_text side event function files =
    let f = function_spot unknown function in
    call_report_text event (call_report_of (record { side = side; function = f; sums = calls_by side f (all_calls files) }))

-- ---- inclusive costs

inclusive_of_manual_calls : inclusive_by (codes "Instructions") (manual_calls ∷ []) []
    ≡ codes "inclusive Instructions\n820 100.00% total\n820 100.00% ???:main\n700 85.36% ???:func2\n400 48.78% ???:func1\n"
unfolding digits
inclusive_of_manual_calls = refl

-- what a function costs when it calls itself is in its self cost
abbrev recursion : EventRecords
recursion = record {
  coefs = 1 ∷ [];
  records = own unknown (codes "f") 1 (3 ∷ []) ∷ call (codes "f") (codes "f") 2 (2 ∷ []) ∷ call (codes "main") (codes "f") 1 (3 ∷ []) ∷ [];
}

inclusive_of_recursion : inclusive_by (codes "Ir") (recursion ∷ []) [] ≡ codes "inclusive Ir\n3 100.00% total\n3 100.00% ???:f\n3 100.00% ???:main\n"
unfolding digits
inclusive_of_recursion = refl

-- a function that is only called, and never costs anything, has no row
inclusive_of_the_called : inclusive_by (codes "Ir") (record { coefs = 1 ∷ []; records = call (codes "f") (codes "g") 1 (0 ∷ []) ∷ [] } ∷ []) []
    ≡ codes "inclusive Ir\n0 0.00% total\n"
unfolding digits
inclusive_of_the_called = refl

abbrev seen : List ℕ → ℕ → Seen
seen frames count = record { at = 0; stack = record { frames = frames; count = count } }

-- a frame that stands twice in a stack
inclusive_of_stacks : inclusive_by (codes "samples") [] (seen (codes "a;b;a") 3 ∷ seen (codes "a;b") 2 ∷ [])
    ≡ codes "inclusive samples\n5 100.00% total\n5 100.00% ???:a\n5 100.00% ???:b\n"
unfolding digits
inclusive_of_stacks = refl

-- a frame without a name is that of `???`
inclusive_without_name : inclusive_by (codes "samples") [] (seen (codes "a;;???") 2 ∷ []) ≡ codes "inclusive samples\n2 100.00% total\n2 100.00% ???:???\n2 100.00% ???:a\n"
unfolding digits
inclusive_without_name = refl

-- ---- callers and callees

callers_of_manual_calls : calls_text Callers (codes "Instructions") (codes "func2") (manual_calls ∷ [])
    ≡ codes "callers Instructions ???:func2\n700 5 total\n400 3 ???:main\n300 2 ???:func1\n"
unfolding digits
callers_of_manual_calls = refl

-- equal costs in the order of the functions
callees_of_manual_calls : calls_text Callees (codes "Instructions") (codes "main") (manual_calls ∷ [])
    ≡ codes "callees Instructions ???:main\n800 4 total\n400 1 ???:func1\n400 3 ???:func2\n"
unfolding digits
callees_of_manual_calls = refl

-- calls from two lines of one function
abbrev relative_after_call : EventRecords
relative_after_call = record {
  coefs = 1 ∷ [];
  records = own (codes "a.c") (codes "main") 10 (5 ∷ []) ∷ call (codes "main") (codes "g") 2 (7 ∷ []) ∷ own (codes "a.c") (codes "main") 13 (1 ∷ []) ∷ own (codes "a.c") (codes "g") 13 (4 ∷ []) ∷ [];
}

callers_of_relative_after_call : calls_text Callers (codes "Ir") (codes "g") (relative_after_call ∷ []) ≡ codes "callers Ir ???:g\n7 2 total\n7 2 ???:main\n"
unfolding digits
callers_of_relative_after_call = refl

-- two runs of one program, one without the event: its calls are counted, at no cost
callers_without_the_event : calls_text Callers (codes "Ir") (codes "g") (relative_after_call ∷ record { coefs = []; records = relative_after_call.records } ∷ [])
    ≡ codes "callers Ir ???:g\n7 4 total\n7 4 ???:main\n"
unfolding digits
callers_without_the_event = refl

-- calls of no cost and of no count
callers_of_nothing : calls_text Callers (codes "Ir") (codes "g") (record { coefs = 1 ∷ []; records = call (codes "f") (codes "g") 0 (0 ∷ []) ∷ [] } ∷ [])
    ≡ codes "callers Ir ???:g\n0 0 total\n0 0 ???:f\n"
unfolding digits
callers_of_nothing = refl

no_callers : calls_text Callers (codes "Ir") (codes "main") (manual_calls ∷ []) ≡ codes "callers Ir ???:main\n0 0 total\n"
unfolding digits
no_callers = refl
