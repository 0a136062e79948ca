-- The definitions on examples.
use Rattle.std.proofs.Common.{◌≡◌, ℕ, List, [], ◌∷◌, codes, Some, None, refl}
use Rattle.std.specs.Fmt.{digits}
use Rattle.cg_formulas.specs.Formulas.{coefficients}
use Rattle.cg_text.specs.Names.{unknown}
use Rattle.profile_records.specs.Records.{Record, Own, Called}
use Rattle.cost_rows.specs.declared.keys.Key.{Key}
use Rattle.cost_rows.specs.declared.keys.Key.TheVariants.{Object, File, Function, Line, Thread}
use Rattle.report_texts.specs.Costs.{EventRecords, costs_by}
use Rattle.report_texts.specs.KeyReports.{report_of}
use Rattle.report_texts.specs.KeyTexts.{key_report_text}
use Rattle.report_texts.specs.Verifying.{verified, verify_text}
use Rattle.report_texts.specs.declared.cuts.Cut.{Cut}

abbrev pub own : List ℕ → List ℕ → ℕ → List ℕ → Record
own file function line costs = Own (record { at = 0; object = unknown; file = file; function = function; line = line; thread = 0; costs = costs })

abbrev pub call : List ℕ → List ℕ → ℕ → List ℕ → Record
call caller callee count costs =
    Called (record { object = unknown; file = codes "file2.c"; function = callee; count = count }) (record { at = 0; object = unknown; file = codes "file1.c"; function = caller; line = 1; thread = 0; costs = costs })

abbrev all : Cut
all = record { limit = None; threshold = 100 }

-- the records of files, by one of their events
abbrev text_by : Key → List ℕ → Cut → List EventRecords → List ℕ
text_by key event cut files = key_report_text event (report_of key cut (costs_by key files))

-- ---- reports by key

-- what the calls cost is no cost of the caller
abbrev pub manual_calls : EventRecords
manual_calls = record {
  coefs = 1 ∷ [];
  records =
      own (codes "file1.c") (codes "main") 16 (20 ∷ [])
      ∷ call (codes "main") (codes "func1") 1 (400 ∷ []) ∷ call (codes "main") (codes "func2") 3 (400 ∷ [])
      ∷ own (codes "file1.c") (codes "func1") 51 (100 ∷ []) ∷ call (codes "func1") (codes "func2") 2 (300 ∷ [])
      ∷ own (codes "file2.c") (codes "func2") 20 (700 ∷ []) ∷ [];
}

by_function_of_manual_calls : text_by Function (codes "Instructions") all (manual_calls ∷ [])
    ≡ codes "by function Instructions\n820 100.00% total\n700 85.36% ???:func2\n100 12.19% ???:func1\n20 2.43% ???:main\n0 0.00% (rest)\n"
unfolding digits
by_function_of_manual_calls = refl

-- two runs of one program
by_file_of_two : text_by File (codes "Instructions") all (manual_calls ∷ manual_calls ∷ [])
    ≡ codes "by file Instructions\n1640 100.00% total\n1400 85.36% file2.c\n240 14.63% file1.c\n0 0.00% (rest)\n"
unfolding digits
by_file_of_two = refl

-- equal costs in the order of the key
abbrev pub instr_line : EventRecords
instr_line = record { coefs = 1 ∷ []; records = own unknown (codes "func") 90 (1 ∷ []) ∷ own unknown (codes "func") 90 (5 ∷ []) ∷ own unknown (codes "func") 91 (6 ∷ []) ∷ [] }

by_line_of_instr_line : text_by Line (codes "ticks") all (instr_line ∷ []) ≡ codes "by line ticks\n12 100.00% total\n6 50.00% ???:90\n6 50.00% ???:91\n0 0.00% (rest)\n"
unfolding digits
by_line_of_instr_line = refl

abbrev pub four_lines : EventRecords
four_lines = record {
  coefs = 1 ∷ [];
  records =
      own (codes "a.c") (codes "f") 1 (50 ∷ []) ∷ own (codes "a.c") (codes "f") 2 (30 ∷ []) ∷ own (codes "a.c") (codes "f") 3 (15 ∷ []) ∷ own (codes "a.c") (codes "f") 4 (5 ∷ []) ∷ [];
}

cut_by_the_limit : text_by Line (codes "Ir") (record { limit = Some 1; threshold = 80 }) (four_lines ∷ []) ≡ codes "by line Ir\n100 100.00% total\n50 50.00% a.c:1\n50 50.00% (rest)\n"
unfolding digits
cut_by_the_limit = refl

-- exactly at the threshold
cut_by_the_threshold : text_by Line (codes "Ir") (record { limit = Some 10; threshold = 80 }) (four_lines ∷ [])
    ≡ codes "by line Ir\n100 100.00% total\n50 50.00% a.c:1\n30 30.00% a.c:2\n20 20.00% (rest)\n"
unfolding digits
cut_by_the_threshold = refl

nothing_shown : text_by Line (codes "Ir") (record { limit = None; threshold = 0 }) (four_lines ∷ []) ≡ codes "by line Ir\n100 100.00% total\n100 100.00% (rest)\n"
unfolding digits
nothing_shown = refl

-- of three threads, which come and go
abbrev in_thread : ℕ → ℕ → ℕ → Record
in_thread line thread cost = Own (record { at = 0; object = unknown; file = unknown; function = codes "f"; line = line; thread = thread; costs = cost ∷ [] })

abbrev pub three_threads : EventRecords
three_threads = record { coefs = 1 ∷ []; records = in_thread 1 0 1 ∷ in_thread 1 2 10 ∷ in_thread 2 1 100 ∷ in_thread 2 2 1000 ∷ [] }

by_thread_of_three : text_by Thread (codes "Ir") all (three_threads ∷ [])
    ≡ codes "by thread Ir\n1111 100.00% total\n1010 90.90% 2\n100 9.00% 1\n1 0.09% 0\n0 0.00% (rest)\n"
unfolding digits
by_thread_of_three = refl

-- other keys tell no threads
by_line_of_three : text_by Line (codes "Ir") all (three_threads ∷ []) ≡ codes "by line Ir\n1111 100.00% total\n1100 99.00% ???:2\n11 0.99% ???:1\n0 0.00% (rest)\n"
unfolding digits
by_line_of_three = refl

-- threads of equal cost by number, those of two runs together
by_thread_of_two : text_by Thread (codes "Ir") all (record { coefs = 1 ∷ []; records = in_thread 1 10 3 ∷ in_thread 2 9 5 ∷ [] } ∷ record { coefs = 1 ∷ []; records = in_thread 3 10 2 ∷ [] } ∷ [])
    ≡ codes "by thread Ir\n10 100.00% total\n5 50.00% 9\n5 50.00% 10\n0 0.00% (rest)\n"
unfolding digits
by_thread_of_two = refl

-- of no cost at all; a record of cost 0 has no row
of_nothing : text_by Object (codes "Ir") all (record { coefs = 1 ∷ []; records = own unknown unknown 1 (0 ∷ []) ∷ [] } ∷ []) ≡ codes "by object Ir\n0 0.00% total\n0 0.00% (rest)\n"
unfolding digits
of_nothing = refl

-- an event that each of two files defines in its own way
abbrev derived_event : EventRecords
derived_event = record {
  coefs =
      coefficients (codes "Ir" ∷ codes "L1m" ∷ codes "LLm" ∷ []) (codes "Est")
      (record { line = 1; name = codes "Est"; terms = (1, codes "Ir") ∷ (10, codes "L1m") ∷ (100, codes "LLm") ∷ [] } ∷ []);
  records = own unknown (codes "f") 1 (1000 ∷ 20 ∷ 3 ∷ []) ∷ [];
}

abbrev other_formula : EventRecords
other_formula = record { coefs = coefficients (codes "Ir" ∷ []) (codes "Est") (record { line = 1; name = codes "Est"; terms = (2, codes "Ir") ∷ [] } ∷ []); records = own unknown unknown 1 (5 ∷ []) ∷ [] }

two_formulas : text_by Function (codes "Est") all (derived_event ∷ other_formula ∷ [])
    ≡ codes "by function Est\n1510 100.00% total\n1500 99.33% ???:f\n10 0.66% ???:???\n0 0.00% (rest)\n"
unfolding digits
two_formulas = refl

-- a line feed in a name
escaped_names : text_by File (codes "I\\r") all (record { coefs = 1 ∷ []; records = own (codes "a\nc") unknown 1 (3 ∷ []) ∷ [] } ∷ [])
    ≡ codes "by file I\\\\r\n3 100.00% total\n3 100.00% a\\x0ac\n0 0.00% (rest)\n"
unfolding digits
escaped_names = refl

-- ---- sums beside stated totals

agreeing : verify_text (verified 1 (codes "Ir" ∷ []) (12 ∷ []) (Some (12 ∷ []))) ≡ codes "1 Ir 12 12 ok\n"
unfolding digits
agreeing = refl

differing : verify_text (verified 1 (codes "Ir" ∷ codes "Dr" ∷ []) (9 ∷ 4 ∷ []) (Some (8 ∷ 4 ∷ []))) ≡ codes "1 Ir 9 8 differs\n1 Dr 4 4 ok\n"
unfolding digits
differing = refl

unstated : verify_text (verified 7 (codes "samples" ∷ []) (5 ∷ []) None) ≡ codes "7 samples 5 none none\n"
unfolding digits
unstated = refl

-- a file without events
without_events : verify_text (verified 1 [] [] None) ≡ []
without_events = refl
