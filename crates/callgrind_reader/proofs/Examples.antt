-- The definitions, computed on whole files: the worked ones of examples/, and one for each fault.
use Rattle.std.proofs.Common.{◌≡◌, ℕ, List, Option, [], ◌∷◌, codes, refl, Some, None}
use Rattle.cg_text.specs.Fields.{line_text}
use Rattle.cg_text.specs.Kinds.{kind_of}
use Rattle.cg_text.specs.Names.{name_of}
use Rattle.cg_text.specs.Numbers.{number_of, amount_of}
use Rattle.cg_text.specs.Readings.{reading_of}
use Rattle.cg_text.specs.Subpositions.{subpos_of}
use Rattle.cg_text.specs.declared.faults.Fault.TheVariants.{BadNumber, CallWithoutCost, EventTwice, EventsChanged, IdRedefined, NoEvents, NumberTooLarge, PositionRange, PositionsForm, ShortLine, TooManyCosts, UnknownId, UnknownLine, Version}
use Rattle.profile_records.specs.Records.{Record, Own, Called}
use Rattle.callgrind_reader.specs.IdPlaces.{place_or}
use Rattle.callgrind_reader.specs.NearPlaces.{place_near}
use Rattle.callgrind_reader.specs.Grammars.{First, Second}
use Rattle.callgrind_reader.specs.Files.{fault_by, records_by, records_of_file, fault_of_file, events_of_file, stated_of_file}

-- ---- the worked files: their records, and that they are accepted

records-three_events : records_of_file (codes "# callgrind format\nevents: Cycles Instructions Flops\nfl=file.f\nfn=main\n15 90 14 2\n16 20 12\n")
    ≡ Own (record { at = 5; object = codes "???"; file = codes "file.f"; function = codes "main"; line = 15; thread = 0; costs = 90 ∷ 14 ∷ 2 ∷ [] })
    ∷ Own (record { at = 6; object = codes "???"; file = codes "file.f"; function = codes "main"; line = 16; thread = 0; costs = 20 ∷ 12 ∷ 0 ∷ [] })
    ∷ []
unfolding reading_of line_text kind_of name_of number_of amount_of subpos_of
records-three_events = refl

fault-three_events : fault_of_file (codes "# callgrind format\nevents: Cycles Instructions Flops\nfl=file.f\nfn=main\n15 90 14 2\n16 20 12\n") ≡ None
unfolding reading_of line_text kind_of name_of number_of amount_of subpos_of
fault-three_events = refl

records-manual_calls : records_of_file (codes "# callgrind format\nevents: Instructions\n\nfl=file1.c\nfn=main\n16 20\ncfn=func1\ncalls=1 50\n16 400\ncfi=file2.c\ncfn=func2\ncalls=3 20\n16 400\n\nfn=func1\n51 100\ncfi=file2.c\ncfn=func2\ncalls=2 20\n51 300\n\nfl=file2.c\nfn=func2\n20 700\n")
    ≡ Own (record { at = 6; object = codes "???"; file = codes "file1.c"; function = codes "main"; line = 16; thread = 0; costs = 20 ∷ [] })
    ∷ Called (record { object = codes "???"; file = codes "file1.c"; function = codes "func1"; count = 1 }) (record { at = 9; object = codes "???"; file = codes "file1.c"; function = codes "main"; line = 16; thread = 0; costs = 400 ∷ [] })
    ∷ Called (record { object = codes "???"; file = codes "file2.c"; function = codes "func2"; count = 3 }) (record { at = 13; object = codes "???"; file = codes "file1.c"; function = codes "main"; line = 16; thread = 0; costs = 400 ∷ [] })
    ∷ Own (record { at = 16; object = codes "???"; file = codes "file1.c"; function = codes "func1"; line = 51; thread = 0; costs = 100 ∷ [] })
    ∷ Called (record { object = codes "???"; file = codes "file2.c"; function = codes "func2"; count = 2 }) (record { at = 20; object = codes "???"; file = codes "file1.c"; function = codes "func1"; line = 51; thread = 0; costs = 300 ∷ [] })
    ∷ Own (record { at = 24; object = codes "???"; file = codes "file2.c"; function = codes "func2"; line = 20; thread = 0; costs = 700 ∷ [] })
    ∷ []
unfolding reading_of line_text kind_of name_of number_of amount_of subpos_of
records-manual_calls = refl

fault-manual_calls : fault_of_file (codes "# callgrind format\nevents: Instructions\n\nfl=file1.c\nfn=main\n16 20\ncfn=func1\ncalls=1 50\n16 400\ncfi=file2.c\ncfn=func2\ncalls=3 20\n16 400\n\nfn=func1\n51 100\ncfi=file2.c\ncfn=func2\ncalls=2 20\n51 300\n\nfl=file2.c\nfn=func2\n20 700\n") ≡ None
unfolding reading_of line_text kind_of name_of number_of amount_of subpos_of
fault-manual_calls = refl

records-manual_compressed : records_of_file (codes "# callgrind format\nevents: Instructions\n\nfl=(1) file1.c\nfl=(2) file2.c\nfn=(1) main\nfn=(2) func1\nfn=(3) func2\n\nfl=(1)\nfn=(1)\n16 20\ncfn=(2)\ncalls=1 50\n16 400\ncfi=(2)\ncfn=(3)\ncalls=3 20\n16 400\n\nfn=(2)\n51 100\ncfi=(2)\ncfn=(3)\ncalls=2 20\n51 300\n\nfl=(2)\nfn=(3)\n20 700\n")
    ≡ Own (record { at = 12; object = codes "???"; file = codes "file1.c"; function = codes "main"; line = 16; thread = 0; costs = 20 ∷ [] })
    ∷ Called (record { object = codes "???"; file = codes "file1.c"; function = codes "func1"; count = 1 }) (record { at = 15; object = codes "???"; file = codes "file1.c"; function = codes "main"; line = 16; thread = 0; costs = 400 ∷ [] })
    ∷ Called (record { object = codes "???"; file = codes "file2.c"; function = codes "func2"; count = 3 }) (record { at = 19; object = codes "???"; file = codes "file1.c"; function = codes "main"; line = 16; thread = 0; costs = 400 ∷ [] })
    ∷ Own (record { at = 22; object = codes "???"; file = codes "file1.c"; function = codes "func1"; line = 51; thread = 0; costs = 100 ∷ [] })
    ∷ Called (record { object = codes "???"; file = codes "file2.c"; function = codes "func2"; count = 2 }) (record { at = 26; object = codes "???"; file = codes "file1.c"; function = codes "func1"; line = 51; thread = 0; costs = 300 ∷ [] })
    ∷ Own (record { at = 30; object = codes "???"; file = codes "file2.c"; function = codes "func2"; line = 20; thread = 0; costs = 700 ∷ [] })
    ∷ []
unfolding reading_of line_text kind_of name_of number_of amount_of subpos_of
records-manual_compressed = refl

fault-manual_compressed : fault_of_file (codes "# callgrind format\nevents: Instructions\n\nfl=(1) file1.c\nfl=(2) file2.c\nfn=(1) main\nfn=(2) func1\nfn=(3) func2\n\nfl=(1)\nfn=(1)\n16 20\ncfn=(2)\ncalls=1 50\n16 400\ncfi=(2)\ncfn=(3)\ncalls=3 20\n16 400\n\nfn=(2)\n51 100\ncfi=(2)\ncfn=(3)\ncalls=2 20\n51 300\n\nfl=(2)\nfn=(3)\n20 700\n") ≡ None
unfolding reading_of line_text kind_of name_of number_of amount_of subpos_of
fault-manual_compressed = refl

records-instr_line : records_of_file (codes "positions: instr line\nevents: ticks\nfn=func\n0x80001234 90 1\n+3 * 5\n+1 +1 6\n")
    ≡ Own (record { at = 4; object = codes "???"; file = codes "???"; function = codes "func"; line = 90; thread = 0; costs = 1 ∷ [] })
    ∷ Own (record { at = 5; object = codes "???"; file = codes "???"; function = codes "func"; line = 90; thread = 0; costs = 5 ∷ [] })
    ∷ Own (record { at = 6; object = codes "???"; file = codes "???"; function = codes "func"; line = 91; thread = 0; costs = 6 ∷ [] })
    ∷ []
unfolding reading_of line_text kind_of name_of number_of amount_of subpos_of
records-instr_line = refl

fault-instr_line : fault_of_file (codes "positions: instr line\nevents: ticks\nfn=func\n0x80001234 90 1\n+3 * 5\n+1 +1 6\n") ≡ None
unfolding reading_of line_text kind_of name_of number_of amount_of subpos_of
fault-instr_line = refl

records-three_name_spaces : records_of_file (codes "events: Ir\nob=(1) x.so\nfl=(1) a.c\nfn=(1) f\n1 2\nob=(1)\nfl=(1)\nfn=(1)\n+1 3\n")
    ≡ Own (record { at = 5; object = codes "x.so"; file = codes "a.c"; function = codes "f"; line = 1; thread = 0; costs = 2 ∷ [] })
    ∷ Own (record { at = 9; object = codes "x.so"; file = codes "a.c"; function = codes "f"; line = 2; thread = 0; costs = 3 ∷ [] })
    ∷ []
unfolding reading_of line_text kind_of name_of number_of amount_of subpos_of
records-three_name_spaces = refl

fault-three_name_spaces : fault_of_file (codes "events: Ir\nob=(1) x.so\nfl=(1) a.c\nfn=(1) f\n1 2\nob=(1)\nfl=(1)\nfn=(1)\n+1 3\n") ≡ None
unfolding reading_of line_text kind_of name_of number_of amount_of subpos_of
fault-three_name_spaces = refl

records-relative_after_call : records_of_file (codes "events: Ir\nfl=a.c\nfn=main\n10 5\ncfn=(4) g\ncalls=2 30\n+2 7\n+1 1\nfn=(4)\n* 4\n")
    ≡ Own (record { at = 4; object = codes "???"; file = codes "a.c"; function = codes "main"; line = 10; thread = 0; costs = 5 ∷ [] })
    ∷ Called (record { object = codes "???"; file = codes "a.c"; function = codes "g"; count = 2 }) (record { at = 7; object = codes "???"; file = codes "a.c"; function = codes "main"; line = 12; thread = 0; costs = 7 ∷ [] })
    ∷ Own (record { at = 8; object = codes "???"; file = codes "a.c"; function = codes "main"; line = 13; thread = 0; costs = 1 ∷ [] })
    ∷ Own (record { at = 10; object = codes "???"; file = codes "a.c"; function = codes "g"; line = 13; thread = 0; costs = 4 ∷ [] })
    ∷ []
unfolding reading_of line_text kind_of name_of number_of amount_of subpos_of
records-relative_after_call = refl

fault-relative_after_call : fault_of_file (codes "events: Ir\nfl=a.c\nfn=main\n10 5\ncfn=(4) g\ncalls=2 30\n+2 7\n+1 1\nfn=(4)\n* 4\n") ≡ None
unfolding reading_of line_text kind_of name_of number_of amount_of subpos_of
fault-relative_after_call = refl

records-below_main : records_of_file (codes "events: Ir\nfn=(below main)\n1 1\nfn=(7) (below main)\n1 2\nfn=(7)\n1 4\n")
    ≡ Own (record { at = 3; object = codes "???"; file = codes "???"; function = codes "(below main)"; line = 1; thread = 0; costs = 1 ∷ [] })
    ∷ Own (record { at = 5; object = codes "???"; file = codes "???"; function = codes "(below main)"; line = 1; thread = 0; costs = 2 ∷ [] })
    ∷ Own (record { at = 7; object = codes "???"; file = codes "???"; function = codes "(below main)"; line = 1; thread = 0; costs = 4 ∷ [] })
    ∷ []
unfolding reading_of line_text kind_of name_of number_of amount_of subpos_of
records-below_main = refl

fault-below_main : fault_of_file (codes "events: Ir\nfn=(below main)\n1 1\nfn=(7) (below main)\n1 2\nfn=(7)\n1 4\n") ≡ None
unfolding reading_of line_text kind_of name_of number_of amount_of subpos_of
fault-below_main = refl

records-four_lines : records_of_file (codes "events: Ir\nfl=a.c\nfn=f\n1 50\n2 30\n3 15\n4 5\n")
    ≡ Own (record { at = 4; object = codes "???"; file = codes "a.c"; function = codes "f"; line = 1; thread = 0; costs = 50 ∷ [] })
    ∷ Own (record { at = 5; object = codes "???"; file = codes "a.c"; function = codes "f"; line = 2; thread = 0; costs = 30 ∷ [] })
    ∷ Own (record { at = 6; object = codes "???"; file = codes "a.c"; function = codes "f"; line = 3; thread = 0; costs = 15 ∷ [] })
    ∷ Own (record { at = 7; object = codes "???"; file = codes "a.c"; function = codes "f"; line = 4; thread = 0; costs = 5 ∷ [] })
    ∷ []
unfolding reading_of line_text kind_of name_of number_of amount_of subpos_of
records-four_lines = refl

fault-four_lines : fault_of_file (codes "events: Ir\nfl=a.c\nfn=f\n1 50\n2 30\n3 15\n4 5\n") ≡ None
unfolding reading_of line_text kind_of name_of number_of amount_of subpos_of
fault-four_lines = refl

records-line_zero : records_of_file (codes "events: Ir\nfl=a.c\nfn=f\n0 1\n1 2\n9 4\n")
    ≡ Own (record { at = 4; object = codes "???"; file = codes "a.c"; function = codes "f"; line = 0; thread = 0; costs = 1 ∷ [] })
    ∷ Own (record { at = 5; object = codes "???"; file = codes "a.c"; function = codes "f"; line = 1; thread = 0; costs = 2 ∷ [] })
    ∷ Own (record { at = 6; object = codes "???"; file = codes "a.c"; function = codes "f"; line = 9; thread = 0; costs = 4 ∷ [] })
    ∷ []
unfolding reading_of line_text kind_of name_of number_of amount_of subpos_of
records-line_zero = refl

fault-line_zero : fault_of_file (codes "events: Ir\nfl=a.c\nfn=f\n0 1\n1 2\n9 4\n") ≡ None
unfolding reading_of line_text kind_of name_of number_of amount_of subpos_of
fault-line_zero = refl

records-callgrind_layout : records_of_file (codes "# callgrind format\nversion: 1\ncreator: callgrind-3.22.0\npid: 4242\ncmd:  ./a.out\npart: 1\n\n\ndesc: I1 cache: \ndesc: D1 cache: \ndesc: LL cache: \n\ndesc: Timerange: Basic block 0 - 11\ndesc: Trigger: Program termination\n\npositions: line\nevents: Ir\nsummary: 12\n\n\nob=(1) /tmp/a.out\nfl=(1) a.c\nfn=(1) main\n3 2\n+2 1\ncfn=(2) g\ncalls=1 +4 \n* 6\nfi=(2) a.h\n-1 2\nfe=(1)\n+3 1\n\nfn=(2)\n9 6\n\ntotals: 12\n")
    ≡ Own (record { at = 24; object = codes "/tmp/a.out"; file = codes "a.c"; function = codes "main"; line = 3; thread = 0; costs = 2 ∷ [] })
    ∷ Own (record { at = 25; object = codes "/tmp/a.out"; file = codes "a.c"; function = codes "main"; line = 5; thread = 0; costs = 1 ∷ [] })
    ∷ Called (record { object = codes "/tmp/a.out"; file = codes "a.c"; function = codes "g"; count = 1 }) (record { at = 28; object = codes "/tmp/a.out"; file = codes "a.c"; function = codes "main"; line = 5; thread = 0; costs = 6 ∷ [] })
    ∷ Own (record { at = 30; object = codes "/tmp/a.out"; file = codes "a.h"; function = codes "main"; line = 4; thread = 0; costs = 2 ∷ [] })
    ∷ Own (record { at = 32; object = codes "/tmp/a.out"; file = codes "a.c"; function = codes "main"; line = 7; thread = 0; costs = 1 ∷ [] })
    ∷ Own (record { at = 35; object = codes "/tmp/a.out"; file = codes "a.c"; function = codes "g"; line = 9; thread = 0; costs = 6 ∷ [] })
    ∷ []
unfolding reading_of line_text kind_of name_of number_of amount_of subpos_of
records-callgrind_layout = refl

fault-callgrind_layout : fault_of_file (codes "# callgrind format\nversion: 1\ncreator: callgrind-3.22.0\npid: 4242\ncmd:  ./a.out\npart: 1\n\n\ndesc: I1 cache: \ndesc: D1 cache: \ndesc: LL cache: \n\ndesc: Timerange: Basic block 0 - 11\ndesc: Trigger: Program termination\n\npositions: line\nevents: Ir\nsummary: 12\n\n\nob=(1) /tmp/a.out\nfl=(1) a.c\nfn=(1) main\n3 2\n+2 1\ncfn=(2) g\ncalls=1 +4 \n* 6\nfi=(2) a.h\n-1 2\nfe=(1)\n+3 1\n\nfn=(2)\n9 6\n\ntotals: 12\n") ≡ None
unfolding reading_of line_text kind_of name_of number_of amount_of subpos_of
fault-callgrind_layout = refl

records-jumps : records_of_file (codes "events: Ir\nfn=f\n5 1\njfi=(3) x.h\njfn=(4) k\njcnd=3/4 9\n5\nfi=(3)\n+1 2\n")
    ≡ Own (record { at = 3; object = codes "???"; file = codes "???"; function = codes "f"; line = 5; thread = 0; costs = 1 ∷ [] })
    ∷ Own (record { at = 7; object = codes "???"; file = codes "???"; function = codes "f"; line = 5; thread = 0; costs = 0 ∷ [] })
    ∷ Own (record { at = 9; object = codes "???"; file = codes "x.h"; function = codes "f"; line = 6; thread = 0; costs = 2 ∷ [] })
    ∷ []
unfolding reading_of line_text kind_of name_of number_of amount_of subpos_of
records-jumps = refl

fault-jumps : fault_of_file (codes "events: Ir\nfn=f\n5 1\njfi=(3) x.h\njfn=(4) k\njcnd=3/4 9\n5\nfi=(3)\n+1 2\n") ≡ None
unfolding reading_of line_text kind_of name_of number_of amount_of subpos_of
fault-jumps = refl

-- ---- their events and stated totals

stated-three_events : stated_of_file (codes "# callgrind format\nevents: Cycles Instructions Flops\nfl=file.f\nfn=main\n15 90 14 2\n16 20 12\n") ≡ None
unfolding reading_of line_text kind_of name_of number_of amount_of subpos_of
stated-three_events = refl

events-three_events : events_of_file (codes "# callgrind format\nevents: Cycles Instructions Flops\nfl=file.f\nfn=main\n15 90 14 2\n16 20 12\n") ≡ codes "Cycles" ∷ codes "Instructions" ∷ codes "Flops" ∷ []
unfolding reading_of line_text kind_of name_of number_of amount_of subpos_of
events-three_events = refl

stated-callgrind_layout : stated_of_file (codes "# callgrind format\nversion: 1\ncreator: callgrind-3.22.0\npid: 4242\ncmd:  ./a.out\npart: 1\n\n\ndesc: I1 cache: \ndesc: D1 cache: \ndesc: LL cache: \n\ndesc: Timerange: Basic block 0 - 11\ndesc: Trigger: Program termination\n\npositions: line\nevents: Ir\nsummary: 12\n\n\nob=(1) /tmp/a.out\nfl=(1) a.c\nfn=(1) main\n3 2\n+2 1\ncfn=(2) g\ncalls=1 +4 \n* 6\nfi=(2) a.h\n-1 2\nfe=(1)\n+3 1\n\nfn=(2)\n9 6\n\ntotals: 12\n") ≡ Some (12 ∷ [])
unfolding reading_of line_text kind_of name_of number_of amount_of subpos_of
stated-callgrind_layout = refl

events-callgrind_layout : events_of_file (codes "# callgrind format\nversion: 1\ncreator: callgrind-3.22.0\npid: 4242\ncmd:  ./a.out\npart: 1\n\n\ndesc: I1 cache: \ndesc: D1 cache: \ndesc: LL cache: \n\ndesc: Timerange: Basic block 0 - 11\ndesc: Trigger: Program termination\n\npositions: line\nevents: Ir\nsummary: 12\n\n\nob=(1) /tmp/a.out\nfl=(1) a.c\nfn=(1) main\n3 2\n+2 1\ncfn=(2) g\ncalls=1 +4 \n* 6\nfi=(2) a.h\n-1 2\nfe=(1)\n+3 1\n\nfn=(2)\n9 6\n\ntotals: 12\n") ≡ codes "Ir" ∷ []
unfolding reading_of line_text kind_of name_of number_of amount_of subpos_of
events-callgrind_layout = refl

stated-no_file : stated_of_file (codes "") ≡ None
unfolding reading_of line_text kind_of name_of number_of amount_of subpos_of
stated-no_file = refl

events-no_file : events_of_file (codes "") ≡ []
unfolding reading_of line_text kind_of name_of number_of amount_of subpos_of
events-no_file = refl

stated-totals_over_summary : stated_of_file (codes "events: Ir\nsummary: 10\nfn=f\n1 9\ntotals: 8\n") ≡ Some (8 ∷ [])
unfolding reading_of line_text kind_of name_of number_of amount_of subpos_of
stated-totals_over_summary = refl

events-totals_over_summary : events_of_file (codes "events: Ir\nsummary: 10\nfn=f\n1 9\ntotals: 8\n") ≡ codes "Ir" ∷ []
unfolding reading_of line_text kind_of name_of number_of amount_of subpos_of
events-totals_over_summary = refl

stated-summary_before_events : stated_of_file (codes "summary: 3 4 5\nsummary: 1\nevents: Ir Dr\n") ≡ Some (4 ∷ 4 ∷ [])
unfolding reading_of line_text kind_of name_of number_of amount_of subpos_of
stated-summary_before_events = refl

events-summary_before_events : events_of_file (codes "summary: 3 4 5\nsummary: 1\nevents: Ir Dr\n") ≡ codes "Ir" ∷ codes "Dr" ∷ []
unfolding reading_of line_text kind_of name_of number_of amount_of subpos_of
events-summary_before_events = refl

stated-totals_short : stated_of_file (codes "events: Ir Dr\ntotals: 7\n") ≡ Some (7 ∷ 0 ∷ [])
unfolding reading_of line_text kind_of name_of number_of amount_of subpos_of
stated-totals_short = refl

events-totals_short : events_of_file (codes "events: Ir Dr\ntotals: 7\n") ≡ codes "Ir" ∷ codes "Dr" ∷ []
unfolding reading_of line_text kind_of name_of number_of amount_of subpos_of
events-totals_short = refl

-- ---- places of identifiers

-- identifiers 0 to 3, of which 1 and 3 have places
abbrev near : List (Option ℕ)
near = None ∷ Some 1 ∷ None ∷ Some 0 ∷ []

place-near : place_near near 3 ≡ Some 0
place-near = refl

place-left_out : place_near near 2 ≡ None
place-left_out = refl

place-far : place_near near 70000 ≡ None
place-far = refl

place-in_the_list : place_or (place_near near 1) (Some 7) ≡ Some 1
place-in_the_list = refl

place-in_the_map : place_or (place_near near 70000) (Some 7) ≡ Some 7
place-in_the_map = refl

-- ---- calls

records-called_names_forgotten : records_of_file (codes "events: Ir\nfn=f\ncob=x\ncfn=g\ncalls=1 1\n1 5\ncfn=h\ncalls=1 1\n2 6\n")
    ≡ Called (record { object = codes "x"; file = codes "???"; function = codes "g"; count = 1 }) (record { at = 6; object = codes "???"; file = codes "???"; function = codes "f"; line = 1; thread = 0; costs = 5 ∷ [] })
    ∷ Called (record { object = codes "???"; file = codes "???"; function = codes "h"; count = 1 }) (record { at = 9; object = codes "???"; file = codes "???"; function = codes "f"; line = 2; thread = 0; costs = 6 ∷ [] })
    ∷ []
unfolding reading_of line_text kind_of name_of number_of amount_of subpos_of
records-called_names_forgotten = refl

fault-called_names_forgotten : fault_of_file (codes "events: Ir\nfn=f\ncob=x\ncfn=g\ncalls=1 1\n1 5\ncfn=h\ncalls=1 1\n2 6\n") ≡ None
unfolding reading_of line_text kind_of name_of number_of amount_of subpos_of
fault-called_names_forgotten = refl

records-called_name_kept_over_cost_line : records_of_file (codes "events: Ir\nfn=f\ncfn=g\n1 5\ncalls=1 1\n2 6\n")
    ≡ Own (record { at = 4; object = codes "???"; file = codes "???"; function = codes "f"; line = 1; thread = 0; costs = 5 ∷ [] })
    ∷ Called (record { object = codes "???"; file = codes "???"; function = codes "g"; count = 1 }) (record { at = 6; object = codes "???"; file = codes "???"; function = codes "f"; line = 2; thread = 0; costs = 6 ∷ [] })
    ∷ []
unfolding reading_of line_text kind_of name_of number_of amount_of subpos_of
records-called_name_kept_over_cost_line = refl

-- ---- faults, and their order

fault-call_at_the_end : fault_of_file (codes "events: Ir\nfn=f\ncalls=1 50\n") ≡ Some (CallWithoutCost, 3)
unfolding reading_of line_text kind_of name_of number_of amount_of subpos_of
fault-call_at_the_end = refl

fault-call_before_name : fault_of_file (codes "events: Ir\nfn=f\ncalls=1 50\n\n# x\nfn=(9)\n1 1\n") ≡ Some (CallWithoutCost, 3)
unfolding reading_of line_text kind_of name_of number_of amount_of subpos_of
fault-call_before_name = refl

fault-call_before_unknown : fault_of_file (codes "events: Ir\ncalls=1 50\nx\n") ≡ Some (CallWithoutCost, 2)
unfolding reading_of line_text kind_of name_of number_of amount_of subpos_of
fault-call_before_unknown = refl

fault-call_before_call : fault_of_file (codes "events: Ir\ncalls=1 50\ncalls=1 50\n1 1\n") ≡ Some (CallWithoutCost, 2)
unfolding reading_of line_text kind_of name_of number_of amount_of subpos_of
fault-call_before_call = refl

fault-negative_position : fault_of_file (codes "events: Ir\nfn=f\n-5 1\n") ≡ Some (PositionRange, 3)
unfolding reading_of line_text kind_of name_of number_of amount_of subpos_of
fault-negative_position = refl

fault-unknown_identifier : fault_of_file (codes "events: Ir\nfn=(9)\n") ≡ Some (UnknownId, 2)
unfolding reading_of line_text kind_of name_of number_of amount_of subpos_of
fault-unknown_identifier = refl

fault-other_space : fault_of_file (codes "events: Ir\nfl=(1) a\nfn=(1)\n") ≡ Some (UnknownId, 3)
unfolding reading_of line_text kind_of name_of number_of amount_of subpos_of
fault-other_space = refl

fault-too_many_costs : fault_of_file (codes "events: Ir\n1 2 3\n") ≡ Some (TooManyCosts, 2)
unfolding reading_of line_text kind_of name_of number_of amount_of subpos_of
fault-too_many_costs = refl

fault-too_many_before_bad : fault_of_file (codes "events: Ir\nx 2 3\n1 y z\n") ≡ Some (UnknownLine, 2)
unfolding reading_of line_text kind_of name_of number_of amount_of subpos_of
fault-too_many_before_bad = refl

fault-too_many_costs_first : fault_of_file (codes "events: Ir\n+x 2 3\n") ≡ Some (TooManyCosts, 2)
unfolding reading_of line_text kind_of name_of number_of amount_of subpos_of
fault-too_many_costs_first = refl

fault-no_events : fault_of_file (codes "1 1\n") ≡ Some (NoEvents, 1)
unfolding reading_of line_text kind_of name_of number_of amount_of subpos_of
fault-no_events = refl

fault-no_events_before_short : fault_of_file (codes "positions: instr line\n+1\n") ≡ Some (NoEvents, 2)
unfolding reading_of line_text kind_of name_of number_of amount_of subpos_of
fault-no_events_before_short = refl

fault-short : fault_of_file (codes "positions: instr line\nevents: Ir\n0x10\n") ≡ Some (ShortLine, 3)
unfolding reading_of line_text kind_of name_of number_of amount_of subpos_of
fault-short = refl

fault-bad_line : fault_of_file (codes "events: Ir\n+x y\n") ≡ Some (BadNumber, 2)
unfolding reading_of line_text kind_of name_of number_of amount_of subpos_of
fault-bad_line = refl

fault-bad_cost : fault_of_file (codes "events: Ir\n1 -5\n") ≡ Some (BadNumber, 2)
unfolding reading_of line_text kind_of name_of number_of amount_of subpos_of
fault-bad_cost = refl

fault-large_cost : fault_of_file (codes "events: Ir\n1 9223372036854775808\n") ≡ Some (NumberTooLarge, 2)
unfolding reading_of line_text kind_of name_of number_of amount_of subpos_of
fault-large_cost = refl

fault-large_number : fault_of_file (codes "events: Ir\n18446744073709551616 1\n") ≡ Some (NumberTooLarge, 2)
unfolding reading_of line_text kind_of name_of number_of amount_of subpos_of
fault-large_number = refl

fault-line_out_of_range : fault_of_file (codes "events: Ir\n9223372036854775808 1\n") ≡ Some (PositionRange, 2)
unfolding reading_of line_text kind_of name_of number_of amount_of subpos_of
fault-line_out_of_range = refl

fault-address_in_range : fault_of_file (codes "positions: instr\nevents: Ir\n18446744073709551615 1\n") ≡ None
unfolding reading_of line_text kind_of name_of number_of amount_of subpos_of
fault-address_in_range = refl

fault-address_out_of_range : fault_of_file (codes "positions: instr\nevents: Ir\n18446744073709551615 1\n+1 1\n") ≡ Some (PositionRange, 4)
unfolding reading_of line_text kind_of name_of number_of amount_of subpos_of
fault-address_out_of_range = refl

fault-range_before_bad_cost : fault_of_file (codes "events: Ir\n-1 x\n") ≡ Some (PositionRange, 2)
unfolding reading_of line_text kind_of name_of number_of amount_of subpos_of
fault-range_before_bad_cost = refl

fault-version_two : fault_of_file (codes "version: 2\n") ≡ Some (Version, 1)
unfolding reading_of line_text kind_of name_of number_of amount_of subpos_of
fault-version_two = refl

fault-version_word : fault_of_file (codes "version: x\n") ≡ Some (Version, 1)
unfolding reading_of line_text kind_of name_of number_of amount_of subpos_of
fault-version_word = refl

fault-version_hexadecimal : fault_of_file (codes "version: 0x1\n") ≡ None
unfolding reading_of line_text kind_of name_of number_of amount_of subpos_of
fault-version_hexadecimal = refl

fault-version_twice : fault_of_file (codes "version: 1 1\n") ≡ Some (Version, 1)
unfolding reading_of line_text kind_of name_of number_of amount_of subpos_of
fault-version_twice = refl

fault-positions_bb : fault_of_file (codes "positions: bb\n") ≡ Some (PositionsForm, 1)
unfolding reading_of line_text kind_of name_of number_of amount_of subpos_of
fault-positions_bb = refl

fault-positions_empty : fault_of_file (codes "positions:\n") ≡ Some (PositionsForm, 1)
unfolding reading_of line_text kind_of name_of number_of amount_of subpos_of
fault-positions_empty = refl

fault-positions_order : fault_of_file (codes "positions: line instr\n") ≡ Some (PositionsForm, 1)
unfolding reading_of line_text kind_of name_of number_of amount_of subpos_of
fault-positions_order = refl

fault-positions_late : fault_of_file (codes "events: Ir\n1\npositions: instr line\n") ≡ Some (PositionsForm, 3)
unfolding reading_of line_text kind_of name_of number_of amount_of subpos_of
fault-positions_late = refl

fault-positions_late_but_line : fault_of_file (codes "events: Ir\n1\npositions: line\n1 2\n") ≡ None
unfolding reading_of line_text kind_of name_of number_of amount_of subpos_of
fault-positions_late_but_line = refl

fault-positions_after_calls : fault_of_file (codes "events: Ir\ncalls=1 1\n1 1\npositions: instr\n") ≡ Some (PositionsForm, 4)
unfolding reading_of line_text kind_of name_of number_of amount_of subpos_of
fault-positions_after_calls = refl

fault-positions_changed : fault_of_file (codes "positions: instr line\npositions: line\n") ≡ Some (PositionsForm, 2)
unfolding reading_of line_text kind_of name_of number_of amount_of subpos_of
fault-positions_changed = refl

fault-events_none : fault_of_file (codes "events: \n") ≡ Some (NoEvents, 1)
unfolding reading_of line_text kind_of name_of number_of amount_of subpos_of
fault-events_none = refl

fault-events_twice : fault_of_file (codes "events: Ir Ir\n") ≡ Some (EventTwice, 1)
unfolding reading_of line_text kind_of name_of number_of amount_of subpos_of
fault-events_twice = refl

fault-events_changed : fault_of_file (codes "events: Ir Dr\nevents: Dr Ir\n") ≡ Some (EventsChanged, 2)
unfolding reading_of line_text kind_of name_of number_of amount_of subpos_of
fault-events_changed = refl

fault-events_again : fault_of_file (codes "events: Ir Dr\nevents: Ir  Dr\n") ≡ None
unfolding reading_of line_text kind_of name_of number_of amount_of subpos_of
fault-events_again = refl

fault-events_twice_before_changed : fault_of_file (codes "events: Ir\nevents: Dr Dr\n") ≡ Some (EventTwice, 2)
unfolding reading_of line_text kind_of name_of number_of amount_of subpos_of
fault-events_twice_before_changed = refl

fault-redefined : fault_of_file (codes "fn=(1) a\nfn=(1) b\n") ≡ Some (IdRedefined, 2)
unfolding reading_of line_text kind_of name_of number_of amount_of subpos_of
fault-redefined = refl

fault-defined_again : fault_of_file (codes "fn=(1) a\nfn=(0x1) a\n") ≡ None
unfolding reading_of line_text kind_of name_of number_of amount_of subpos_of
fault-defined_again = refl

fault-identifier_too_large : fault_of_file (codes "fn=(18446744073709551616) x\n") ≡ Some (NumberTooLarge, 1)
unfolding reading_of line_text kind_of name_of number_of amount_of subpos_of
fault-identifier_too_large = refl

fault-short_calls : fault_of_file (codes "calls=1\n") ≡ Some (ShortLine, 1)
unfolding reading_of line_text kind_of name_of number_of amount_of subpos_of
fault-short_calls = refl

fault-bad_count : fault_of_file (codes "calls=x 1\n1\n") ≡ Some (BadNumber, 1)
unfolding reading_of line_text kind_of name_of number_of amount_of subpos_of
fault-bad_count = refl

fault-bad_target : fault_of_file (codes "events: Ir\ncalls=1 1x\n1 1\n") ≡ Some (BadNumber, 2)
unfolding reading_of line_text kind_of name_of number_of amount_of subpos_of
fault-bad_target = refl

fault-large_count : fault_of_file (codes "events: Ir\ncalls=9223372036854775808 1\n1 1\n") ≡ Some (NumberTooLarge, 2)
unfolding reading_of line_text kind_of name_of number_of amount_of subpos_of
fault-large_count = refl

fault-large_target : fault_of_file (codes "events: Ir\ncalls=1 9223372036854775808\n1 1\n") ≡ None
unfolding reading_of line_text kind_of name_of number_of amount_of subpos_of
fault-large_target = refl

fault-more_targets : fault_of_file (codes "events: Ir\ncalls=1 1 x\n1 1\n") ≡ None
unfolding reading_of line_text kind_of name_of number_of amount_of subpos_of
fault-more_targets = refl

fault-bad_summary : fault_of_file (codes "summary: 1 x\n") ≡ Some (BadNumber, 1)
unfolding reading_of line_text kind_of name_of number_of amount_of subpos_of
fault-bad_summary = refl

fault-large_totals : fault_of_file (codes "totals: 9223372036854775808\n") ≡ Some (NumberTooLarge, 1)
unfolding reading_of line_text kind_of name_of number_of amount_of subpos_of
fault-large_totals = refl

fault-unknown_line : fault_of_file (codes "frfn=x\n") ≡ Some (UnknownLine, 1)
unfolding reading_of line_text kind_of name_of number_of amount_of subpos_of
fault-unknown_line = refl

fault-first_of_two : fault_of_file (codes "x\ny\n") ≡ Some (UnknownLine, 1)
unfolding reading_of line_text kind_of name_of number_of amount_of subpos_of
fault-first_of_two = refl

fault-other_keys : fault_of_file (codes "creator: x\ndesc: y\nZ: 1\n") ≡ None
unfolding reading_of line_text kind_of name_of number_of amount_of subpos_of
fault-other_keys = refl

records-before_a_fault : records_of_file (codes "events: Ir\n1 1\nx\n2 2\n")
    ≡ Own (record { at = 2; object = codes "???"; file = codes "???"; function = codes "???"; line = 1; thread = 0; costs = 1 ∷ [] })
    ∷ []
unfolding reading_of line_text kind_of name_of number_of amount_of subpos_of
records-before_a_fault = refl

-- ---- threads

abbrev of_threads : List Record → List (ℕ × ℕ)
of_threads [] = []
of_threads (Own cost ∷ records) = (cost.line, cost.thread) ∷ of_threads records
of_threads (Called callee cost ∷ records) = (cost.line, cost.thread) ∷ of_threads records

abbrev with_threads : List ℕ
with_threads = codes "events: Ir\nfn=f\n1 1\nthread: 2\n1 10\nthread: 1\n+1 100\nthread:2\n2 1000\n"

threads-second : of_threads (records_by Second with_threads) ≡ (1, 0) ∷ (1, 2) ∷ (2, 1) ∷ (2, 2) ∷ []
unfolding reading_of line_text kind_of name_of number_of amount_of subpos_of
threads-second = refl

threads-first : of_threads (records_by First with_threads) ≡ (1, 0) ∷ (1, 0) ∷ (2, 0) ∷ (2, 0) ∷ []
unfolding reading_of line_text kind_of name_of number_of amount_of subpos_of
threads-first = refl

fault-no_thread : fault_by Second (codes "events: Ir\nthread: x\n1 1\n") ≡ Some (BadNumber, 2)
unfolding reading_of line_text kind_of name_of number_of amount_of subpos_of
fault-no_thread = refl

fault-large_thread : fault_by Second (codes "events: Ir\nthread: 9223372036854775808\n1 1\n") ≡ Some (NumberTooLarge, 2)
unfolding reading_of line_text kind_of name_of number_of amount_of subpos_of
fault-large_thread = refl

fault-two_threads : fault_by Second (codes "thread: 1 2\n") ≡ Some (BadNumber, 1)
unfolding reading_of line_text kind_of name_of number_of amount_of subpos_of
fault-two_threads = refl

fault-unread_thread : fault_by First (codes "events: Ir\nthread: x\n1 1\n") ≡ None
unfolding reading_of line_text kind_of name_of number_of amount_of subpos_of
fault-unread_thread = refl
