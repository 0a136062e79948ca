-- The definitions on examples.
use Rattle.std.proofs.Common.{◌≡◌, ℕ, true, false, List, [], ◌∷◌, codes, refl}
use Rattle.std.specs.Fmt.{digits}
use Rattle.cg_text.specs.Names.{unknown}
use Rattle.csv.specs.Writing.{escaped, fields_text, is_blank}
use Rattle.profile_records.specs.Records.{Record, Own, Called}
use Rattle.profile_records.specs.Stacks.{Seen}
use Rattle.report_texts.specs.Costs.{EventRecords}
use Rattle.report_texts.specs.Annotations.{annotation_of_records, annotation_text, know_file}
use Rattle.report_texts.specs.Csv.{NamedRecords, csv_of_records, csv_text}
use Rattle.report_texts.specs.Folded.{folded_of_stacks, folded_text}

abbrev own : List ℕ → List ℕ → List ℕ → ℕ → List ℕ → Record
own object file function line costs = Own (record { at = 0; object = object; file = file; function = function; line = line; thread = 0; costs = costs })

-- a call from `f` of `a.c` to `g`, at line 1
abbrev call : List ℕ → Record
call costs =
    Called (record { object = unknown; file = codes "a.c"; function = codes "g"; count = 1 }) (record { at = 0; object = unknown; file = codes "a.c"; function = codes "f"; line = 1; thread = 0; costs = costs })

-- ---- annotated sources

abbrev annotated : List ℕ → List ℕ → List ℕ → List EventRecords → List ℕ
annotated file event source files = annotation_text event (annotation_of_records file source files)

abbrev at_line : ℕ → ℕ → Record
at_line line cost = own unknown (codes "a.c") (codes "f") line (cost ∷ [])

-- costs at line 0, at line 1 and past the end of a short source
abbrev line_zero : EventRecords
line_zero = record { coefs = 1 ∷ []; records = at_line 0 1 ∷ at_line 1 2 ∷ at_line 9 4 ∷ [] }

line_zero_of_one_line : annotated (codes "a.c") (codes "Ir") (codes "int x;") (line_zero ∷ []) ≡ codes "annotate a.c Ir\n7 total\n2 1: int x;\n5 (outside)\n"
unfolding digits
line_zero_of_one_line = refl

line_zero_of_no_line : annotated (codes "a.c") (codes "Ir") [] (line_zero ∷ []) ≡ codes "annotate a.c Ir\n7 total\n7 (outside)\n"
unfolding digits
line_zero_of_no_line = refl

-- a line feed at the end begins no line; one carriage return is dropped; a line that costs nothing has a dot
line_zero_of_carriage_returns : annotated (codes "a.c") (codes "Ir") (codes "int x;\r\n\r\r\n") (line_zero ∷ []) ≡ codes "annotate a.c Ir\n7 total\n2 1: int x;\n. 2: \r\n5 (outside)\n"
unfolding digits
line_zero_of_carriage_returns = refl

-- two runs; rows of another file and what calls cost do not count
abbrev two_files : EventRecords
two_files = record { coefs = 1 ∷ []; records = at_line 1 3 ∷ own unknown (codes "b.c") (codes "f") 1 (5 ∷ []) ∷ call (7 ∷ []) ∷ at_line 2 1 ∷ at_line 1 2 ∷ [] }

none_outside : annotated (codes "a.c") (codes "Ir") (codes "{\n}\nlast") (two_files ∷ two_files ∷ []) ≡ codes "annotate a.c Ir\n12 total\n10 1: {\n2 2: }\n. 3: last\n0 (outside)\n"
unfolding digits
none_outside = refl

-- the names of the file and of the event are escaped, the source is not
abbrev strange_name : EventRecords
strange_name = record { coefs = 0 ∷ 2 ∷ []; records = own unknown (codes "a\\\t.c") (codes "f") 1 (9 ∷ 3 ∷ []) ∷ [] }

text_as_it_is : annotated (codes "a\\\t.c") (codes "E\n") (codes "\\\t\u{7f}") (strange_name ∷ []) ≡ codes "annotate a\\\\\\x09.c E\\x0a\n6 total\n6 1: \\\t\u{7f}\n0 (outside)\n"
unfolding digits
text_as_it_is = refl

-- a file is known by a cost of whatever event, not by a line that cost nothing or by calls
known_by_another_event : know_file (codes "a.c") (record { coefs = []; records = own unknown (codes "a.c") (codes "f") 1 (0 ∷ 4 ∷ []) ∷ [] } ∷ []) ≡ true
known_by_another_event = refl

not_known : know_file (codes "a.c") (record { coefs = 1 ∷ []; records = at_line 1 0 ∷ call (7 ∷ []) ∷ own unknown (codes "a") (codes "f") 1 (4 ∷ []) ∷ [] } ∷ []) ≡ false
not_known = refl

-- ---- comma-separated values

-- of one object, with two name spaces more
abbrev three_name_spaces : NamedRecords
three_name_spaces = record {
  events = codes "Ir" ∷ [];
  records = own (codes "x.so") (codes "a.c") (codes "f") 2 (3 ∷ []) ∷ own (codes "x.so") (codes "a.c") (codes "f") 1 (2 ∷ []) ∷ [];
}

csv_of_three_name_spaces : csv_text (csv_of_records (three_name_spaces ∷ [])) ≡ codes "object,file,function,line,event,cost\nx.so,a.c,f,1,Ir,2\nx.so,a.c,f,2,Ir,3\n"
unfolding digits escaped fields_text is_blank
csv_of_three_name_spaces = refl

csv_of_quotes : csv_text (csv_of_records (record { events = codes "Ir" ∷ []; records = own unknown unknown (codes "f,\"x\"") 1 (2 ∷ []) ∷ [] } ∷ []))
    ≡ codes "object,file,function,line,event,cost\n???,???,\"f,\"\"x\"\"\",1,Ir,2\n"
unfolding digits escaped fields_text is_blank
csv_of_quotes = refl

-- a line feed stands between quotes, a backslash and a control code as they are
csv_of_strange_names : csv_text (csv_of_records (record { events = codes "Ir" ∷ []; records = own (codes "a\nb") (codes "c\\\t") (codes "f g") 1 (2 ∷ []) ∷ [] } ∷ []))
    ≡ codes "object,file,function,line,event,cost\n\"a\nb\",c\\\t,f g,1,Ir,2\n"
unfolding digits escaped fields_text is_blank
csv_of_strange_names = refl

-- events by their names, whatever their columns; costs of 0 and what calls cost are left out; lines by number
csv_of_columns : csv_text (csv_of_records (
    record { events = codes "Ir" ∷ codes "Dr" ∷ []; records = own unknown (codes "b") (codes "f") 10 (3 ∷ 4 ∷ []) ∷ call (7 ∷ 7 ∷ []) ∷ own unknown (codes "b") (codes "f") 9 (0 ∷ 1 ∷ []) ∷ [] }
    ∷ record { events = codes "Dr" ∷ codes "Ir" ∷ []; records = own unknown (codes "b") (codes "f") 10 (5 ∷ []) ∷ own unknown (codes "a") (codes "g") 10 (6 ∷ []) ∷ [] } ∷ []))
    ≡ codes "object,file,function,line,event,cost\n???,a,g,10,Dr,6\n???,b,f,9,Dr,1\n???,b,f,10,Dr,9\n???,b,f,10,Ir,3\n"
unfolding digits escaped fields_text is_blank
csv_of_columns = refl

-- what one place cost in two threads is one row
abbrev in_thread : ℕ → ℕ → Record
in_thread thread cost = Own (record { at = 0; object = unknown; file = codes "a.c"; function = codes "f"; line = 3; thread = thread; costs = cost ∷ [] })

csv_of_two_threads : csv_text (csv_of_records (record { events = codes "Ir" ∷ []; records = in_thread 2 10 ∷ at_line 1 1 ∷ in_thread 1 100 ∷ [] } ∷ []))
    ≡ codes "object,file,function,line,event,cost\n???,a.c,f,1,Ir,1\n???,a.c,f,3,Ir,110\n"
unfolding digits escaped fields_text is_blank
csv_of_two_threads = refl

csv_of_nothing : csv_text (csv_of_records []) ≡ codes "object,file,function,line,event,cost\n"
unfolding digits escaped fields_text is_blank
csv_of_nothing = refl

-- ---- folded text

abbrev stack : List ℕ → ℕ → Seen
stack frames count = record { at = 0; stack = record { frames = frames; count = count } }

folded_of_two : folded_text (folded_of_stacks (stack (codes "a;b;a") 3 ∷ stack (codes "a;b") 2 ∷ [])) ≡ codes "a;b 2\na;b;a 3\n"
unfolding digits
folded_of_two = refl

-- the same from another run, and a stack that was not seen
folded_of_four : folded_text (folded_of_stacks (stack (codes "a;b;a") 3 ∷ stack (codes "a;b") 2 ∷ stack (codes "c\t") 0 ∷ stack (codes "a;b;a") 3 ∷ stack (codes "a;b") 2 ∷ [])) ≡ codes "a;b 4\na;b;a 6\n"
unfolding digits
folded_of_four = refl

folded_of_none : folded_text (folded_of_stacks []) ≡ []
folded_of_none = refl
