-- Annotated sources and exports over histories, computed on worked ones.
use Rattle.std.proofs.Common.{◌≡◌, ℕ, List, [], ◌∷◌, codes, None, Some, refl}
use Rattle.std.specs.Fmt.{digits}
use Rattle.csv.specs.Writing.{escaped, fields_text, is_blank}
use Rattle.cg_text.specs.Fields.{line_text}
use Rattle.cg_text.specs.Kinds.{kind_of}
use Rattle.cg_text.specs.Names.{name_of}
use Rattle.cg_text.specs.Numbers.{number_of, amount_of}
use Rattle.cg_text.specs.Readings.{reading_of}
use Rattle.cg_text.specs.Subpositions.{subpos_of}
use Rattle.folded_reader.specs.Lines.{reading_of as stack_of}
use Rattle.profile_records.specs.declared.kinds.Kind.{Kind}
use Rattle.profile_records.specs.declared.kinds.Kind.TheVariants.{Callgrind, Folded}
use Rattle.byte_io.specs.Outcomes.{Gave, Failed}
use Rattle.histories.specs.Formats.{today}
use Rattle.histories.specs.History.{Annotate, Import, Step}
use Rattle.histories.specs.Legal.{expected_answer, expected_of_query}
use Rattle.histories.specs.declared.answers.Answer.{Answer}
use Rattle.histories.specs.declared.answers.Answer.TheVariants.{Run, Text, Refused}
use Rattle.requests.specs.declared.queries.Query.TheVariants as queries
use Rattle.histories.specs.declared.answers.Refusal.TheVariants as reasons
use Rattle.requests.specs.declared.selections.Selection.TheVariants as selections
use Rattle.histories.proofs.Examples.{standard}

abbrev imported : ℕ → Kind → List ℕ → Step
imported n kind bytes = record { command = Import (today kind) (codes "a") (Gave bytes ∷ Gave [] ∷ []); answer = Run n }

abbrev line_zero : List ℕ
line_zero = codes "events: Ir\nfl=a.c\nfn=f\n0 1\n1 2\n9 4\n"

abbrev name_spaces : List ℕ
name_spaces = codes "events: Ir\nob=(1) x.so\nfl=(1) a.c\nfn=(1) f\n1 2\nob=(1)\nfl=(1)\nfn=(1)\n+1 3\n"

-- ---- annotated sources

abbrev annotated : List ℕ → List ℕ → List ℕ → Answer
annotated event name source = expected_of_query (imported 1 Callgrind line_zero ∷ []) (queries.Annotate selections.All event name source)

sources_are_annotated : annotated (codes "Ir") (codes "a.c") (codes "int x;") ≡ Text (codes "annotate a.c Ir\n7 total\n2 1: int x;\n5 (outside)\n")
unfolding digits reading_of line_text kind_of name_of number_of amount_of subpos_of
sources_are_annotated = refl

no_line_of_a_source : annotated (codes "Ir") (codes "a.c") [] ≡ Text (codes "annotate a.c Ir\n7 total\n7 (outside)\n")
unfolding digits reading_of line_text kind_of name_of number_of amount_of subpos_of
no_line_of_a_source = refl

event_before_the_name : annotated (codes "Dr") (codes "b.c") [] ≡ Refused reasons.NoSuchEvent
unfolding digits reading_of line_text kind_of name_of number_of amount_of subpos_of
event_before_the_name = refl

no_source_of_this_name : annotated (codes "Ir") (codes "b.c") [] ≡ Refused reasons.NoSuchName
unfolding digits reading_of line_text kind_of name_of number_of amount_of subpos_of
no_source_of_this_name = refl

-- by what the reads of the source came to
source_that_has_ended : expected_answer standard (imported 1 Callgrind line_zero ∷ []) (Annotate selections.All (codes "Ir") (codes "a.c") (Gave (codes "int") ∷ Gave (codes " x;") ∷ Gave [] ∷ []))
    ≡ Some (Text (codes "annotate a.c Ir\n7 total\n2 1: int x;\n5 (outside)\n"))
unfolding digits reading_of line_text kind_of name_of number_of amount_of subpos_of
source_that_has_ended = refl

source_that_goes_on : expected_answer standard [] (Annotate (selections.Run 9) (codes "Ir") (codes "a.c") (Gave (codes "int") ∷ [])) ≡ None
source_that_goes_on = refl

-- before the run that is not held
source_that_cannot_be_read : expected_answer standard [] (Annotate (selections.Run 9) (codes "Ir") (codes "a.c") (Gave (codes "int") ∷ Failed ∷ [])) ≡ Some (Refused reasons.ReadFault)
source_that_cannot_be_read = refl

-- ---- exports

csv_is_told : expected_of_query (imported 1 Callgrind name_spaces ∷ []) (queries.Csv selections.All) ≡ Text (codes "object,file,function,line,event,cost\nx.so,a.c,f,1,Ir,2\nx.so,a.c,f,2,Ir,3\n")
unfolding digits reading_of line_text kind_of name_of number_of amount_of subpos_of escaped fields_text is_blank
csv_is_told = refl

csv_of_nothing : expected_of_query [] (queries.Csv selections.All) ≡ Text (codes "object,file,function,line,event,cost\n")
unfolding digits reading_of line_text kind_of name_of number_of amount_of subpos_of escaped fields_text is_blank
csv_of_nothing = refl

stacks_are_told : expected_of_query (imported 1 Folded (codes "a;b;a 3\na;b 2\n") ∷ imported 2 Callgrind line_zero ∷ []) (queries.Folded selections.All) ≡ Text (codes "a;b 2\na;b;a 3\n")
unfolding digits reading_of line_text kind_of name_of number_of amount_of subpos_of stack_of
stacks_are_told = refl

no_run_of_an_export : expected_of_query [] (queries.Folded (selections.Run 1)) ≡ Refused reasons.NoSuchRun
no_run_of_an_export = refl
