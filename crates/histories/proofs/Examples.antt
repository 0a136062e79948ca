-- The definitions, computed on worked histories.
use Rattle.std.proofs.Common.{◌≡◌, ◌≢◌, inl, ℕ, zero, suc, ◌≤◌, ◌^◌, false, List, [], ◌∷◌, ◌++◌, codes, Some, None, refl, arith}
use Rattle.std.specs.Fmt.{digits}
use Rattle.std.proofs.lemmas.Str.{IsUtf8-from_ascii}
use Rattle.std.specs.Str.{IsAscii, IsUtf8}
use Rattle.std.proofs.lemmas.List.Elements.{All-from_recursion}
use Rattle.hex.specs.Hex.{encode_with}
use Rattle.plain_tables.specs.Labels.{IsLabel}
use Rattle.sha2.specs.Sha256.{sha256, first_words, schedule, rounds, compress, hash_after, digest_bytes}
use Rattle.cg_text.specs.Fields.{line_text}
use Rattle.cg_text.specs.Kinds.{kind_of}
use Rattle.cg_text.specs.Names.{name_of}
use Rattle.cg_text.specs.Numbers.{number_of, amount_of}
use Rattle.cg_text.specs.Readings.{reading_of}
use Rattle.cg_text.specs.Subpositions.{subpos_of}
use Rattle.cg_text.specs.declared.faults.Fault.TheVariants.{NumberTooLarge}
use Rattle.profile_records.specs.declared.kinds.Kind.{Kind}
use Rattle.profile_records.specs.declared.kinds.Kind.TheVariants.{Callgrind, Folded}
use Rattle.byte_io.specs.Outcomes.{Outcome, Gave, Failed}
use Rattle.histories.specs.Formats.{today}
use Rattle.histories.specs.History.{Command, Import, Remove, MakeGroup, DropGroup, Join, Leave, SetBaseline, Ask, Step, History, File, held, next, groups, members, is_member, baseline}
use Rattle.histories.specs.Legal.{expected_answer, AreLegal}
use Rattle.histories.specs.Texts.{groups_text, runs_text}
use Rattle.histories.specs.declared.answers.Answer.{Answer}
use Rattle.histories.specs.declared.answers.Answer.TheVariants.{Run, Held, Done, Text, Refused}
use Rattle.histories.specs.declared.answers.Excess.TheVariants.{SelfCost, CallCost, CallCount}
use Rattle.requests.specs.declared.queries.Query.TheVariants.{Groups}
use Rattle.histories.specs.declared.answers.Refusal.TheVariants as reasons
use Rattle.histories.specs.declared.limits.Limits.{Limits}

-- ---- files and commands

abbrev pub standard : Limits
standard = record {
  bytes = 2 ^ 30;
  runs = 1000000;
  groups = 100000;
  numbers = 2 ^ 31;
  bytes_fit = omega arith;
  runs_fit = omega arith;
  groups_fit = omega arith;
  numbers_fit = omega arith;
}

abbrev cycles : List ℕ
cycles = codes "# callgrind format\nevents: Cycles Instructions Flops\nfl=file.f\nfn=main\n15 90 14 2\n16 20 12\n"

abbrev most : List ℕ
most = codes "events: Ir\n1 9223372036854775807\n"

abbrev one : List ℕ
one = codes "events: Ir\n1 1\n"

abbrev import : Kind → List ℕ → Command
import kind bytes = Import (today kind) (codes "a") (Gave bytes ∷ Gave [] ∷ [])

abbrev step : Command → Answer → Step
step command answer = record { command = command; answer = answer }

abbrev functions : List ℕ
functions = codes "# callgrind format\nevents: Instructions\n\nfl=file1.c\nfn=main\n16 20\ncfn=func1\ncalls=1 50\n16 400\ncfi=file2.c\ncfn=func2\ncalls=3 20\n16 400\n\nfn=func1\n51 100\ncfi=file2.c\ncfn=func2\ncalls=2 20\n51 300\n\nfl=file2.c\nfn=func2\n20 700\n"

abbrev ticks : List ℕ
ticks = codes "positions: instr line\nevents: ticks\nfn=func\n0x80001234 90 1\n+3 * 5\n+1 +1 6\n"

abbrev named : ℕ → Kind → List ℕ → File
named n kind bytes = record { number = n; format = today kind; label = codes "a"; bytes = bytes }

-- ---- one file, imported, held, removed and imported again

abbrev taken : History
taken = step (import Callgrind cycles) (Run 1) ∷ []

abbrev again : History
again = taken ++ step (import Callgrind cycles) (Held 1) ∷ step (import Folded cycles) (Held 1) ∷ []

abbrev gone : History
gone = again ++ step (Remove 1) Done ∷ []

abbrev back : History
back = gone ++ step (import Callgrind cycles) (Run 2) ∷ []

taken_is_run : expected_answer standard [] (import Callgrind cycles) ≡ Some (Run 1)
unfolding reading_of line_text kind_of name_of number_of amount_of subpos_of
taken_is_run = refl

again_is_held : expected_answer standard taken (import Callgrind cycles) ≡ Some (Held 1)
unfolding first_words schedule rounds compress hash_after digest_bytes sha256
again_is_held = refl

-- whatever its kind, and though it is no folded file
folded_is_held : expected_answer standard (taken ++ step (import Callgrind cycles) (Held 1) ∷ []) (import Folded cycles) ≡ Some (Held 1)
unfolding first_words schedule rounds compress hash_after digest_bytes sha256
folded_is_held = refl

removal_is_done : expected_answer standard again (Remove 1) ≡ Some Done
removal_is_done = refl

-- a number is not used again
back_is_second : expected_answer standard gone (import Callgrind cycles) ≡ Some (Run 2)
unfolding reading_of line_text kind_of name_of number_of amount_of subpos_of
back_is_second = refl

held-again : held again ≡ named 1 Callgrind cycles ∷ []
held-again = refl

held-gone : held gone ≡ []
held-gone = refl

held-back : held back ≡ named 2 Callgrind cycles ∷ []
held-back = refl

next-again : next again ≡ 2
next-again = refl

next-back : next back ≡ 3
next-back = refl

-- these are legal, one after another
ascii : IsAscii (codes "a")
ascii zero = omega arith
ascii (suc i) = omega arith

label_in_form : IsUtf8 (codes "a") × IsLabel (codes "a")
label_in_form = (
  IsUtf8-from_ascii (codes "a") ascii,
  (omega arith, omega arith, All-from_recursion (λ byte. (32 ≤ byte) × (byte ≢ 127)) (codes "a") ((omega arith, λ e. absurd (omega (arith, e))), tt)),
)

all_legal : AreLegal standard [] back
all_legal =
    (inl (label_in_form, inl taken_is_run), (inl (label_in_form, inl again_is_held), (inl (label_in_form, inl folded_is_held), (inl (tt, inl removal_is_done), (inl (label_in_form, inl back_is_second), tt)))))

-- ---- sums beside those of the files that are held

abbrev with_most : History
with_most = step (import Callgrind most) (Run 1) ∷ []

abbrev refused : History
refused = with_most ++ step (import Callgrind one) (Refused (reasons.Overflow (SelfCost (codes "Ir")))) ∷ []

most_is_run : expected_answer standard [] (import Callgrind most) ≡ Some (Run 1)
unfolding reading_of line_text kind_of name_of number_of amount_of subpos_of
most_is_run = refl

one_is_too_much : expected_answer standard with_most (import Callgrind one) ≡ Some (Refused (reasons.Overflow (SelfCost (codes "Ir"))))
unfolding reading_of line_text kind_of name_of number_of amount_of subpos_of first_words schedule rounds compress hash_after digest_bytes sha256
one_is_too_much = refl

-- a refused file takes no number
one_is_second : expected_answer standard (refused ++ step (Remove 1) Done ∷ []) (import Callgrind one) ≡ Some (Run 2)
unfolding reading_of line_text kind_of name_of number_of amount_of subpos_of
one_is_second = refl

held-refused : held refused ≡ named 1 Callgrind most ∷ []
held-refused = refl

next-refused : next refused ≡ 2
next-refused = refl

-- one file alone, and a number that is too large in itself
calls_too_much : expected_answer standard [] (import Callgrind (codes "events: Ir\nfn=f\ncalls=1 1\n1 9223372036854775807\ncalls=1 1\n1 1\n")) ≡ Some (Refused (reasons.Overflow (CallCost (codes "Ir"))))
unfolding reading_of line_text kind_of name_of number_of amount_of subpos_of
calls_too_much = refl

too_many_calls : expected_answer standard [] (import Callgrind (codes "events: Ir\nfn=f\ncalls=9223372036854775807 1\n1\ncalls=1 1\n1\n")) ≡ Some (Refused (reasons.Overflow CallCount))
unfolding reading_of line_text kind_of name_of number_of amount_of subpos_of
too_many_calls = refl

fault_of_line : expected_answer standard [] (import Callgrind (codes "events: Ir\n1 9223372036854775808\n")) ≡ Some (Refused (reasons.File NumberTooLarge 2))
unfolding reading_of line_text kind_of name_of number_of amount_of subpos_of
fault_of_line = refl

-- ---- reads of a source

abbrev small : Limits
small = record { bytes = 2; runs = 2; groups = 1; numbers = 3; bytes_fit = omega arith; runs_fit = omega arith; groups_fit = omega arith; numbers_fit = omega arith }

abbrev reads : List Outcome → Command
reads outcomes = Import (today Callgrind) (codes "a") outcomes

read_failed : expected_answer small [] (reads (Gave (codes "#") ∷ Failed ∷ [])) ≡ Some (Refused reasons.ReadFault)
read_failed = refl

too_long : expected_answer small [] (reads (Gave (codes "###") ∷ [])) ≡ Some (Refused reasons.TooLong)
too_long = refl

too_long_first : expected_answer small [] (reads (Gave (codes "##") ∷ Gave (codes "#") ∷ Failed ∷ [])) ≡ Some (Refused reasons.TooLong)
too_long_first = refl

-- none is expected while the source goes on
goes_on : expected_answer small [] (reads (Gave (codes "##") ∷ [])) ≡ None
goes_on = refl

-- ---- limits

abbrev narrow : Limits
narrow = record { bytes = 2 ^ 30; runs = 2; groups = 1; numbers = 3; bytes_fit = omega arith; runs_fit = omega arith; groups_fit = omega arith; numbers_fit = omega arith }

abbrev two : History
two = step (import Callgrind cycles) (Run 1) ∷ step (import Callgrind functions) (Run 2) ∷ []

second_is_run : expected_answer narrow taken (import Callgrind functions) ≡ Some (Run 2)
unfolding reading_of line_text kind_of name_of number_of amount_of subpos_of first_words schedule rounds compress hash_after digest_bytes sha256
second_is_run = refl

third_is_full : expected_answer narrow two (import Callgrind ticks) ≡ Some (Refused reasons.Full)
unfolding reading_of line_text kind_of name_of number_of amount_of subpos_of first_words schedule rounds compress hash_after digest_bytes sha256
third_is_full = refl

numbers_are_spent : expected_answer narrow (two ++ step (import Callgrind ticks) (Refused reasons.Full) ∷ step (Remove 1) Done ∷ []) (import Callgrind ticks) ≡ Some (Refused reasons.NumbersSpent)
unfolding reading_of line_text kind_of name_of number_of amount_of subpos_of first_words schedule rounds compress hash_after digest_bytes sha256
numbers_are_spent = refl

-- a fault comes before a sum above its bound, that before a full warehouse, and that before spent numbers
abbrev alone : Limits
alone = record { bytes = 2 ^ 30; runs = 1; groups = 1; numbers = 2; bytes_fit = omega arith; runs_fit = omega arith; groups_fit = omega arith; numbers_fit = omega arith }

fault_before_full : expected_answer alone with_most (import Callgrind (codes "events: Ir\n1 9223372036854775808\n")) ≡ Some (Refused (reasons.File NumberTooLarge 2))
unfolding reading_of line_text kind_of name_of number_of amount_of subpos_of first_words schedule rounds compress hash_after digest_bytes sha256
fault_before_full = refl

overflow_before_full : expected_answer alone with_most (import Callgrind one) ≡ Some (Refused (reasons.Overflow (SelfCost (codes "Ir"))))
unfolding reading_of line_text kind_of name_of number_of amount_of subpos_of first_words schedule rounds compress hash_after digest_bytes sha256
overflow_before_full = refl

full_before_spent : expected_answer alone with_most (import Callgrind cycles) ≡ Some (Refused reasons.Full)
unfolding reading_of line_text kind_of name_of number_of amount_of subpos_of first_words schedule rounds compress hash_after digest_bytes sha256
full_before_spent = refl

no_run_there : expected_answer standard [] (Remove 5) ≡ Some (Refused reasons.NoSuchRun)
no_run_there = refl

-- ---- groups

abbrev g : List ℕ
g = codes "g"

abbrev k : List ℕ
k = codes "h"

abbrev grouped : History
grouped =
    step (import Callgrind functions) (Run 1) ∷ step (MakeGroup k) Done ∷ step (MakeGroup g) Done ∷ step (Join g 1) Done ∷ step (Join k 1) Done ∷ step (SetBaseline g 1) Done ∷ []

abbrev ungrouped : History
ungrouped = grouped ++ step (Remove 1) Done ∷ []

groups-made : groups grouped ≡ k ∷ g ∷ []
groups-made = refl

members-joined : members grouped g ≡ 1 ∷ []
members-joined = refl

baseline-set : baseline grouped g ≡ Some 1
baseline-set = refl

baseline-of_other : baseline grouped k ≡ None
baseline-of_other = refl

list_of_groups : groups_text grouped ≡ codes "g 1 1\nh - 1\n"
unfolding digits
list_of_groups = refl

-- a run that goes leaves the groups, and is a baseline no more
groups-left : groups ungrouped ≡ k ∷ g ∷ []
groups-left = refl

members-left : members ungrouped g ≡ []
members-left = refl

baseline-left : baseline ungrouped g ≡ None
baseline-left = refl

list_after : groups_text ungrouped ≡ codes "g - -\nh - -\n"
list_after = refl

groups_are_expected : expected_answer standard grouped (Ask Groups) ≡ Some (Text (codes "g 1 1\nh - 1\n"))
unfolding digits
groups_are_expected = refl

-- a group that is made again is empty, and its limit is met
abbrev made : History
made = step (MakeGroup g) Done ∷ []

abbrev joined : History
joined = made ++ step (import Callgrind cycles) (Run 1) ∷ step (Leave g 1) Done ∷ step (Join g 1) Done ∷ step (Join g 1) Done ∷ []

abbrev renewed : History
renewed = joined ++ step (SetBaseline g 1) Done ∷ step (DropGroup g) Done ∷ step (MakeGroup g) Done ∷ []

made_is_done : expected_answer narrow [] (MakeGroup g) ≡ Some Done
made_is_done = refl

made_twice : expected_answer narrow made (MakeGroup g) ≡ Some (Refused reasons.GroupTaken)
made_twice = refl

made_too_many : expected_answer narrow made (MakeGroup k) ≡ Some (Refused reasons.Full)
made_too_many = refl

dropped_none : expected_answer narrow made (DropGroup k) ≡ Some (Refused reasons.NoSuchGroup)
dropped_none = refl

joined_none : expected_answer narrow made (Join k 7) ≡ Some (Refused reasons.NoSuchGroup)
joined_none = refl

joined_no_run : expected_answer narrow made (Join g 7) ≡ Some (Refused reasons.NoSuchRun)
joined_no_run = refl

left_no_run : expected_answer narrow made (Leave g 7) ≡ Some (Refused reasons.NoSuchRun)
left_no_run = refl

based_no_group : expected_answer narrow made (SetBaseline k 7) ≡ Some (Refused reasons.NoSuchGroup)
based_no_group = refl

left_is_done : expected_answer narrow (made ++ step (import Callgrind cycles) (Run 1) ∷ []) (Leave g 1) ≡ Some Done
left_is_done = refl

joined_twice : expected_answer narrow joined (Join g 1) ≡ Some Done
joined_twice = refl

list_joined : groups_text joined ≡ codes "g - 1\n"
unfolding digits
list_joined = refl

list_renewed : groups_text renewed ≡ codes "g - -\n"
list_renewed = refl

baseline-renewed : baseline renewed g ≡ None
baseline-renewed = refl

-- members by their numbers, whatever the order in which they joined
abbrev crowded : History
crowded = two ++ step (MakeGroup g) Done ∷ step (Join g 2) Done ∷ step (SetBaseline g 1) Done ∷ step (Join g 1) Done ∷ step (SetBaseline g 2) Done ∷ []

list_crowded : groups_text crowded ≡ codes "g 2 1,2\n"
unfolding digits
list_crowded = refl

-- a run that leaves stays a baseline, and a baseline need not be a member
baseline-stays : baseline (joined ++ step (SetBaseline g 1) Done ∷ step (Leave g 1) Done ∷ []) g ≡ Some 1
baseline-stays = refl

member-left : is_member (joined ++ step (SetBaseline g 1) Done ∷ step (Leave g 1) Done ∷ []) g 1 ≡ false
member-left = refl

-- ---- the list of runs

abbrev empty : History
empty = step (Import (today Callgrind) (codes "empty.out") (Gave [] ∷ [])) (Run 1) ∷ []

empty_is_run : expected_answer standard [] (Import (today Callgrind) (codes "empty.out") (Gave [] ∷ [])) ≡ Some (Run 1)
unfolding reading_of line_text kind_of name_of number_of amount_of subpos_of
empty_is_run = refl

list_of_runs : runs_text empty ≡ codes "1 callgrind e3b0c44298fc1c149afbf4c8996fb92427ae41e4649b934ca495991b7852b855 empty.out\n"
unfolding first_words schedule rounds compress hash_after digest_bytes sha256 encode_with digits
list_of_runs = refl

abbrev sampled : History
sampled = step (Import (today Folded) (codes "b c") (Gave (codes "a;b 2\n") ∷ Gave [] ∷ [])) (Run 1) ∷ []

list_of_samples : runs_text sampled ≡ codes "1 folded fe491dc98a03200ded9c49087a54ebfbb0543dff4f7fb17679c74d30e2eecc64 b c\n"
unfolding first_words schedule rounds compress hash_after digest_bytes sha256 encode_with digits
list_of_samples = refl
