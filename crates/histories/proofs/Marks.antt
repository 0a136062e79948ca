-- The mark of a history, and what the two grammars read.
use Rattle.std.proofs.Common.{◌≡◌, ◌≢◌, ℕ, List, [], ◌∷◌, ◌++◌, map, Ok, Err, Option, Some, None, Result, length, refl, ap, ap₂, ◌∙◌, append_assoc}
use Rattle.std.specs.List.{AllByRecursion}
use Rattle.cg_text.specs.Kinds as kinds
use Rattle.cg_text.specs.Kinds.{Header}
use Rattle.cg_text.specs.Lines.{lines_of}
use Rattle.cg_text.specs.Readings.{Reading, reading_of}
use Rattle.cg_text.specs.declared.faults.Fault.{Fault}
use Rattle.cg_text.specs.declared.words.HeaderKey.TheVariants as keys
use Rattle.callgrind_reader.specs.Files as files
use Rattle.callgrind_reader.specs.Definitions.{definitions_of}
use Rattle.callgrind_reader.specs.Events.{events_of}
use Rattle.callgrind_reader.specs.Files.{fault_in, names_or_none, sound_records, unless_fault}
use Rattle.callgrind_reader.specs.Totals.{stated_of}
use Rattle.cg_formulas.specs.Formulas.{derived_of}
use Rattle.text_pieces.specs.Backwards.{onto}
use Rattle.callgrind_reader.specs.Grammars.{First, Second, unthreaded, reading_in}
use Rattle.callgrind_reader.specs.Lines.{cost_of, record_of, record_with, row_record}
use Rattle.callgrind_reader.specs.Costs.{row_at}
use Rattle.callgrind_reader.specs.Calls.{awaiting}
use Rattle.callgrind_reader.specs.Threads.{thread_of}
use Rattle.profile_records.specs.Records.{Record}
use Rattle.histories.specs.History.{History, Step}
use Rattle.histories.specs.Marks.{AreBy, AreReadAlike, HasNoThread, HasNoThreadLine, IsBy, IsMarked}

-- ---- the mark

all_and : {A : Type 0} (P : A → Type 0) (xs ys : List A) → AllByRecursion P xs → AllByRecursion P ys → AllByRecursion P (xs ++ ys)
all_and P [] ys one two = two
all_and P (x ∷ xs) ys one two = (one.0, all_and P xs ys one.1 two)

pub marked_on : (h steps : History) → IsMarked h → AreBy Second steps → IsMarked (h ++ steps)
marked_on h steps was more = record {
  before = was.before;
  after = was.after ++ steps;
  is = ap (λ l. l ++ steps) was.is ∙ append_assoc was.before was.after steps;
  by_first = was.by_first;
  by_second = all_and (λ (step : Step). IsBy Second step.command) was.after steps was.by_second more;
}

none_after : (h : History) → h ≡ h ++ []
none_after [] = refl
none_after (step ∷ h) = ap (λ l. step ∷ l) (none_after h)

pub marked_at_end : (h : History) → AreBy First h → IsMarked h
marked_at_end h all = record { before = h; after = []; is = none_after h; by_first = all; by_second = tt }

pub marked_at_start : (h : History) → AreBy Second h → IsMarked h
marked_at_start h all = record { before = []; after = h; is = refl; by_first = tt; by_second = all }

-- ---- the first grammar sees no thread

-- a reading that is no `thread:` line
abbrev IsPlain : Reading → Type 0
IsPlain r = (value : List ℕ) → r ≢ Ok (Header keys.Thread value)

plain : (r : Reading) → IsPlain (unthreaded r)
plain (Ok (Header keys.Thread text)) value = λ same. cc
plain (Ok (Header keys.Version text)) value = λ same. cc
plain (Ok (Header keys.Positions text)) value = λ same. cc
plain (Ok (Header keys.Events text)) value = λ same. cc
plain (Ok (Header keys.Event text)) value = λ same. cc
plain (Ok (Header keys.Summary text)) value = λ same. cc
plain (Ok (Header keys.Totals text)) value = λ same. cc
plain (Ok (Header keys.Other text)) value = λ same. cc
plain (Ok r) value = λ same. cc
plain (Err fault) value = λ same. cc

all_plain : (lines : List (List ℕ)) → AllByRecursion IsPlain (map (reading_in First) lines)
all_plain [] = tt
all_plain (line ∷ lines) = (plain (reading_of line), all_plain lines)

no_thread : (back : List Reading) → AllByRecursion IsPlain back → thread_of back ≡ 0
no_thread [] all = refl
no_thread (Ok (Header keys.Thread text) ∷ back) all = absurd (all.0 text refl)
no_thread (Ok (Header keys.Version text) ∷ back) all = no_thread back all.1
no_thread (Ok (Header keys.Positions text) ∷ back) all = no_thread back all.1
no_thread (Ok (Header keys.Events text) ∷ back) all = no_thread back all.1
no_thread (Ok (Header keys.Event text) ∷ back) all = no_thread back all.1
no_thread (Ok (Header keys.Summary text) ∷ back) all = no_thread back all.1
no_thread (Ok (Header keys.Totals text) ∷ back) all = no_thread back all.1
no_thread (Ok (Header keys.Other text) ∷ back) all = no_thread back all.1
no_thread (Ok r ∷ back) all = no_thread back all.1
no_thread (Err fault ∷ back) all = no_thread back all.1

with_none : (call : Option (ℕ × ℕ)) (line : ℕ) (costs : List ℕ) (back : List Reading) → AllByRecursion IsPlain back → HasNoThread (record_with call (cost_of line costs back) back)
with_none None line costs back all = no_thread back all
with_none (Some call) line costs back all = no_thread back all

row_without : (row : Result (ℕ × List ℕ) Fault) (back : List Reading) → AllByRecursion IsPlain back → AllByRecursion HasNoThread (row_record row back)
row_without (Err fault) back all = tt
row_without (Ok row) back all = (with_none (awaiting back) row.0 row.1 back all, tt)

record_without : (r : Reading) (back : List Reading) → AllByRecursion IsPlain back → AllByRecursion HasNoThread (record_of r back)
record_without (Ok (kinds.Cost text)) back all = row_without (row_at text back) back all
record_without (Ok kinds.Nothing) back all = tt
record_without (Ok kinds.Jump) back all = tt
record_without (Ok (kinds.Calls value)) back all = tt
record_without (Ok (Header key value)) back all = tt
record_without (Ok r) back all = tt
record_without (Err fault) back all = tt

unless_any : (fault : Option Fault) (records : List Record) → AllByRecursion HasNoThread records → AllByRecursion HasNoThread (unless_fault fault records)
unless_any (Some fault) records all = tt
unless_any None records all = all

sound_without : (back ahead : List Reading) → AllByRecursion IsPlain back → AllByRecursion IsPlain ahead → AllByRecursion HasNoThread (sound_records back ahead)
sound_without back [] before after = tt
sound_without back (r ∷ ahead) before after =
    unless_any (files.fault_of r back ahead) (record_of r back ++ sound_records (r ∷ back) ahead)
    (all_and HasNoThread (record_of r back) (sound_records (r ∷ back) ahead) (record_without r back before) (sound_without (r ∷ back) ahead (after.0, before) after.1))

pub first_without : (text : List ℕ) → AllByRecursion HasNoThread (files.records_by First text)
first_without text = sound_without [] (map (reading_in First) (lines_of text)) tt (all_plain (lines_of text))

-- ---- without a `thread:` line both read alike

same_reading : (r : Reading) → IsPlain r → unthreaded r ≡ r
same_reading (Ok (Header keys.Thread text)) is = absurd (is text refl)
same_reading (Ok (Header keys.Version text)) is = refl
same_reading (Ok (Header keys.Positions text)) is = refl
same_reading (Ok (Header keys.Events text)) is = refl
same_reading (Ok (Header keys.Event text)) is = refl
same_reading (Ok (Header keys.Summary text)) is = refl
same_reading (Ok (Header keys.Totals text)) is = refl
same_reading (Ok (Header keys.Other text)) is = refl
same_reading (Ok r) is = refl
same_reading (Err fault) is = refl

same_readings : (lines : List (List ℕ)) → AllByRecursion (λ line. IsPlain (reading_of line)) lines → map (reading_in First) lines ≡ map (reading_in Second) lines
same_readings [] all = refl
same_readings (line ∷ lines) all = ap₂ ◌∷◌ (same_reading (reading_of line) all.0) (same_readings lines all.1)

pub read_alike : (text : List ℕ) → HasNoThreadLine text → AreReadAlike text
read_alike text all =
    let same = same_readings (lines_of text) all in
    let ends = ap (λ rs. onto rs []) same in
    let events = ap (λ back. names_or_none (events_of back)) ends in
    record {
      fault = ap fault_in same;
      events = events;
      derived = ap₂ derived_of events (ap definitions_of ends);
      stated = ap₂ (λ names back. stated_of (length names) back) events ends;
      records = ap (sound_records []) same;
    }
