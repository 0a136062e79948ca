-- What a file that was read is answered, and what becomes of a store into which it is put.
use Rattle.std.proofs.Common.{◌≡◌, ◌∙◌, ℕ, nat_le, length, false, List, Some, None, Result, Ok, Err, Option, refl, inl, sym, ap, subst, subst₂}
use Rattle.sha2.specs.Sha256.{sha256}
use Rattle.cg_text.specs.declared.faults.Fault.{Fault}
use Rattle.cg_formulas.specs.declared.heads.FileHead.{FileHead}
use Rattle.cost_rows.specs.Content.{Content}
use Rattle.cost_rows.specs.Rows.{content_of}
use Rattle.cost_rows.specs.declared.file_rows.FileRows.{FileRows}
use Rattle.plain_tables.specs.Sound.{AreSound}
use Rattle.plain_tables.specs.Tables.{Tables}
use Rattle.run_stores.specs.declared.summed.SummedFile.{SummedFile}
use Rattle.run_stores.specs.Lookups.{IsRunOf}
use Rattle.run_stores.specs.Runs.{with_summed}
use Rattle.profile_records.specs.declared.kinds.Kind.{Kind}
use Rattle.byte_io.specs.Outcomes.{Outcome, bytes_of}
use Rattle.byte_io.specs.Reads.{HasEnded}
use Rattle.file_reading.specs.FileParsers.{IsFileOf, IsParsedOf}
use Rattle.file_reading.specs.declared.parser.ParsedFile.{ParsedFile}
use Rattle.histories.specs.Formats.{today}
use Rattle.histories.specs.History.{History, Import, held, next, with_step}
use Rattle.histories.specs.Legal.{expected_answer, number_of, IsInForm}
use Rattle.histories.specs.Representation.{TablesRepresent}
use Rattle.histories.specs.declared.answers.Answer.{Answer}
use Rattle.histories.specs.declared.answers.Answer.TheVariants.{Run, Refused}
use Rattle.histories.specs.declared.limits.Limits.{Limits}
use Rattle.histories.specs.declared.answers.Refusal.{Refusal}
use Rattle.histories.specs.Answered.{is_accepted}
use Rattle.histories.specs.Refusals.{refused_or}
use Rattle.histories.proofs.Put.{tell_insert}
use Rattle.histories.proofs.Tells.{tells_digest}
use Rattle.store_commands.specs.FromTables.{AnswersUnchanged, GetsNumber, IsImported, IsKnown, IsNumber, TakesIn}
use Rattle.store_commands.specs.Refused.{no_room, number_unless, room_refusal}
use Rattle.store_commands.proofs.Imports.{fault_expected, held_expected, number_told, room_expected}

-- ---- the number

-- a number that was answered is the one that is left
free : (r : Option Refusal) (n m : ℕ) → Ok m ≡ number_unless r n → m ≡ n
free None n m is = ap value is
  where
    value : Result ℕ Refusal → ℕ
    value (Ok k) = k
    value (Err e) = 0
free (Some refusal) n m is = absurd cc

-- the number that a file gets in lines is the next one
pub next_of : (limits : Limits) (head : FileHead) (c : Content) (t : Tables) (n : ℕ) → IsNumber limits head c t (Ok n) → t.next ≡ n
next_of limits head c t n it = sym (free (no_room it.excess (nat_le limits.runs (length t.runs)) (nat_le limits.numbers t.next)) t.next n it.number_is)

-- the answer where a file is inserted under its number, or has none
abbrev by_number : Result ℕ Refusal → Answer
by_number (Ok n) = Run n
by_number (Err refusal) = Refused refusal

as_numbered : (r : Option Refusal) (n : ℕ) (number : Result ℕ Refusal) → number ≡ number_unless r n → refused_or r (Run n) ≡ by_number number
as_numbered None n number is = ap by_number (sym is)
as_numbered (Some refusal) n number is = ap by_number (sym is)

-- ---- over lines, whatever they represent

module _ (limits : Limits) (kind : Kind) (label : List ℕ) (parsed : ParsedFile) (Left : Tables → Type 0) (t : Tables) where
  takes_known : (found : Option ℕ) (file : Result (FileHead × FileRows) (Fault × ℕ)) (answer : Answer) → AnswersUnchanged limits t found file answer → Left t → TakesIn limits kind label parsed.digest Left t found file answer
  takes_known (Some n) file answer is left = (is, left)
  takes_known None (Err fault) answer is left = (is, left)
  takes_known None (Ok file) answer it left = record { number = Err it.0; is_number = it.1; inserts = (it.2, left) }

  pub known_in : (answer : Answer) → IsKnown limits parsed t answer → Left t → IsImported limits kind label parsed Left t answer
  known_in answer it left = record { found = it.found; is_found = it.is_found; takes = takes_known it.found parsed.file answer it.unchanged left }

  pub run_in : (n : ℕ) (file : SummedFile) → GetsNumber limits parsed t n file → Left (with_summed n kind parsed.digest label file t) → IsImported limits kind label parsed Left t (Run n)
  run_in n file it left = record {
    found = None;
    is_found = it.is_new;
    takes = subst (λ f. TakesIn limits kind label parsed.digest Left t None f (Run n)) (sym it.file_is) (record { number = Ok n; is_number = it.is_number; inserts = (refl, left) });
  }

-- an answer that is known says that nothing has changed
pub unaccepted : (limits : Limits) (t : Tables) (found : Option ℕ) (file : Result (FileHead × FileRows) (Fault × ℕ)) (answer : Answer) → AnswersUnchanged limits t found file answer → is_accepted answer ≡ false
unaccepted limits t (Some n) file answer is = ap is_accepted is
unaccepted limits t None (Err fault) answer is = ap is_accepted is
unaccepted limits t None (Ok file) answer it = ap is_accepted it.2

-- ---- over lines that represent a history

module _ (limits : Limits) (kind : Kind) (label : List ℕ) (outcomes : List Outcome) (ended : HasEnded limits.bytes outcomes) (parsed : ParsedFile) (is : IsParsedOf kind (bytes_of outcomes) parsed) (h : History) (t : Tables) (was : AreSound t) (represent : TablesRepresent h t) where
  abbrev IsExpected : Answer → Type 0
  IsExpected answer = expected_answer limits h (Import (today kind) label outcomes) ≡ Some answer

  found_told : (found : Option ℕ) → IsRunOf parsed.digest t found → number_of (sha256 (bytes_of outcomes)) (held h) ≡ found
  found_told found it = ap (λ d. number_of d (held h)) (sym is.digest) ∙ tells_digest h t represent parsed.digest found it

  -- of a file without a fault that is not held
  numbered_expected : (file : FileHead × FileRows) → IsFileOf kind (bytes_of outcomes) (Ok file) → number_of (sha256 (bytes_of outcomes)) (held h) ≡ None
      → (number : Result ℕ Refusal) → IsNumber limits file.0 (content_of file.1) t number → IsExpected (by_number number)
  numbered_expected file whole new number it =
      room_expected limits h kind label outcomes ended new whole.0
      ∙ ap (λ a. Some a) (as_numbered (room_refusal limits h kind (bytes_of outcomes)) (next h) number (number_told h t kind (bytes_of outcomes) file.0 (content_of file.1) was represent whole.1 whole.2 limits number it))

  known_expected : (found : Option ℕ) (file : Result (FileHead × FileRows) (Fault × ℕ)) (answer : Answer) → number_of (sha256 (bytes_of outcomes)) (held h) ≡ found → IsFileOf kind (bytes_of outcomes) file
      → AnswersUnchanged limits t found file answer → IsExpected answer
  known_expected (Some n) file answer found whole it = held_expected limits h kind label outcomes ended n found ∙ ap (λ a. Some a) (sym it)
  known_expected None (Err fault) answer found whole it = fault_expected limits h kind label outcomes ended found fault whole ∙ ap (λ a. Some a) (sym it)
  known_expected None (Ok file) answer found whole it = numbered_expected file whole found (Err it.0) it.1 ∙ ap (λ a. Some a) (sym it.2)

  pub is_known_expected : (answer : Answer) → IsKnown limits parsed t answer → IsExpected answer
  is_known_expected answer it = known_expected it.found parsed.file answer (found_told it.found it.is_found) is.file it.unchanged

  module _ (n : ℕ) (file : SummedFile) (it : GetsNumber limits parsed t n file) where
    whole : IsFileOf kind (bytes_of outcomes) (Ok (file.head.now, file.rows.now))
    whole = subst (IsFileOf kind (bytes_of outcomes)) it.file_is is.file

    pub run_expected : IsExpected (Run n)
    run_expected = numbered_expected (file.head.now, file.rows.now) whole (found_told None it.is_new) (Ok n) it.is_number

    -- the lines with the file in them represent the history with its import
    pub run_told : IsInForm (Import (today kind) label outcomes) → AreSound (with_summed n kind parsed.digest label file t)
        → TablesRepresent (with_step h (Import (today kind) label outcomes) (Run n)) (with_summed n kind parsed.digest label file t)
    run_told form sound =
        subst₂ (λ m d. AreSound (with_summed m kind d label file t) → IsExpected (Run m) → TablesRepresent (with_step h (Import (today kind) label outcomes) (Run m)) (with_summed m kind d label file t))
        (next_of limits file.head.now (content_of file.rows.now) t n it.is_number) (sym is.digest)
        (λ next_sound expected. tell_insert limits h kind label outcomes file.head.now (content_of file.rows.now) t was next_sound represent (inl (form, inl expected)) whole.1 whole.2)
        sound run_expected
