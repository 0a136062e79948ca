-- What a file that was read is answered over lines of tables, whatever they represent.
use Rattle.std.specs.Prelude.{◌≡◌, ℕ, nat_le, List, length, Option, Some, None, Result, Ok, Err, option_map}
use Rattle.cg_text.specs.declared.faults.Fault.{Fault}
use Rattle.cg_formulas.specs.declared.heads.FileHead.{FileHead}
use Rattle.cost_rows.specs.Admit.{overflow_of}
use Rattle.cost_rows.specs.Content.{Content}
use Rattle.cost_rows.specs.Rows.{content_of}
use Rattle.cost_rows.specs.Totals.{AreTotals}
use Rattle.cost_rows.specs.declared.file_rows.FileRows.{FileRows}
use Rattle.cost_rows.specs.declared.rows.FileTotals.{FileTotals}
use Rattle.run_stores.specs.BookRuns.{with_file}
use Rattle.run_stores.specs.Totals.{IsHeldIn}
use Rattle.run_stores.specs.Lookups.{IsRunOf}
use Rattle.run_stores.specs.declared.summed.SummedFile.{SummedFile}
use Rattle.plain_tables.specs.Tables.{Tables}
use Rattle.profile_records.specs.declared.kinds.Kind.{Kind}
use Rattle.histories.specs.Legal.{faulty}
use Rattle.histories.specs.Sums.{excess_at}
use Rattle.histories.specs.declared.answers.Answer.{Answer}
use Rattle.histories.specs.declared.answers.Answer.TheVariants as answers
use Rattle.histories.specs.declared.answers.Excess.{Excess}
use Rattle.histories.specs.declared.answers.Refusal.{Refusal}
use Rattle.histories.specs.declared.limits.Limits.{Limits}
use Rattle.file_reading.specs.declared.parser.ParsedFile.{ParsedFile}
use Rattle.store_commands.specs.Refused.{no_room, number_unless}

-- what would pass its bound with the file beside the runs of these lines
pub record IsExcess (head : FileHead) (content : Content) (t : Tables) (excess : Option Excess) : Type 0 where
  pub held : FileTotals
  pub added : FileTotals
  pub are_held : IsHeldIn t head.events held
  pub are_added : AreTotals added content (length head.events)
  pub excess_is : excess ≡ option_map (excess_at head.events) (overflow_of held added)

-- the number that the file gets, or why there is no room for it
pub record IsNumber (limits : Limits) (head : FileHead) (content : Content) (t : Tables) (number : Result ℕ Refusal) : Type 0 where
  pub excess : Option Excess
  pub is_excess : IsExcess head content t excess
  pub number_is : number ≡ number_unless (no_room excess (nat_le limits.runs (length t.runs)) (nat_le limits.numbers t.next)) t.next

-- by what is left: of tables with some lines
module _ (limits : Limits) (kind : Kind) (label digest : List ℕ) (Left : Tables → Type 0) where
  -- it is inserted under its number, or the tables stay
  abbrev pub InsertsIn : FileHead → Content → Tables → Result ℕ Refusal → Answer → Type 0
  InsertsIn head content t (Ok n) answer = (answer ≡ answers.Run n) × Left (with_file n kind digest label head content t)
  InsertsIn head content t (Err refusal) answer = (answer ≡ answers.Refused refusal) × Left t

  -- a file without a fault that is not held
  pub record IsInsertedIn (head : FileHead) (content : Content) (t : Tables) (answer : Answer) : Type 0 where
    pub number : Result ℕ Refusal
    pub is_number : IsNumber limits head content t number
    pub inserts : InsertsIn head content t number answer

  -- a run of its digest is held; or it has a fault; or it is inserted
  abbrev pub TakesIn : Tables → Option ℕ → Result (FileHead × FileRows) (Fault × ℕ) → Answer → Type 0
  TakesIn t (Some n) file answer = (answer ≡ answers.Held n) × Left t
  TakesIn t None (Err fault) answer = (answer ≡ faulty fault) × Left t
  TakesIn t None (Ok file) answer = IsInsertedIn file.0 (content_of file.1) t answer

-- a file that was read to its end
pub record IsImported (limits : Limits) (kind : Kind) (label : List ℕ) (parsed : ParsedFile) (Left : Tables → Type 0) (t : Tables) (answer : Answer) : Type 0 where
  pub found : Option ℕ
  pub is_found : IsRunOf parsed.digest t found
  pub takes : TakesIn limits kind label parsed.digest Left t found parsed.file answer

-- ---- before anything is changed

-- a run of its digest is held; or it has a fault; or there is no room for it
abbrev pub AnswersUnchanged : Limits → Tables → Option ℕ → Result (FileHead × FileRows) (Fault × ℕ) → Answer → Type 0
AnswersUnchanged limits t (Some n) file answer = answer ≡ answers.Held n
AnswersUnchanged limits t None (Err fault) answer = answer ≡ faulty fault
AnswersUnchanged limits t None (Ok file) answer = (refusal : Refusal) × IsNumber limits file.0 (content_of file.1) t (Err refusal) × (answer ≡ answers.Refused refusal)

-- the answer is known, and nothing is inserted
pub record IsKnown (limits : Limits) (parsed : ParsedFile) (t : Tables) (answer : Answer) : Type 0 where
  pub found : Option ℕ
  pub is_found : IsRunOf parsed.digest t found
  pub unchanged : AnswersUnchanged limits t found parsed.file answer

-- it is not held and has no fault, and this is its number
pub record GetsNumber (limits : Limits) (parsed : ParsedFile) (t : Tables) (n : ℕ) (file : SummedFile) : Type 0 where
  pub is_new : IsRunOf parsed.digest t None
  pub file_is : parsed.file ≡ Ok (file.head.now, file.rows.now)
  pub is_number : IsNumber limits file.head.now (content_of file.rows.now) t (Ok n)

-- the number and the file that are to be inserted, or the answer
abbrev pub IsAdmitted : Limits → ParsedFile → Tables → Result (ℕ × SummedFile) Answer → Type 0
IsAdmitted limits parsed t (Ok admitted) = GetsNumber limits parsed t admitted.0 admitted.1
IsAdmitted limits parsed t (Err answer) = IsKnown limits parsed t answer
