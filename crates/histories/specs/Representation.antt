-- When tables represent a history.
use Rattle.std.specs.Prelude.{◌≡◌, ℕ, suc, Bool, List, [], ◌∷◌, map}
use Rattle.std.specs.List.{AllByRecursion}
use Rattle.sha2.specs.Sha256.{sha256}
use Rattle.cg_formulas.specs.declared.heads.FileHead.{FileHead}
use Rattle.cost_rows.specs.Sums.{Spot, self_sum, call_sum, count_sum, has_call}
use Rattle.cost_rows.specs.StackSums.{frames_sum}
use Rattle.cost_rows.specs.WalkSums.{rows_cost, stacks_count}
use Rattle.cost_rows.specs.Walks.{HaveCosts, HaveCounts}
use Rattle.plain_tables.specs.Changes.{has_member}
use Rattle.plain_tables.specs.Tables.{Tables, EventRow, GroupRow}
use Rattle.run_stores.specs.Book.{RunBook, book_of, IsNamed}
use Rattle.run_stores.specs.BookEntries.{HeldRun}
use Rattle.run_stores.specs.Heads.{stated_at, derived_rows_from, coef_rows_from}
use Rattle.plain_tables.specs.Sound.{AreSound}
use Rattle.run_stores.specs.BookRuns.{with_file}
use Rattle.profile_records.specs.Kinds.{kind_number}
use Rattle.profile_records.specs.declared.kinds.Kind.{Kind}
use Rattle.run_stores.specs.Parts.{parts_sum, has_part, AreOfRows}
use Rattle.histories.specs.Formats.{kind_in, today}
use Rattle.histories.specs.Files.{events_of, derived_of, stated_of, records_of, stacks_of, rows_of, IsHeadOf}
use Rattle.byte_io.specs.Outcomes.{Outcome, bytes_of}
use Rattle.histories.specs.History.{Command, Import, History, File, with_step, held, next, groups, is_member, baseline}
use Rattle.histories.specs.Legal.{IsHistory, IsLegal}
use Rattle.histories.specs.Sums.{self_column, call_column, calls_of}
use Rattle.histories.specs.declared.answers.Answer.{Answer}
use Rattle.histories.specs.declared.answers.Answer.TheVariants.{Run}
use Rattle.histories.specs.declared.limits.Limits.{Limits}

-- ---- a run of the book and a file

-- a row for each event, with the sums of its column and what the file states
abbrev pub event_rows_from : File → ℕ → List (List ℕ) → List EventRow
event_rows_from f place [] = []
event_rows_from f place (event ∷ events) = record {
  run = f.number;
  place = place;
  name = event;
  self_cost = self_column f.format f.bytes place;
  call_cost = call_column f.format f.bytes place;
  stated = stated_at (stated_of f.format f.bytes) place;
} ∷ event_rows_from f (suc place) events

-- what the book says of a run is what its file says
pub record IsBookOf (f : File) (r : RunBook) : Type 0 where
  pub number : r.line.number ≡ f.number
  pub kind : r.line.kind ≡ kind_number (kind_in f.format)
  pub digest : r.line.digest ≡ sha256 f.bytes
  pub label : r.line.label ≡ f.label
  pub call_count : r.line.call_count ≡ calls_of f.format f.bytes
  pub events : r.events ≡ event_rows_from f 0 (events_of f.format f.bytes)
  pub derived : r.derived ≡ derived_rows_from f.number 0 (derived_of f.format f.bytes)
  pub coefs : r.coefs ≡ coef_rows_from f.number 0 (derived_of f.format f.bytes)
  -- for every test of places and each column, the cells sum to the self records
  pub cells : (passes : Spot → Bool) (k : ℕ) → rows_cost passes k r.cells ≡ self_sum passes k (records_of f.format f.bytes)
  -- for every test of calls, part 0 to how many there were, and part k + 1 to what they cost in column k
  pub counts : (passes : Spot → Spot → Bool) → parts_sum passes 0 r.parts ≡ count_sum passes (records_of f.format f.bytes)
  pub costs : (passes : Spot → Spot → Bool) (k : ℕ) → parts_sum passes (suc k) r.parts ≡ call_sum passes k (records_of f.format f.bytes)
  -- a part 0 that passes is there exactly where a call record is, of whatever count and cost
  pub called : (passes : Spot → Spot → Bool) → has_part passes r.parts ≡ has_call passes (records_of f.format f.bytes)
  -- for every test of frames, the stacks to what they count
  pub stacks : (passes : List ℕ → Bool) → stacks_count passes r.stacks ≡ frames_sum passes (stacks_of f.format f.bytes)
  -- the parts are those of whole rows of calls, and no row is 0 but a part 0
  pub whole : AreOfRows r.parts
  pub cells_above : HaveCosts r.cells
  pub stacks_above : HaveCounts r.stacks

-- each run is that of a file, in the same order
abbrev pub AreBooksOf : List File → List RunBook → Type 0
AreBooksOf [] [] = Unit {0}
AreBooksOf (f ∷ files) (r ∷ runs) = IsBookOf f r × AreBooksOf files runs
AreBooksOf files runs = ⊥

-- what is told of a file that is held
abbrev pub file_run : File → HeldRun
file_run f = record { number = f.number; kind = kind_number (kind_in f.format); digest = sha256 f.bytes; label = f.label }

-- ---- tables and a history

pub record TablesRepresent (h : History) (t : Tables) : Type 0 where
  pub legal : IsHistory h
  pub named : IsNamed t
  pub next : t.next ≡ next h
  pub runs : AreBooksOf (held h) (book_of t).runs
  pub groups : map (λ (g : GroupRow). g.name) t.groups ≡ groups h
  pub baselines : AllByRecursion (λ (g : GroupRow). g.baseline ≡ baseline h g.name) t.groups
  pub members : (name : List ℕ) (n : ℕ) → has_member t name n ≡ is_member h name n

-- ---- one step more

-- tables that represent a history become these, which represent it with the step, where the answer is legal
abbrev pub StepsInto : Command → Answer → Tables → Tables → Type 0
StepsInto command answer t after =
    (limits : Limits) (h : History) → TablesRepresent h t → IsLegal limits h command answer → TablesRepresent (with_step h command answer) after

-- the tables with a file more, under the next number
abbrev pub with_import : Kind → List ℕ → List Outcome → FileHead → Tables → Tables
with_import kind label outcomes head t =
    let bytes = bytes_of outcomes in
    with_file t.next kind (sha256 bytes) label head (rows_of kind bytes) t

-- the lines are sound, as they were before, and the head is that of the file
pub record IsInserted (kind : Kind) (label : List ℕ) (outcomes : List Outcome) (head : FileHead) (t : Tables) : Type 0 where
  pub was : AreSound t
  pub is : AreSound (with_import kind label outcomes head t)
  pub head_is : IsHeadOf kind head (bytes_of outcomes)

-- a file that is inserted is the import of it
abbrev pub IsImport : Kind → List ℕ → List Outcome → FileHead → Type 0
IsImport kind label outcomes head =
    (t : Tables) → IsInserted kind label outcomes head t → StepsInto (Import (today kind) label outcomes) (Run t.next) t (with_import kind label outcomes head t)

-- tables that represent a history with the one command represent it with the other, where the answer is legal to this
abbrev pub AreRepresentedAlike : Command → Command → Type 0
AreRepresentedAlike one other =
    (limits : Limits) (h : History) (answer : Answer) (t : Tables)
    → IsHistory h → IsLegal limits h other answer → TablesRepresent (with_step h one answer) t → TablesRepresent (with_step h other answer) t
