-- What tables that represent a history tell of it.
use Rattle.std.specs.Prelude.{◌≡◌, ◌≢◌, ◌≤◌, ◌<◌, ℕ, Bool, List, Option, length, map, filter, flat_map, option_map, bytes_eq, IsPermutation}
use Rattle.std.specs.List.{AllAdjacentBelow}
use Rattle.std.specs.Option.{MatchOption}
use Rattle.plain_tables.specs.Lists.{Has}
use Rattle.cg_formulas.specs.declared.heads.FileHead.{FileHead}
use Rattle.profile_records.specs.Records.{Record}
use Rattle.cost_rows.specs.Admit.{bound, overflow_of}
use Rattle.cost_rows.specs.StackSums.{frames_sum}
use Rattle.cost_rows.specs.Sums.{Spot, self_sum, call_sum, count_sum, has_call}
use Rattle.cost_rows.specs.Totals.{AreTotals}
use Rattle.cost_rows.specs.WalkSums.{rows_cost, calls_cost, calls_count, has_calls, stacks_count}
use Rattle.cost_rows.specs.Walks.{HaveCosts, HaveCounts}
use Rattle.cost_rows.specs.declared.rows.ArcRow.{ArcRow}
use Rattle.cost_rows.specs.declared.rows.FileTotals.{FileTotals}
use Rattle.plain_tables.specs.Changes as changes
use Rattle.plain_tables.specs.Tables.{Tables, RunRow, GroupRow, MemberRow}
use Rattle.run_stores.specs.Book.{cells_held, parts_held, parts_of, run_held, stacks_held}
use Rattle.run_stores.specs.BookEntries.{held_run}
use Rattle.run_stores.specs.Parts.{AreOfRows}
use Rattle.run_stores.specs.Totals.{held_self, held_calls, IsHeldIn}
use Rattle.profile_records.specs.declared.kinds.Kind.{Kind}
use Rattle.histories.specs.Formats.{today}
use Rattle.histories.specs.Files.{events_of, derived_of, records_of, rows_of, stacks_of, stated_of}
use Rattle.histories.specs.History.{History, File, held, next, groups, is_member, members, baseline}
use Rattle.histories.specs.Legal.{number_of, has_run, has_group}
use Rattle.histories.specs.Representation.{IsBookOf, file_run}
use Rattle.histories.specs.Sums.{self_held, calls_cost_held, calls_held, excess_of, excess_at}

-- no line has this digest, or one has it, and this number
abbrev pub IsFound : Tables → List ℕ → Option ℕ → Type 0
IsFound t digest found =
    MatchOption found
    ((r : RunRow) → Has t.runs r → r.digest ≢ digest)
    (λ n. (r : RunRow) × Has t.runs r × (r.digest ≡ digest) × (r.number ≡ n))

-- which runs are held, by number and by digest, and which groups
pub record HeldAgrees (h : History) (t : Tables) : Type 0 where
  pub next : t.next ≡ next h
  pub run : (n : ℕ) → changes.has_run t n ≡ has_run h n
  pub runs : length t.runs ≡ length (held h)
  pub each_run : map held_run t.runs ≡ map file_run (held h)
  pub digest : (digest : List ℕ) (found : Option ℕ) → IsFound t digest found → number_of digest (held h) ≡ found
  pub group : (name : List ℕ) → changes.has_group t name ≡ has_group h name
  pub groups : length t.groups ≡ length (groups h)

-- the sums over the files that are held, by event, and what does not fit beside them
pub record SumsAgree (h : History) (t : Tables) : Type 0 where
  pub self_cost : (name : List ℕ) → held_self t name ≡ self_held (held h) name
  pub call_cost : (name : List ℕ) → held_calls t name ≡ calls_cost_held (held h) name
  pub excess : (kind : Kind) (bytes : List ℕ) (held_totals file_totals : FileTotals)
      → IsHeldIn t (events_of (today kind) bytes) held_totals → AreTotals file_totals (rows_of kind bytes) (length (events_of (today kind) bytes))
      → excess_of (held h) (today kind) bytes ≡ option_map (excess_at (events_of (today kind) bytes)) (overflow_of held_totals file_totals)

-- no sum over files passes its bound, which is 2^63-1
pub record SumsFit (files : List File) : Type 0 where
  pub self_cost : (name : List ℕ) → self_held files name ≤ bound
  pub call_cost : (name : List ℕ) → calls_cost_held files name ≤ bound
  pub call_count : calls_held files ≤ bound

-- ---- one run

-- a number that is held is that of a file, and of the run of the book that tells of the file
pub record IsHeldAs (h : History) (t : Tables) (n : ℕ) : Type 0 where
  pub file : File
  pub is_held : Has (held h) file
  pub number : file.number ≡ n
  pub line : RunRow
  pub in_tables : Has t.runs line
  pub book : IsBookOf file (run_held t line)

-- rows of calls that sum to call records, for every test of calls
pub record CallsSum (rows : List (ArcRow (List ℕ) (List ℕ))) (records : List Record) : Type 0 where
  pub counts : (passes : Spot → Spot → Bool) → calls_count passes rows ≡ count_sum passes records
  pub costs : (passes : Spot → Spot → Bool) (k : ℕ) → calls_cost passes k rows ≡ call_sum passes k records
  pub called : (passes : Spot → Spot → Bool) → has_calls passes rows ≡ has_call passes records

-- the rows of the file's number sum to what the file says: cells and stacks as they stand, and calls row by row of which the parts are those
pub record RowsAgree (f : File) (t : Tables) : Type 0 where
  pub cells : (passes : Spot → Bool) (k : ℕ) → rows_cost passes k (cells_held f.number t) ≡ self_sum passes k (records_of f.format f.bytes)
  pub calls : (rows : List (ArcRow (List ℕ) (List ℕ))) → parts_held f.number t ≡ flat_map parts_of rows → CallsSum rows (records_of f.format f.bytes)
  pub stacks : (passes : List ℕ → Bool) → stacks_count passes (stacks_held f.number t) ≡ frames_sum passes (stacks_of f.format f.bytes)
  pub whole : AreOfRows (parts_held f.number t)
  pub cells_above : HaveCosts (cells_held f.number t)
  pub stacks_above : HaveCounts (stacks_held f.number t)

-- ---- the head of a run

-- its events and its derived events are those of the file, with coefficients for just these events, and so are the totals that it states, where it has an event
pub record HeadAgrees (f : File) (head : FileHead) : Type 0 where
  pub events : head.events ≡ events_of f.format f.bytes
  pub wide : head.derived.events ≡ head.events
  pub derived : head.derived.derived ≡ derived_of f.format f.bytes
  pub stated : 0 < length head.events → head.stated ≡ stated_of f.format f.bytes

-- ---- one group

-- the runs of the lines of a group
abbrev pub AreMembersIn : Tables → List ℕ → List ℕ → Type 0
AreMembersIn t name numbers = IsPermutation (filter (λ (m : MemberRow). bytes_eq m.group name) t.members) (map (λ n. let m : MemberRow = record { group = name; run = n } in m) numbers)

-- its members and its baseline
pub record GroupAgrees (h : History) (t : Tables) (name : List ℕ) : Type 0 where
  pub member : (n : ℕ) → changes.has_member t name n ≡ is_member h name n
  pub members : (numbers : List ℕ) → AreMembersIn t name numbers → AllAdjacentBelow (λ a b. a < b) numbers (length numbers) → members h name ≡ numbers
  pub baseline : (g : GroupRow) → Has t.groups g → g.name ≡ name → g.baseline ≡ baseline h name
