-- What is held, with names in place of their numbers.
use Rattle.std.specs.Prelude.{◌≡◌, ℕ, suc, not, ◌==◌, if◌then◌else◌, List, [], ◌∷◌, ◌++◌, map, filter, flat_map}
use Rattle.std.specs.List.{AllByRecursion, list_any}
use Rattle.std.specs.Bool.{IsTrue}
use Rattle.cost_rows.specs.Above.{rows_above}
use Rattle.cost_rows.specs.Content.{Content}
use Rattle.cost_rows.specs.Walks.{named_cells, named_calls, counted_stacks}
use Rattle.cost_rows.specs.declared.rows.CellRow.{CellRow}
use Rattle.cost_rows.specs.declared.rows.ArcRow.{ArcRow}
use Rattle.cost_rows.specs.declared.rows.StackRow.{StackRow}
use Rattle.plain_tables.specs.Tables.{Tables, RunRow, EventRow, DerivedRow, CoefRow, NameRow, StoredCell, StoredCall, StoredStack, GroupRow, MemberRow}
use Rattle.plain_tables.specs.RunRows.{cells_in, calls_in, stacks_in}
use Rattle.plain_tables.specs.Changes.{has_baseline, unbased}

-- what stands for a name where there is none: no bytes are this
abbrev pub no_name : List ℕ
no_name = 256 ∷ []

-- the name of a number
abbrev pub name_of : List NameRow → ℕ → List ℕ
name_of [] n = no_name
name_of (line ∷ lines) n = if line.number == n then line.name else name_of lines n

-- ---- cells

abbrev pub cell_held : List NameRow → StoredCell → CellRow (List ℕ)
cell_held names c = record {
  object = name_of names c.object;
  file = name_of names c.file;
  function = name_of names c.function;
  line = c.line;
  thread = c.thread;
  event = c.event;
  cost = c.cost;
}

-- the sums of a run's self costs
abbrev pub cells_held : ℕ → Tables → List (CellRow (List ℕ))
cells_held run t = map (cell_held t.names) (cells_in run t)

-- ---- calls

-- a part of calls: part 0 counts them, part k + 1 is their cost in column k
pub record CallPart : Type 0 where
  pub object : List ℕ
  pub file : List ℕ
  pub function : List ℕ
  pub line : ℕ
  pub called_object : List ℕ
  pub called_file : List ℕ
  pub called_function : List ℕ
  pub part : ℕ
  pub sum : ℕ

abbrev pub part_held : List NameRow → StoredCall → CallPart
part_held names a = record {
  object = name_of names a.object;
  file = name_of names a.file;
  function = name_of names a.function;
  line = a.line;
  called_object = name_of names a.called_object;
  called_file = name_of names a.called_file;
  called_function = name_of names a.called_function;
  part = a.part;
  sum = a.sum;
}

-- the parts of a run's calls
abbrev pub parts_held : ℕ → Tables → List CallPart
parts_held run t = map (part_held t.names) (calls_in run t)

-- a part of a row of calls
abbrev pub part_of : ArcRow (List ℕ) (List ℕ) → ℕ → ℕ → CallPart
part_of r part sum = record {
  object = r.object;
  file = r.file;
  function = r.function;
  line = r.line;
  called_object = r.called_object;
  called_file = r.called_file;
  called_function = r.called_function;
  part = part;
  sum = sum;
}

-- the costs above 0, from a part on
abbrev pub parts_from : ArcRow (List ℕ) (List ℕ) → ℕ → List ℕ → List CallPart
parts_from r part costs = rows_above (part_of r) part costs

-- what a row of calls has: their number, always, and then their costs
abbrev pub parts_of : ArcRow (List ℕ) (List ℕ) → List CallPart
parts_of r = part_of r 0 r.count ∷ parts_from r 1 r.costs

-- ---- stacks

abbrev pub stack_held : StoredStack → StackRow (List ℕ)
stack_held s = record { stack = s.frames; count = s.count }

-- the counts of a run's stacks
abbrev pub stacks_held : ℕ → Tables → List (StackRow (List ℕ))
stacks_held run t = map stack_held (stacks_in run t)

-- ---- the book

-- a run: what it says of itself, and its rows
pub record RunBook : Type 0 where
  pub line : RunRow
  pub events : List EventRow
  pub derived : List DerivedRow
  pub coefs : List CoefRow
  pub cells : List (CellRow (List ℕ))
  pub parts : List CallPart
  pub stacks : List (StackRow (List ℕ))

pub record Book : Type 0 where
  pub next : ℕ
  pub runs : List RunBook
  pub groups : List GroupRow
  pub members : List MemberRow

abbrev pub run_held : Tables → RunRow → RunBook
run_held t r = record {
  line = r;
  events = filter (λ (e : EventRow). e.run == r.number) t.events;
  derived = filter (λ (d : DerivedRow). d.run == r.number) t.derived;
  coefs = filter (λ (c : CoefRow). c.run == r.number) t.coefs;
  cells = cells_held r.number t;
  parts = parts_held r.number t;
  stacks = stacks_held r.number t;
}

abbrev pub book_of : Tables → Book
book_of t = record { next = t.next; runs = map (run_held t) t.runs; groups = t.groups; members = t.members }

-- ---- the names that are used are held

abbrev pub IsHeld : List NameRow → ℕ → Type 0
IsHeld names n = IsTrue (list_any (λ (line : NameRow). line.number == n) names)

abbrev pub CellIsNamed : List NameRow → StoredCell → Type 0
CellIsNamed names c = IsHeld names c.object × IsHeld names c.file × IsHeld names c.function

abbrev pub CallIsNamed : List NameRow → StoredCall → Type 0
CallIsNamed names a = IsHeld names a.object × IsHeld names a.file × IsHeld names a.function × IsHeld names a.called_object × IsHeld names a.called_file × IsHeld names a.called_function

-- in tables that represent a book
pub record IsNamed (t : Tables) : Type 0 where
  pub cells : AllByRecursion (CellIsNamed t.names) t.cells
  pub calls : AllByRecursion (CallIsNamed t.names) t.calls

-- ---- the changes of the book

-- a run more, under the next number
abbrev pub with_run_book : RunBook → Book → Book
with_run_book r b = record b { next = suc r.line.number; runs = b.runs ++ r ∷ [] }

-- a run goes; groups lose it as a member and as a baseline
abbrev pub without_run_book : ℕ → Book → Book
without_run_book n b = record b {
  runs = filter (λ (r : RunBook). not (r.line.number == n)) b.runs;
  groups = map (λ g. if has_baseline n g then unbased g else g) b.groups;
  members = filter (λ (m : MemberRow). not (m.run == n)) b.members;
}

-- other groups and members
abbrev pub regrouped : List GroupRow → List MemberRow → Tables → Tables
regrouped groups members t = record t { groups = groups; members = members }

abbrev pub regrouped_book : List GroupRow → List MemberRow → Book → Book
regrouped_book groups members b = record b { groups = groups; members = members }

-- what a file is told as: what it says of itself, and its rows
abbrev pub run_book : RunRow → List EventRow → List DerivedRow → List CoefRow → Content → RunBook
run_book r events derived coefs c = record {
  line = r;
  events = events;
  derived = derived;
  coefs = coefs;
  cells = named_cells c.names c.cells;
  parts = flat_map parts_of (named_calls c.names c.calls);
  stacks = counted_stacks c.stacks;
}

-- a new store
abbrev pub new_book : Book
new_book = record { next = 1; runs = []; groups = []; members = [] }

-- rows that say of which run they are
pub record AreOf (n : ℕ) (events : List EventRow) (derived : List DerivedRow) (coefs : List CoefRow) : Type 0 where
  pub events_of : AllByRecursion (λ (e : EventRow). e.run ≡ n) events
  pub derived_of : AllByRecursion (λ (d : DerivedRow). d.run ≡ n) derived
  pub coefs_of : AllByRecursion (λ (k : CoefRow). k.run ≡ n) coefs
