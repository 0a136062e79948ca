-- What a store holds, as plain lists.
use Rattle.std.specs.Prelude.{ℕ, List, [], Option}

-- a run that is held; its kind is 1 for Callgrind and 2 for folded stacks
pub record RunRow : Type 0 where
  pub number : ℕ
  pub kind : ℕ
  pub digest : List ℕ
  pub label : List ℕ
  pub call_count : ℕ

-- an event of a run: its column, its name, its sums, and the total that the file states, in decimal
pub record EventRow : Type 0 where
  pub run : ℕ
  pub place : ℕ
  pub name : List ℕ
  pub self_cost : ℕ
  pub call_cost : ℕ
  pub stated : Option (List ℕ)

-- a derived event of a run
pub record DerivedRow : Type 0 where
  pub run : ℕ
  pub place : ℕ
  pub name : List ℕ

-- how often an event counts in a derived one
pub record CoefRow : Type 0 where
  pub run : ℕ
  pub place : ℕ
  pub event : ℕ
  pub times : ℕ

-- a name and its number
pub record NameRow : Type 0 where
  pub number : ℕ
  pub name : List ℕ

-- the sum of an event's self costs at a place, names by number
pub record StoredCell : Type 0 where
  pub run : ℕ
  pub object : ℕ
  pub file : ℕ
  pub function : ℕ
  pub line : ℕ
  pub thread : ℕ
  pub event : ℕ
  pub cost : ℕ

-- a part of the calls from a place to a function: part 0 counts them, part k + 1 is their cost in column k
pub record StoredCall : Type 0 where
  pub run : ℕ
  pub object : ℕ
  pub file : ℕ
  pub function : ℕ
  pub line : ℕ
  pub called_object : ℕ
  pub called_file : ℕ
  pub called_function : ℕ
  pub part : ℕ
  pub sum : ℕ

-- how often a stack was seen
pub record StoredStack : Type 0 where
  pub run : ℕ
  pub frames : List ℕ
  pub count : ℕ

pub record GroupRow : Type 0 where
  pub name : List ℕ
  pub baseline : Option ℕ

pub record MemberRow : Type 0 where
  pub group : List ℕ
  pub run : ℕ

-- the next run's number, and the rows of each table
pub record Tables : Type 0 where
  pub next : ℕ
  pub runs : List RunRow
  pub events : List EventRow
  pub derived : List DerivedRow
  pub coefs : List CoefRow
  pub names : List NameRow
  pub cells : List StoredCell
  pub calls : List StoredCall
  pub stacks : List StoredStack
  pub groups : List GroupRow
  pub members : List MemberRow

-- a new store
abbrev pub new_tables : Tables
new_tables = record { next = 1; runs = []; events = []; derived = []; coefs = []; names = []; cells = []; calls = []; stacks = []; groups = []; members = [] }
