-- Rows with the numbers of their names, and the same with names in place; names that are told apart, and some of them.
use Rattle.std.specs.Prelude.{◌≡◌, ◌≢◌, ◌==◌, ◌<◌, ◌^◌, ℕ, Bool, false, List, Option, Some, None}
use Rattle.std.specs.List.{AllByRecursion}
use Rattle.cost_rows.specs.declared.rows.ArcRow.{ArcRow}
use Rattle.cost_rows.specs.declared.rows.CellRow.{CellRow}
use Rattle.plain_tables.specs.Tables.{NameRow}
use Rattle.run_stores.specs.Book.{name_of, IsHeld}

abbrev pub named_cell : List NameRow → CellRow ℕ → CellRow (List ℕ)
named_cell names r = record {
  object = name_of names r.object;
  file = name_of names r.file;
  function = name_of names r.function;
  line = r.line;
  thread = r.thread;
  event = r.event;
  cost = r.cost;
}

abbrev pub named_call : List NameRow → ArcRow ℕ (List ℕ) → ArcRow (List ℕ) (List ℕ)
named_call names r = record {
  object = name_of names r.object;
  file = name_of names r.file;
  function = name_of names r.function;
  line = r.line;
  called_object = name_of names r.called_object;
  called_file = name_of names r.called_file;
  called_function = name_of names r.called_function;
  count = r.count;
  costs = r.costs;
}

-- each number has 32 bits, as those that the program gives
abbrev pub AreNarrow : List NameRow → Type 0
AreNarrow names = AllByRecursion (λ (n : NameRow). n.number < 2 ^ 32) names

-- two numbers have two names
abbrev pub AreApart : List NameRow → Type 0
AreApart names = (n m : ℕ) → IsHeld names n → IsHeld names m → name_of names n ≡ name_of names m → n ≡ m

-- some of the names that are held, each under its number: those of these numbers, and there may be others
pub record AreAmong (numbers : List ℕ) (all some : List NameRow) : Type 0 where
  pub same : (n : ℕ) → IsHeld some n → IsHeld all n × (name_of some n ≡ name_of all n)
  pub whole : AllByRecursion (λ n. IsHeld all n → IsHeld some n) numbers

-- the number that has a name, or none where no number has it
abbrev pub IsNumberOf : List NameRow → List ℕ → Option ℕ → Type 0
IsNumberOf names name (Some n) = IsHeld names n × (name_of names n ≡ name)
IsNumberOf names name None = (n : ℕ) → name_of names n ≢ name

abbrev pub is_number : Option ℕ → ℕ → Bool
is_number (Some n) m = m == n
is_number None m = false
