-- What is written of a file, and what it makes of the tables and of the book.
use Rattle.std.specs.Prelude.{◌≡◌, ℕ, List}
use Rattle.cg_formulas.specs.declared.heads.FileHead.{FileHead}
use Rattle.cost_rows.specs.Content.{Content}
use Rattle.cost_rows.specs.Held.{AreHeld}
use Rattle.cost_rows.specs.Totals.{count_total}
use Rattle.plain_tables.specs.Tables.{Tables, RunRow, EventRow, DerivedRow, CoefRow}
use Rattle.plain_tables.specs.Sound.{AreSound}
use Rattle.run_stores.specs.Book.{AreOf, RunBook, IsNamed, book_of, run_book, with_run_book}
use Rattle.run_stores.specs.Files.{with_rows, with_head}
use Rattle.run_stores.specs.Heads.{event_rows, derived_rows, coef_rows}
use Rattle.profile_records.specs.Kinds.{kind_number}
use Rattle.profile_records.specs.declared.kinds.Kind.{Kind}

-- what is written of a file: its run, the rows of its head, and its rows
pub record Filed : Type 0 where
  pub line : RunRow
  pub events : List EventRow
  pub derived : List DerivedRow
  pub coefs : List CoefRow
  pub rows : Content

-- the tables with it; the next number is one above its own
abbrev pub with_filed : Filed → Tables → Tables
with_filed f t = with_rows f.line.number f.rows (with_head f.line f.events f.derived f.coefs t)

-- what the book tells of it
abbrev pub filed_book : Filed → RunBook
filed_book f = run_book f.line f.events f.derived f.coefs f.rows

-- ---- a file that is inserted

-- its run, with the number of its calls
abbrev pub run_row_of : ℕ → Kind → List ℕ → List ℕ → Content → RunRow
run_row_of number kind digest label c = record { number = number; kind = kind_number kind; digest = digest; label = label; call_count = count_total c.calls }

-- what is written of it, under a number
abbrev pub filed : ℕ → Kind → List ℕ → List ℕ → FileHead → Content → Filed
filed number kind digest label head c = record {
  line = run_row_of number kind digest label c;
  events = event_rows number head c;
  derived = derived_rows number head;
  coefs = coef_rows number head;
  rows = c;
}

abbrev pub with_file : ℕ → Kind → List ℕ → List ℕ → FileHead → Content → Tables → Tables
with_file number kind digest label head c t = with_filed (filed number kind digest label head c) t

abbrev pub file_book : ℕ → Kind → List ℕ → List ℕ → FileHead → Content → RunBook
file_book number kind digest label head c = filed_book (filed number kind digest label head c)

-- ---- in the book

-- each row of its head says its run
abbrev pub IsOfItsRun : Filed → Type 0
IsOfItsRun f = AreOf f.line.number f.events f.derived f.coefs

-- it comes under the next number, and each number of its rows has a name
pub record IsNext (f : Filed) (t : Tables) : Type 0 where
  pub was : AreSound t
  pub is : AreSound (with_filed f t)
  pub named : IsNamed t
  pub held : AreHeld f.rows
  pub number : f.line.number ≡ t.next

-- it is in the book, behind the runs that were there, which are as they were
pub record IsInBook (f : Filed) (t : Tables) : Type 0 where
  pub book : book_of (with_filed f t) ≡ with_run_book (filed_book f) (book_of t)
  pub named : IsNamed (with_filed f t)

abbrev pub GoesInBook : Filed → Type 0
GoesInBook f = (t : Tables) → IsNext f t → IsInBook f t
