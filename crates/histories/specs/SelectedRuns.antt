-- The runs of tables that a selection names, and what is sure of selections.
use Rattle.std.specs.Prelude.{◌≡◌, ℕ, Bool, true, ◌==◌, List, [], ◌∷◌, map, filter}
use Rattle.std.specs.List.Sorted.{IsStrictlySortedBy}
use Rattle.std.specs.Ordering.{nat_cmp}
use Rattle.plain_tables.specs.Changes.{has_member}
use Rattle.plain_tables.specs.Tables.{Tables, RunRow}
use Rattle.run_stores.specs.Book.{run_held}
use Rattle.histories.specs.History.{History, File, held, members}
use Rattle.histories.specs.Legal.{has_run}
use Rattle.histories.specs.Selections.{numbers_of, selected}
use Rattle.histories.specs.Representation.{AreBooksOf}
use Rattle.requests.specs.Plain.{Selection}
use Rattle.requests.specs.declared.selections.Selection.TheVariants as selections

-- ---- in tables

abbrev pub selects_in : Tables → Selection → ℕ → Bool
selects_in t selections.All n = true
selects_in t (selections.Run m) n = n == m
selects_in t (selections.Group name) n = has_member t name n

-- the runs that it names, in the order of their rows
abbrev pub runs_selected : Tables → Selection → List RunRow
runs_selected t s = filter (λ (r : RunRow). selects_in t s r.number) t.runs

-- ---- what is sure of them

-- each file is named once; a run that is held names its file, and a group those of its members
pub record AreSelected (h : History) : Type 0 where
  pub once : (s : Selection) → IsStrictlySortedBy nat_cmp (numbers_of (selected h s))
  pub all : selected h selections.All ≡ held h
  pub one : (n : ℕ) → has_run h n ≡ true → (f : File) × (selected h (selections.Run n) ≡ f ∷ []) × (f.number ≡ n)
  pub group : (name : List ℕ) → numbers_of (selected h (selections.Group name)) ≡ members h name

-- the runs that a selection names are those of the files that it names, in the same order
abbrev pub SelectionAgrees : History → Tables → Selection → Type 0
SelectionAgrees h t s = AreBooksOf (selected h s) (map (run_held t) (runs_selected t s))
