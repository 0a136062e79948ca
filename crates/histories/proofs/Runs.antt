-- What tables that represent a history tell of one run and of one group.
use Rattle.std.proofs.Common.{◌≡◌, ℕ, suc, true, ◌==◌, eqb, List, [], ◌∷◌, map, refl, sym, ap, subst, ◌∙◌, inl, inr}
use Rattle.std.specs.List.{list_any, AllByRecursion}
use Rattle.std.proofs.lemmas.Bool.{eqb-true, or_cases}
use Rattle.plain_tables.specs.Lists.{Has}
use Rattle.cost_rows.specs.Sums.{call_sum, count_sum, has_call}
use Rattle.plain_tables.specs.Tables.{Tables, RunRow, GroupRow}
use Rattle.plain_tables.specs.Changes as changes
use Rattle.run_stores.specs.Book.{run_held}
use Rattle.run_stores.specs.Parts.{parts_sum, has_part}
use Rattle.run_stores.proofs.Parts.{counts_are, costs_are, calls_are}
use Rattle.histories.specs.Files.{records_of}
use Rattle.histories.specs.History.{History, File, held, baseline}
use Rattle.histories.specs.Representation.{AreBooksOf, IsBookOf, TablesRepresent}
use Rattle.histories.specs.Told.{IsHeldAs, RowsAgree, GroupAgrees}
use Rattle.histories.proofs.Texts.{tells_members}

-- ---- runs

-- a run of the book that is a file's
pub record IsRunOf (t : Tables) (lines : List RunRow) (f : File) : Type 0 where
  pub line : RunRow
  pub there : Has lines line
  pub book : IsBookOf f (run_held t line)

-- one of these files with its run
record IsOneOf (t : Tables) (lines : List RunRow) (files : List File) (n : ℕ) : Type 0 where
  file : File
  there : Has files file
  number : file.number ≡ n
  run : IsRunOf t lines file

module _ (t : Tables) where
  later_run : (r : RunRow) (lines : List RunRow) (f : File) → IsRunOf t lines f → IsRunOf t (r ∷ lines) f
  later_run r lines f is = record { line = is.line; there = inr is.there; book = is.book }

  pub run_of : (lines : List RunRow) (files : List File) (f : File) → AreBooksOf files (map (run_held t) lines) → Has files f → IsRunOf t lines f
  run_of lines [] f all there = absurd there
  run_of [] (g ∷ files) f all there = absurd all
  run_of (r ∷ lines) (g ∷ files) f all (inl same) = record { line = r; there = inl refl; book = subst (λ e. IsBookOf e (run_held t r)) (sym same) all.0 }
  run_of (r ∷ lines) (g ∷ files) f all (inr later) = later_run r lines f (run_of lines files f all.1 later)

  file_of : (n : ℕ) (lines : List RunRow) (files : List File) → AreBooksOf files (map (run_held t) lines) → list_any (λ (r : RunRow). r.number == n) lines ≡ true → IsOneOf t lines files n
  file_of n [] files all there = absurd cc
  file_of n (r ∷ lines) [] all there = absurd all
  file_of n (r ∷ lines) (f ∷ files) all there = elim (or_cases (eqb r.number n) (list_any (λ (q : RunRow). q.number == n) lines) there) [
    | inl here ↦ record { file = f; there = inl refl; number = sym all.0.number ∙ eqb-true r.number n here; run = record { line = r; there = inl refl; book = all.0 } }
    | inr later ↦
        let rest = file_of n lines files all.1 later in
        record { file = rest.file; there = inr rest.there; number = rest.number; run = later_run r lines rest.file rest.run }
  ]

pub held_as : (h : History) (t : Tables) → TablesRepresent h t → (n : ℕ) → changes.has_run t n ≡ true → IsHeldAs h t n
held_as h t represent n there =
    let is = file_of t n t.runs (held h) represent.runs there in
    record { file = is.file; is_held = is.there; number = is.number; line = is.run.line; in_tables = is.run.there; book = is.run.book }

-- its rows, of the run of the book, and so of its number
rows_of_book : (t : Tables) (r : RunRow) (f : File) → IsBookOf f (run_held t r) → RowsAgree (record f { number = r.number }) t
rows_of_book t r f is = record {
  cells = is.cells;
  calls = λ rows are. record {
    counts = λ passes. counts_are passes rows ∙ subst (λ parts. parts_sum passes 0 parts ≡ count_sum passes (records_of f.format f.bytes)) are (is.counts passes);
    costs = λ passes k. costs_are passes k rows ∙ subst (λ parts. parts_sum passes (suc k) parts ≡ call_sum passes k (records_of f.format f.bytes)) are (is.costs passes k);
    called = λ passes. calls_are passes rows ∙ subst (λ parts. has_part passes parts ≡ has_call passes (records_of f.format f.bytes)) are (is.called passes);
  };
  stacks = is.stacks;
  whole = is.whole;
  cells_above = is.cells_above;
  stacks_above = is.stacks_above;
}

pub tells_rows : (h : History) (t : Tables) → TablesRepresent h t → (f : File) → Has (held h) f → RowsAgree f t
tells_rows h t represent f there =
    let is = run_of t t.runs (held h) f represent.runs there in
    subst (λ n. RowsAgree (record f { number = n }) t) is.book.number (rows_of_book t is.line f is.book)

-- ---- groups

baseline_of : (h : History) (lines : List GroupRow) (g : GroupRow) → AllByRecursion (λ (g : GroupRow). g.baseline ≡ baseline h g.name) lines → Has lines g → g.baseline ≡ baseline h g.name
baseline_of h [] g all there = absurd there
baseline_of h (l ∷ lines) g all (inl same) = subst (λ (k : GroupRow). k.baseline ≡ baseline h k.name) (sym same) all.0
baseline_of h (l ∷ lines) g all (inr later) = baseline_of h lines g all.1 later

pub tells_group_of : (h : History) (t : Tables) → TablesRepresent h t → (name : List ℕ) → GroupAgrees h t name
tells_group_of h t represent name = record {
  member = represent.members name;
  members = λ numbers are up. tells_members (λ (e : Unit {0}). name) (λ e. baseline h name) (λ e. numbers) h t [] represent tt are up;
  baseline = λ g there is. baseline_of h t.groups g represent.baselines there ∙ ap (baseline h) is;
}
