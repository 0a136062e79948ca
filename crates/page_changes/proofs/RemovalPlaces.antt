-- Where the tables of runs stand in a transaction over a store.
use Rattle.std.proofs.Common.{◌≡◌, ◌==◌, ℕ, pos, List, is_eq, not, filter, sym, ap, subst, ◌∙◌, arith}
use Rattle.std.proofs.lemmas.Bool.Decides.{nat_tests}
use Rattle.std.proofs.lemmas.Int.{ints}
use Rattle.sqlite_disk.specs.declared.Disk.{Ghosts}
use Rattle.sqlite_schema.specs.declared.schema.Table.{Table}
use Rattle.sqlite_store.specs.declared.catalog.Wanted.{Wanted}
use Rattle.sqlite_trees.specs.declared.store.Shape.TheVariants as shape
use Rattle.sqlite_trees.specs.Tree.{Trees}
use Rattle.sqlite_value.specs.declared.value.Value.TheVariants.{Int}
use Rattle.sqlite_value.specs.Order.{value_cmp}
use Rattle.sqlite_value.proofs.OrderLemmas.{value_cmp-Int}
use Rattle.page_files.specs.declared.files.PageFile.{PageFile}
use Rattle.page_files.specs.Held.{Writes}
use Rattle.plain_tables.specs.Tables.{Tables, EventRow, DerivedRow, CoefRow, StoredCell, StoredCall, StoredStack}
use Rattle.page_places.specs.Changes.{HasRows}
use Rattle.row_writes.specs.Tests.{rows_left}
use Rattle.row_writes.specs.Under.{is_under}
use Rattle.prof_store.specs.Schema.{schema_two, run_event_at, derived_at, coef_at, thread_cell_at, arc_at, stack_at}
use Rattle.prof_store.specs.Tables.{Holds}
use Rattle.sqlite_trees.specs.View.{IsShaped}
use Rattle.page_places.proofs.Runs.{calls_taken_out, cells_taken_out, coefs_taken_out, derived_taken_out, events_taken_out, stacks_taken_out}

-- numbers as SQL compares them
pub same_number : (m n : ℕ) → is_eq (value_cmp (Int (pos m)) (Int (pos n))) ≡ (m == n)
same_number m n = ap is_eq (value_cmp-Int (pos m) (pos n)) ∙ grind (arith, ints, nat_tests)

-- ---- the rows of a run in one table

module _ {D : Type 0} {g : Ghosts D} (n : ℕ) (new : PageFile D g) (wanted : List Wanted) (known : List ℕ) (was now : Trees) (t : Tables) (holds : Holds t now) where
  -- what the erased rows leave of the tables
  pub record Left (table : Table) (change : Tables → Tables) : Type 0 where
    pub next : Trees
    pub writes : Writes wanted known was next new
    pub holds_left : Holds (change t) next

  abbrev Erased : Table → Type 0
  Erased table = HasRows schema_two wanted known was now table (rows_left (is_under (pos n)) (now table.tree)) new

  pub events_out : Erased run_event_at → Left run_event_at (λ s. record s { events = filter (λ (x : EventRow). not (x.run == n)) s.events })
  events_out h = record {
    next = h.next;
    writes = h.writes;
    holds_left = events_taken_out t now h.next holds n (λ r. not (is_under (pos n) r)) h.only (subst (IsShaped shape.Table) (sym h.rows_are) h.shaped) h.rows_are (λ id x there. ap not (same_number x.run n));
  }

  pub derived_out : Erased derived_at → Left derived_at (λ s. record s { derived = filter (λ (x : DerivedRow). not (x.run == n)) s.derived })
  derived_out h = record {
    next = h.next;
    writes = h.writes;
    holds_left = derived_taken_out t now h.next holds n (λ r. not (is_under (pos n) r)) h.only (subst (IsShaped shape.Table) (sym h.rows_are) h.shaped) h.rows_are (λ id x there. ap not (same_number x.run n));
  }

  pub coefs_out : Erased coef_at → Left coef_at (λ s. record s { coefs = filter (λ (x : CoefRow). not (x.run == n)) s.coefs })
  coefs_out h = record {
    next = h.next;
    writes = h.writes;
    holds_left = coefs_taken_out t now h.next holds n (λ r. not (is_under (pos n) r)) h.only (subst (IsShaped shape.Table) (sym h.rows_are) h.shaped) h.rows_are (λ id x there. ap not (same_number x.run n));
  }

  pub cells_out : Erased thread_cell_at → Left thread_cell_at (λ s. record s { cells = filter (λ (x : StoredCell). not (x.run == n)) s.cells })
  cells_out h = record {
    next = h.next;
    writes = h.writes;
    holds_left = cells_taken_out t now h.next holds n (λ r. not (is_under (pos n) r)) h.only (subst (IsShaped shape.Table) (sym h.rows_are) h.shaped) h.rows_are (λ id x there. ap not (same_number x.run n));
  }

  pub calls_out : Erased arc_at → Left arc_at (λ s. record s { calls = filter (λ (x : StoredCall). not (x.run == n)) s.calls })
  calls_out h = record {
    next = h.next;
    writes = h.writes;
    holds_left = calls_taken_out t now h.next holds n (λ r. not (is_under (pos n) r)) h.only (subst (IsShaped shape.Table) (sym h.rows_are) h.shaped) h.rows_are (λ id x there. ap not (same_number x.run n));
  }

  pub stacks_out : Erased stack_at → Left stack_at (λ s. record s { stacks = filter (λ (x : StoredStack). not (x.run == n)) s.stacks })
  stacks_out h = record {
    next = h.next;
    writes = h.writes;
    holds_left = stacks_taken_out t now h.next holds n (λ r. not (is_under (pos n) r)) h.only (subst (IsShaped shape.Table) (sym h.rows_are) h.shaped) h.rows_are (λ id x there. ap not (same_number x.run n));
  }

-- what follows from what is left
pub after : {D : Type 0} {g : Ghosts D} {n : ℕ} {new : PageFile D g} {wanted : List Wanted} {known : List ℕ} {was now : Trees} {t : Tables} {holds : Holds t now}
    {table : Table} {change : Tables → Tables} {X : Type 0} → Left n new wanted known was now t holds table change
    → ((next : Trees) → Writes wanted known was next new → Holds (change t) next → X) → X
after left so = so left.next left.writes left.holds_left
