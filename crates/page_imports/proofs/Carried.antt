-- What can be put into tables still can be, where others have changed.
use Rattle.std.proofs.Common.{◌≡◌, ℕ, List, map, refl, sym, subst}
use Rattle.cost_rows.specs.Content.{Content}
use Rattle.sqlite_rules.proofs.ListLemmas.{has_got}
use Rattle.sqlite_schema.specs.declared.schema.Table.{Table}
use Rattle.sqlite_trees.specs.Tree.{Trees}
use Rattle.sqlite_value.specs.Order.{Row}
use Rattle.line_fills.specs.Causes.{CanBeFilledIn}
use Rattle.plain_tables.specs.Files.{all_named, numbers_in}
use Rattle.plain_tables.specs.Tables.{Tables}
use Rattle.run_stores.specs.Files.{call_rows, cell_rows, stack_rows}
use Rattle.page_places.specs.Places.{indexes_of}
use Rattle.prof_store.specs.Schema.{schema_two, name_at, arc_at, stack_at, thread_cell_at}
use Rattle.prof_store.specs.Tables.{cell_columns, arc_columns, stack_columns}
use Rattle.page_imports.specs.Causes.{CanBePut, CanPutCalls, CanPutCells, CanPutRows, CanPutStacks}
use Rattle.page_imports.specs.Steps.{KeepsOthers, head_tables}

pub put_still : (table : Table) (lines : List Row) (now next : Trees) → next table.tree ≡ now table.tree → CanBePut table lines now → CanBePut table lines next
put_still table lines now next same = subst (λ rows. CanBeFilledIn lines rows (indexes_of schema_two table)) (sym same)

module _ (run : ℕ) (c : Content) (t : Tables) {now next : Trees} (numbers : List ℕ) (is : numbers ≡ numbers_in (all_named c.names t) c.names) (can : CanPutRows run c t now) where
  pub cells_still : next thread_cell_at.tree ≡ now thread_cell_at.tree → CanPutCells run numbers c.cells next
  cells_still same =
      let cells = subst (λ n. CanPutCells run n c.cells now) (sym is) can.cells in
      record { fit = cells.fit; put = put_still thread_cell_at (map cell_columns (cell_rows run numbers c.cells)) now next same cells.put }

  pub calls_still : next arc_at.tree ≡ now arc_at.tree → CanPutCalls run numbers c.calls next
  calls_still same =
      let calls = subst (λ n. CanPutCalls run n c.calls now) (sym is) can.calls in
      record { fit = calls.fit; put = put_still arc_at (map arc_columns (call_rows run numbers c.calls)) now next same calls.put }

module _ (run : ℕ) (c : Content) (t : Tables) {now next : Trees} (can : CanPutRows run c t now) where
  pub stacks_still : next stack_at.tree ≡ now stack_at.tree → CanPutStacks run c.stacks next
  stacks_still same = record { fit = can.stacks.fit; put = put_still stack_at (map stack_columns (stack_rows run c.stacks)) now next same can.stacks.put }

  -- the rows of a file, once the head is put in
  pub rows_still : KeepsOthers head_tables now next → CanPutRows run c t next
  rows_still kept = record {
    names = record { numbers = can.names.numbers; put = λ news is. put_still name_at _ now next (kept name_at (has_got schema_two.tables 5 name_at refl) refl) (can.names.put news is) };
    cells = cells_still run c t (numbers_in (all_named c.names t) c.names) refl can (kept thread_cell_at (has_got schema_two.tables 10 thread_cell_at refl) refl);
    calls = calls_still run c t (numbers_in (all_named c.names t) c.names) refl can (kept arc_at (has_got schema_two.tables 6 arc_at refl) refl);
    stacks = stacks_still (kept stack_at (has_got schema_two.tables 7 stack_at refl) refl);
  }
