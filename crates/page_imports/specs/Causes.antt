-- What an import needs, so that only the pages can fail.
use Rattle.std.specs.Prelude.{◌≡◌, ◌<◌, ◌^◌, ℕ, suc, List, map}
use Rattle.sqlite_disk.specs.declared.Disk.{Ghosts}
use Rattle.sqlite_schema.specs.declared.schema.Table.{Table}
use Rattle.sqlite_store.specs.declared.catalog.Wanted.{Wanted}
use Rattle.sqlite_trees.specs.Tree.{Trees}
use Rattle.sqlite_trees.specs.View.{IsStorableRow}
use Rattle.sqlite_value.specs.Order.{Row}
use Rattle.cost_rows.specs.Calls.{Calls}
use Rattle.cost_rows.specs.Content.{Content}
use Rattle.cost_rows.specs.Rows.{content_of}
use Rattle.cost_rows.specs.Totals.{count_total}
use Rattle.cost_rows.specs.declared.places.Call.{Call}
use Rattle.cost_rows.specs.declared.places.CellPlace.{CellPlace}
use Rattle.line_fills.specs.Causes.{CanBeFilledIn}
use Rattle.page_files.specs.declared.files.PageFile.{PageFile}
use Rattle.page_files.specs.Files.{IsFaithful}
use Rattle.page_files.specs.Held.{Rests}
use Rattle.page_places.specs.Failures.{FailsToStore}
use Rattle.page_places.specs.Names.{HasWideNumber}
use Rattle.plain_tables.specs.Files.{all_named, numbers_in}
use Rattle.plain_tables.specs.Tables.{Tables, RunRow, EventRow, DerivedRow, CoefRow}
use Rattle.plain_tables.specs.declared.errors.StoreError.{StoreError}
use Rattle.run_stores.specs.Files.{call_rows, cell_rows, stack_rows, with_head}
use Rattle.run_stores.specs.BookRuns.{Filed, filed}
use Rattle.profile_records.specs.declared.kinds.Kind.{Kind}
use Rattle.page_places.specs.Changes.{AreStorable}
use Rattle.page_places.specs.Places.{indexes_of}
use Rattle.page_imports.specs.RowFits.{HeadFits, StacksFit}
use Rattle.run_lists.specs.Listed.{AreListed}
use Rattle.run_lists.specs.declared.listed.RunLists.{RunLists}
use Rattle.run_stores.specs.declared.summed.SummedFile.{SummedFile}
use Rattle.prof_store.specs.Lines.{run_row, event_row, derived_row, coef_row}
use Rattle.prof_store.specs.Schema.{schema_two, meta_at, run_at, run_event_at, derived_at, coef_at, name_at, arc_at, stack_at, thread_cell_at}
use Rattle.prof_store.specs.Tables.{Holds, meta_columns, run_columns, event_columns, derived_columns, coef_columns, cell_columns, arc_columns, stack_columns}
use Rattle.prof_store.specs.declared.table_rows.HeadRows.{HeadRows}
use Rattle.prof_store.specs.declared.table_rows.RunRow.{RunRow as RunLine}
use Rattle.page_imports.specs.Fits.{CallsFit, CellsFit}
use Rattle.page_imports.specs.Imports.{IsNew}
use Rattle.page_imports.specs.Names.{GetSmallNumbers, name_line, with_names}

-- rows of these columns can be put behind those of a table
abbrev pub CanBePut : Table → List Row → Trees → Type 0
CanBePut table lines db = CanBeFilledIn lines (db table.tree) (indexes_of schema_two table)

-- a row and its entries can be written as records
pub record CanBeWritten (table : Table) (columns : Row) : Type 0 where
  pub row : IsStorableRow 0 columns
  pub entries : AreStorable columns (indexes_of schema_two table)

-- no name has a number of more than 32 bits
abbrev pub AreNarrow : Tables → Type 0
AreNarrow t = ¬ (HasWideNumber t)

-- and once these are held, each of them has one of 32 bits
pub record HaveNumbers (names : List (List ℕ)) (t : Tables) : Type 0 where
  pub narrow : AreNarrow t
  pub fit : GetSmallNumbers names t

-- those that are new can be put behind the others
pub record CanBeNumbered (names : List (List ℕ)) (t : Tables) (db : Trees) : Type 0 where
  pub numbers : HaveNumbers names t
  pub put : (news : List (List ℕ)) → all_named names t ≡ with_names news t → CanBePut name_at (map name_line news) db

-- the row of a run and the lines of its head can be put in, and there is a number above its own
pub record CanPutHead (run : RunRow) (es : List EventRow) (ds : List DerivedRow) (ks : List CoefRow) (db : Trees) : Type 0 where
  pub number : suc run.number < 2 ^ 32
  pub next : CanBeWritten meta_at (meta_columns (suc run.number))
  pub row : CanBeWritten run_at (run_columns run)
  pub events : CanBePut run_event_at (map event_columns es) db
  pub derived : CanBePut derived_at (map derived_columns ds) db
  pub coefs : CanBePut coef_at (map coef_columns ks) db

-- the same of lines as the code has them
abbrev pub CanPutHeadOf : RunLine → HeadRows → Trees → Type 0
CanPutHeadOf run head = CanPutHead (run_row run) (map event_row head.events.items) (map derived_row head.derived.items) (map coef_row head.coefs.items)

-- the cells of a file fit, and can be put in
pub record CanPutCells (run : ℕ) (numbers : List ℕ) (cells : List (CellPlace × List ℕ)) (db : Trees) : Type 0 where
  pub fit : CellsFit numbers cells
  pub put : CanBePut thread_cell_at (map cell_columns (cell_rows run numbers cells)) db

-- so can its calls
pub record CanPutCalls (run : ℕ) (numbers : List ℕ) (calls : List (Call × Calls)) (db : Trees) : Type 0 where
  pub fit : CallsFit numbers calls
  pub put : CanBePut arc_at (map arc_columns (call_rows run numbers calls)) db

-- and its stacks
pub record CanPutStacks (run : ℕ) (stacks : List (List ℕ × ℕ)) (db : Trees) : Type 0 where
  pub fit : StacksFit stacks
  pub put : CanBePut stack_at (map stack_columns (stack_rows run stacks)) db

-- its names can be numbered, and its rows put in under these numbers
pub record CanPutRows (run : ℕ) (c : Content) (t : Tables) (db : Trees) : Type 0 where
  pub names : CanBeNumbered c.names t db
  pub cells : CanPutCells run (numbers_in (all_named c.names t) c.names) c.cells db
  pub calls : CanPutCalls run (numbers_in (all_named c.names t) c.names) c.calls db
  pub stacks : CanPutStacks run c.stacks db

-- all that is written of a run can be put in
pub record CanBeFiled (f : Filed) (t : Tables) (db : Trees) : Type 0 where
  pub head : CanPutHead f.line f.events f.derived f.coefs db
  pub rows : CanPutRows f.line.number f.rows (with_head f.line f.events f.derived f.coefs t) db

-- a file can be put in as a run: it is the next one, and new; its head and its number of calls fit; and what is written of it can be put in
pub record CanImport (number : ℕ) (kind : Kind) (digest label : List ℕ) (file : SummedFile) (t : Tables) (db : Trees) : Type 0 where
  pub is_new : IsNew number digest t
  pub head : HeadFits file.head.now (content_of file.rows.now)
  pub counted : count_total (content_of file.rows.now).calls < 2 ^ 63
  pub lines : CanBeFiled (filed number kind digest label file.head.now (content_of file.rows.now)) t db

module _ {D : Type 0} {g : Ghosts D} where
  -- where the file rests on a store whose small tables are listed, this was missing, or the pages were not read or written for a cause
  abbrev pub FailsWithout : PageFile D g → PageFile D g → RunLists → (Tables → Trees → Type 0) → StoreError → Type 0
  FailsWithout old new lists Can e =
      IsFaithful new → (wanted : List Wanted) (known : List ℕ) (db : Trees) (t : Tables) → Rests wanted known db old → Holds t db → AreListed t lists
      → FailsToStore old new (Can t db) e
