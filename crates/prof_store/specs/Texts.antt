-- The texts of the statements on the tables.
use Rattle.std.specs.Prelude.{ℕ, List, codes}

-- ---- tables of version 1 become those of version 2

abbrev pub copy_cells_sql : List ℕ
copy_cells_sql = codes "INSERT INTO thread_cell (run, thread, ob, fl, fn, line, event, cost) SELECT run, 0, ob, fl, fn, line, event, cost FROM cell ORDER BY rowid"

abbrev pub drop_cell_sql : List ℕ
drop_cell_sql = codes "DROP TABLE cell"

abbrev pub second_sql : List ℕ
second_sql = codes "UPDATE meta SET schema = 2"

-- ---- rows are written

abbrev pub begin_sql : List ℕ
begin_sql = codes "INSERT INTO meta (id, schema, next_run) VALUES (1, 2, 1)"

-- ---- rows are read

abbrev pub schema_sql : List ℕ
schema_sql = codes "SELECT schema FROM meta"
