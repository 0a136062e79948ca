-- Schemas 1 and 2: the texts that make their tables, and each table as SQL reads it off its text.
use Rattle.std.specs.Prelude.{ℕ, true, false, List, [], ◌∷◌, None, Some, codes, pos, Bool}
use Rattle.sqlite_value.specs.declared.keys.Collation.TheVariants.{Binary}
use Rattle.sqlite_value.specs.declared.value.Value.TheVariants.{Null, Int}
use Rattle.sqlite_value.specs.Keys.{plain}
use Rattle.sqlite_schema.specs.declared.schema.Table.{Table}
use Rattle.sqlite_schema.specs.declared.schema.Column.{Column}
use Rattle.sqlite_schema.specs.declared.schema.Schema.{Schema}
use Rattle.sqlite_schema.specs.declared.schema.Kind.{Kind}
use Rattle.sqlite_schema.specs.declared.schema.Kind.TheVariants.{Integer, Text, Blob}
use Rattle.sqlite_schema.specs.declared.schema.Action.TheVariants.{NoAction, SetNull, Cascade}
use Rattle.sqlite_schema.specs.declared.schema.Reference.{Reference}
use Rattle.sqlite_sql.specs.Term.{lit, col, op2}
use Rattle.sqlite_sql.specs.declared.ops.BinaryOp.TheVariants.{Compare}
use Rattle.sqlite_catalog.specs.Change.{created, without_table}
use Rattle.sqlite_sql.specs.declared.ops.CompareOp.TheVariants.{Eq}

abbrev pub column_of : List ℕ → Kind → Bool → Column
column_of name kind not_null = record { name = name; kind = kind; is_strict = true; not_null = not_null; default = Null; collation = Binary }

abbrev pub to : List ℕ → ℕ → Reference
to parent place = record { columns = place ∷ []; parent = parent; parent_columns = []; on_delete = Cascade; on_update = NoAction; is_deferred = false }

abbrev pub meta_sql : List ℕ
meta_sql = codes "CREATE TABLE meta (id INTEGER PRIMARY KEY CHECK (id = 1), schema INTEGER NOT NULL, next_run INTEGER NOT NULL) STRICT"

abbrev pub meta_table : Table
meta_table = record {
  name = codes "meta";
  tree = 0;
  columns = column_of (codes "id") Integer false ∷ column_of (codes "schema") Integer true ∷ column_of (codes "next_run") Integer true ∷ [];
  key = Some 0;
  primary = 0 ∷ [];
  uniques = [];
  orders = [];
  checks = op2 (Compare Eq Binary) (col 1 0) (lit (Int (pos 1))) ∷ [];
  references = [];
  computed = [];
  stamps = record { places = []; terms = []; formats = [] };
  is_counted = false;
}

abbrev pub run_sql : List ℕ
run_sql = codes "CREATE TABLE run (run INTEGER PRIMARY KEY, kind INTEGER NOT NULL, digest BLOB NOT NULL UNIQUE, label TEXT NOT NULL, call_count INTEGER NOT NULL) STRICT"

abbrev pub run_table : Table
run_table = record {
  name = codes "run";
  tree = 0;
  columns = column_of (codes "run") Integer false ∷ column_of (codes "kind") Integer true ∷ column_of (codes "digest") Blob true ∷ column_of (codes "label") Text true ∷ column_of (codes "call_count") Integer true ∷ [];
  key = Some 0;
  primary = 0 ∷ [];
  uniques = (3 ∷ []) ∷ [];
  orders = plain ∷ [];
  checks = [];
  references = [];
  computed = [];
  stamps = record { places = []; terms = []; formats = [] };
  is_counted = false;
}

abbrev pub run_event_sql : List ℕ
run_event_sql = codes "CREATE TABLE run_event (run INTEGER NOT NULL REFERENCES run ON DELETE CASCADE, pos INTEGER NOT NULL, name BLOB NOT NULL, self_cost INTEGER NOT NULL, call_cost INTEGER NOT NULL, stated TEXT, PRIMARY KEY (run, pos), UNIQUE (run, name)) STRICT"

abbrev pub run_event_table : Table
run_event_table = record {
  name = codes "run_event";
  tree = 0;
  columns = column_of (codes "run") Integer true ∷ column_of (codes "pos") Integer true ∷ column_of (codes "name") Blob true ∷ column_of (codes "self_cost") Integer true ∷ column_of (codes "call_cost") Integer true ∷ column_of (codes "stated") Text false ∷ [];
  key = None;
  primary = 1 ∷ 2 ∷ [];
  uniques = (1 ∷ 2 ∷ []) ∷ (1 ∷ 3 ∷ []) ∷ [];
  orders = plain ∷ plain ∷ [];
  checks = [];
  references = to (codes "run") 1 ∷ [];
  computed = [];
  stamps = record { places = []; terms = []; formats = [] };
  is_counted = false;
}

abbrev pub derived_sql : List ℕ
derived_sql = codes "CREATE TABLE derived (run INTEGER NOT NULL REFERENCES run ON DELETE CASCADE, pos INTEGER NOT NULL, name BLOB NOT NULL, PRIMARY KEY (run, pos), UNIQUE (run, name)) STRICT"

abbrev pub derived_table : Table
derived_table = record {
  name = codes "derived";
  tree = 0;
  columns = column_of (codes "run") Integer true ∷ column_of (codes "pos") Integer true ∷ column_of (codes "name") Blob true ∷ [];
  key = None;
  primary = 1 ∷ 2 ∷ [];
  uniques = (1 ∷ 2 ∷ []) ∷ (1 ∷ 3 ∷ []) ∷ [];
  orders = plain ∷ plain ∷ [];
  checks = [];
  references = to (codes "run") 1 ∷ [];
  computed = [];
  stamps = record { places = []; terms = []; formats = [] };
  is_counted = false;
}

abbrev pub coef_sql : List ℕ
coef_sql = codes "CREATE TABLE coef (run INTEGER NOT NULL REFERENCES run ON DELETE CASCADE, pos INTEGER NOT NULL, event INTEGER NOT NULL, n INTEGER NOT NULL, PRIMARY KEY (run, pos, event)) STRICT"

abbrev pub coef_table : Table
coef_table = record {
  name = codes "coef";
  tree = 0;
  columns = column_of (codes "run") Integer true ∷ column_of (codes "pos") Integer true ∷ column_of (codes "event") Integer true ∷ column_of (codes "n") Integer true ∷ [];
  key = None;
  primary = 1 ∷ 2 ∷ 3 ∷ [];
  uniques = (1 ∷ 2 ∷ 3 ∷ []) ∷ [];
  orders = plain ∷ [];
  checks = [];
  references = to (codes "run") 1 ∷ [];
  computed = [];
  stamps = record { places = []; terms = []; formats = [] };
  is_counted = false;
}

abbrev pub name_sql : List ℕ
name_sql = codes "CREATE TABLE name (id INTEGER PRIMARY KEY, bytes BLOB NOT NULL UNIQUE) STRICT"

abbrev pub name_table : Table
name_table = record {
  name = codes "name";
  tree = 0;
  columns = column_of (codes "id") Integer false ∷ column_of (codes "bytes") Blob true ∷ [];
  key = Some 0;
  primary = 0 ∷ [];
  uniques = (2 ∷ []) ∷ [];
  orders = plain ∷ [];
  checks = [];
  references = [];
  computed = [];
  stamps = record { places = []; terms = []; formats = [] };
  is_counted = false;
}

abbrev pub cell_sql : List ℕ
cell_sql = codes "CREATE TABLE cell (run INTEGER NOT NULL REFERENCES run ON DELETE CASCADE, ob INTEGER NOT NULL, fl INTEGER NOT NULL, fn INTEGER NOT NULL, line INTEGER NOT NULL, event INTEGER NOT NULL, cost INTEGER NOT NULL, PRIMARY KEY (run, ob, fl, fn, line, event)) STRICT"

abbrev pub cell_table : Table
cell_table = record {
  name = codes "cell";
  tree = 0;
  columns = column_of (codes "run") Integer true ∷ column_of (codes "ob") Integer true ∷ column_of (codes "fl") Integer true ∷ column_of (codes "fn") Integer true ∷ column_of (codes "line") Integer true ∷ column_of (codes "event") Integer true ∷ column_of (codes "cost") Integer true ∷ [];
  key = None;
  primary = 1 ∷ 2 ∷ 3 ∷ 4 ∷ 5 ∷ 6 ∷ [];
  uniques = (1 ∷ 2 ∷ 3 ∷ 4 ∷ 5 ∷ 6 ∷ []) ∷ [];
  orders = plain ∷ [];
  checks = [];
  references = to (codes "run") 1 ∷ [];
  computed = [];
  stamps = record { places = []; terms = []; formats = [] };
  is_counted = false;
}

abbrev pub arc_sql : List ℕ
arc_sql = codes "CREATE TABLE arc (run INTEGER NOT NULL REFERENCES run ON DELETE CASCADE, ob INTEGER NOT NULL, fl INTEGER NOT NULL, fn INTEGER NOT NULL, line INTEGER NOT NULL, cob INTEGER NOT NULL, cfl INTEGER NOT NULL, cfn INTEGER NOT NULL, part INTEGER NOT NULL, n INTEGER NOT NULL, PRIMARY KEY (run, ob, fl, fn, line, cob, cfl, cfn, part)) STRICT"

abbrev pub arc_table : Table
arc_table = record {
  name = codes "arc";
  tree = 0;
  columns = column_of (codes "run") Integer true ∷ column_of (codes "ob") Integer true ∷ column_of (codes "fl") Integer true ∷ column_of (codes "fn") Integer true ∷ column_of (codes "line") Integer true ∷ column_of (codes "cob") Integer true ∷ column_of (codes "cfl") Integer true ∷ column_of (codes "cfn") Integer true ∷ column_of (codes "part") Integer true ∷ column_of (codes "n") Integer true ∷ [];
  key = None;
  primary = 1 ∷ 2 ∷ 3 ∷ 4 ∷ 5 ∷ 6 ∷ 7 ∷ 8 ∷ 9 ∷ [];
  uniques = (1 ∷ 2 ∷ 3 ∷ 4 ∷ 5 ∷ 6 ∷ 7 ∷ 8 ∷ 9 ∷ []) ∷ [];
  orders = plain ∷ [];
  checks = [];
  references = to (codes "run") 1 ∷ [];
  computed = [];
  stamps = record { places = []; terms = []; formats = [] };
  is_counted = false;
}

abbrev pub stack_sql : List ℕ
stack_sql = codes "CREATE TABLE stack (run INTEGER NOT NULL REFERENCES run ON DELETE CASCADE, frames BLOB NOT NULL, n INTEGER NOT NULL, PRIMARY KEY (run, frames)) STRICT"

abbrev pub stack_table : Table
stack_table = record {
  name = codes "stack";
  tree = 0;
  columns = column_of (codes "run") Integer true ∷ column_of (codes "frames") Blob true ∷ column_of (codes "n") Integer true ∷ [];
  key = None;
  primary = 1 ∷ 2 ∷ [];
  uniques = (1 ∷ 2 ∷ []) ∷ [];
  orders = plain ∷ [];
  checks = [];
  references = to (codes "run") 1 ∷ [];
  computed = [];
  stamps = record { places = []; terms = []; formats = [] };
  is_counted = false;
}

abbrev pub grp_sql : List ℕ
grp_sql = codes "CREATE TABLE grp (name TEXT NOT NULL PRIMARY KEY, baseline INTEGER REFERENCES run ON DELETE SET NULL) STRICT"

abbrev pub grp_table : Table
grp_table = record {
  name = codes "grp";
  tree = 0;
  columns = column_of (codes "name") Text true ∷ column_of (codes "baseline") Integer false ∷ [];
  key = None;
  primary = 1 ∷ [];
  uniques = (1 ∷ []) ∷ [];
  orders = plain ∷ [];
  checks = [];
  references = record (to (codes "run") 2) { on_delete = SetNull } ∷ [];
  computed = [];
  stamps = record { places = []; terms = []; formats = [] };
  is_counted = false;
}

abbrev pub member_sql : List ℕ
member_sql = codes "CREATE TABLE member (grp TEXT NOT NULL REFERENCES grp ON DELETE CASCADE, run INTEGER NOT NULL REFERENCES run ON DELETE CASCADE, PRIMARY KEY (grp, run)) STRICT"

abbrev pub member_table : Table
member_table = record {
  name = codes "member";
  tree = 0;
  columns = column_of (codes "grp") Text true ∷ column_of (codes "run") Integer true ∷ [];
  key = None;
  primary = 1 ∷ 2 ∷ [];
  uniques = (1 ∷ 2 ∷ []) ∷ [];
  orders = plain ∷ [];
  checks = [];
  references = to (codes "grp") 1 ∷ to (codes "run") 2 ∷ [];
  computed = [];
  stamps = record { places = []; terms = []; formats = [] };
  is_counted = false;
}

abbrev pub thread_cell_sql : List ℕ
thread_cell_sql = codes "CREATE TABLE thread_cell (run INTEGER NOT NULL REFERENCES run ON DELETE CASCADE, thread INTEGER NOT NULL, ob INTEGER NOT NULL, fl INTEGER NOT NULL, fn INTEGER NOT NULL, line INTEGER NOT NULL, event INTEGER NOT NULL, cost INTEGER NOT NULL, PRIMARY KEY (run, fn, line, fl, ob, thread, event)) STRICT"

abbrev pub thread_cell_table : Table
thread_cell_table = record {
  name = codes "thread_cell";
  tree = 0;
  columns = column_of (codes "run") Integer true ∷ column_of (codes "thread") Integer true ∷ column_of (codes "ob") Integer true ∷ column_of (codes "fl") Integer true ∷ column_of (codes "fn") Integer true ∷ column_of (codes "line") Integer true ∷ column_of (codes "event") Integer true ∷ column_of (codes "cost") Integer true ∷ [];
  key = None;
  primary = 1 ∷ 5 ∷ 6 ∷ 4 ∷ 3 ∷ 2 ∷ 7 ∷ [];
  uniques = (1 ∷ 5 ∷ 6 ∷ 4 ∷ 3 ∷ 2 ∷ 7 ∷ []) ∷ [];
  orders = plain ∷ [];
  checks = [];
  references = to (codes "run") 1 ∷ [];
  computed = [];
  stamps = record { places = []; terms = []; formats = [] };
  is_counted = false;
}

-- no table
abbrev pub empty_schema : Schema
empty_schema = record { tables = []; indexes = []; views = [] }

-- the schema while the tables are made, one after another
abbrev pub schema_to_meta : Schema
schema_to_meta = created empty_schema meta_table

abbrev pub schema_to_run : Schema
schema_to_run = created schema_to_meta run_table

abbrev pub schema_to_run_event : Schema
schema_to_run_event = created schema_to_run run_event_table

abbrev pub schema_to_derived : Schema
schema_to_derived = created schema_to_run_event derived_table

abbrev pub schema_to_coef : Schema
schema_to_coef = created schema_to_derived coef_table

abbrev pub schema_to_name : Schema
schema_to_name = created schema_to_coef name_table

abbrev pub schema_to_cell : Schema
schema_to_cell = created schema_to_name cell_table

abbrev pub schema_to_arc : Schema
schema_to_arc = created schema_to_cell arc_table

abbrev pub schema_to_stack : Schema
schema_to_stack = created schema_to_arc stack_table

abbrev pub schema_to_grp : Schema
schema_to_grp = created schema_to_stack grp_table

-- those of version 1
abbrev pub schema_one : Schema
schema_one = created schema_to_grp member_table

-- with the cells of threads beside those without
abbrev pub schema_both : Schema
schema_both = created schema_one thread_cell_table

-- without these: those of version 2
abbrev pub schema_two : Schema
schema_two = without_table schema_both 13

-- the trees of the tables: each index has one behind its table
abbrev pub meta_at : Table
meta_at = record meta_table { tree = 0 }

abbrev pub run_at : Table
run_at = record run_table { tree = 1 }

abbrev pub run_event_at : Table
run_event_at = record run_event_table { tree = 3 }

abbrev pub derived_at : Table
derived_at = record derived_table { tree = 6 }

abbrev pub coef_at : Table
coef_at = record coef_table { tree = 9 }

abbrev pub name_at : Table
name_at = record name_table { tree = 11 }

-- the cells of version 1
abbrev pub cell_at : Table
cell_at = record cell_table { tree = 13 }

abbrev pub arc_at : Table
arc_at = record arc_table { tree = 15 }

abbrev pub stack_at : Table
stack_at = record stack_table { tree = 17 }

abbrev pub grp_at : Table
grp_at = record grp_table { tree = 19 }

abbrev pub member_at : Table
member_at = record member_table { tree = 21 }

abbrev pub thread_cell_at : Table
thread_cell_at = record thread_cell_table { tree = 23 }
