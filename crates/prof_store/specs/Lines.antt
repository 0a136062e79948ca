-- The lines of the code, as plain data.
use Rattle.std.specs.Prelude.{string_bytes, option_map}
use Rattle.prof_store.specs.declared.table_rows.RunRow.{RunRow}
use Rattle.plain_tables.specs.Tables.{RunRow as Run, StoredCell as Cell, StoredCall as Call, StoredStack as Stack, EventRow as Event, DerivedRow as Derived, CoefRow as Coef}
use Rattle.prof_store.specs.declared.table_rows.StoredCell.{StoredCell}
use Rattle.prof_store.specs.declared.table_rows.StoredCall.{StoredCall}
use Rattle.prof_store.specs.declared.table_rows.StoredStack.{StoredStack}
use Rattle.prof_store.specs.declared.table_rows.HeldStack.{HeldStack}
use Rattle.prof_store.specs.declared.table_rows.EventRow.{EventRow}
use Rattle.prof_store.specs.declared.table_rows.DerivedRow.{DerivedRow}
use Rattle.prof_store.specs.declared.table_rows.CoefRow.{CoefRow}

abbrev pub cell_row : StoredCell → Cell
cell_row c = record { run = c.run; object = c.object; file = c.file; function = c.function; line = c.line; thread = c.thread; event = c.event; cost = c.cost }

abbrev pub event_row : EventRow → Event
event_row e = record { run = e.run; place = e.place; name = e.name.now; self_cost = e.self_cost; call_cost = e.call_cost; stated = option_map string_bytes e.stated }

abbrev pub derived_row : DerivedRow → Derived
derived_row d = record { run = d.run; place = d.place; name = d.name.now }

abbrev pub coef_row : CoefRow → Coef
coef_row c = record { run = c.run; place = c.place; event = c.event; times = c.times }

abbrev pub call_row : StoredCall → Call
call_row a = record {
  run = a.run;
  object = a.object;
  file = a.file;
  function = a.function;
  line = a.line;
  called_object = a.called_object;
  called_file = a.called_file;
  called_function = a.called_function;
  part = a.part;
  sum = a.sum;
}

abbrev pub stack_row : StoredStack → Stack
stack_row s = record { run = s.run; frames = s.frames.now; count = s.count }

abbrev pub held_stack : HeldStack → Stack
held_stack s = record { run = s.run; frames = s.frames.items; count = s.count }

abbrev pub run_row : RunRow → Run
run_row r = record { number = r.number; kind = r.kind; digest = r.digest.now; label = r.label.now; call_count = r.call_count }
