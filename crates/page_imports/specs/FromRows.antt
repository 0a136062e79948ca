-- The parts of a file's rows, names by the file's own numbers, and the lines that they become.
use Rattle.std.specs.Prelude.{ℕ, List}
use Rattle.std.specs.Borrow.{Bor}
use Rattle.cost_rows.specs.declared.places.CellPlace.{CellPlace}
use Rattle.cost_rows.specs.declared.places.Call.{Call}
use Rattle.cost_rows.specs.declared.rows.CellRow.{CellRow}
use Rattle.cost_rows.specs.declared.rows.ArcRow.{ArcRow}
use Rattle.cost_rows.specs.declared.rows.StackRow.{StackRow}
use Rattle.plain_tables.specs.Tables.{StoredStack}

abbrev pub place_of_cell : CellRow ℕ → CellPlace
place_of_cell r = record { place = record { object = r.object; file = r.file; function = r.function; line = r.line }; thread = r.thread }

abbrev pub call_of_call : ArcRow ℕ (Bor (List ℕ)) → Call
call_of_call r = record {
  place = record { object = r.object; file = r.file; function = r.function; line = r.line };
  object = r.called_object;
  file = r.called_file;
  function = r.called_function;
}

abbrev pub line_of_stack : ℕ → StackRow (Bor (List ℕ)) → StoredStack
line_of_stack run r = record { run = run; frames = r.stack.now; count = r.count }
