-- Rows as the code lends them, without where their bytes lie in memory.
use Rattle.std.specs.Prelude.{ℕ, List}
use Rattle.std.specs.Borrow.{Bor}
use Rattle.cost_rows.specs.declared.rows.CellRow.{CellRow}
use Rattle.cost_rows.specs.declared.rows.ArcRow.{ArcRow}
use Rattle.cost_rows.specs.declared.rows.StackRow.{StackRow}

abbrev pub plain_cell : CellRow (Bor (List ℕ)) → CellRow (List ℕ)
plain_cell r = record { object = r.object.now; file = r.file.now; function = r.function.now; line = r.line; thread = r.thread; event = r.event; cost = r.cost }

abbrev pub plain_call : ArcRow (Bor (List ℕ)) (Bor (List ℕ)) → ArcRow (List ℕ) (List ℕ)
plain_call r = record {
  object = r.object.now;
  file = r.file.now;
  function = r.function.now;
  line = r.line;
  called_object = r.called_object.now;
  called_file = r.called_file.now;
  called_function = r.called_function.now;
  count = r.count;
  costs = r.costs.now;
}

abbrev pub plain_stack : StackRow (Bor (List ℕ)) → StackRow (List ℕ)
plain_stack r = record { stack = r.stack.now; count = r.count }
