-- What a run that is written makes of the tables.
use Rattle.std.specs.Prelude.{map}
use Rattle.cost_rows.specs.Rows.{content_of}
use Rattle.cost_rows.specs.declared.file_rows.FileRows.{FileRows}
use Rattle.plain_tables.specs.Tables.{Tables}
use Rattle.run_stores.specs.Files.{with_rows, with_head}
use Rattle.prof_store.specs.Lines.{run_row, event_row, derived_row, coef_row}
use Rattle.prof_store.specs.declared.table_rows.RunRow.{RunRow}
use Rattle.prof_store.specs.declared.table_rows.HeadRows.{HeadRows}

-- its own line and those of its head
abbrev pub with_head_of : RunRow → HeadRows → Tables → Tables
with_head_of run head = with_head (run_row run) (map event_row head.events.items) (map derived_row head.derived.items) (map coef_row head.coefs.items)

-- and those of its rows
abbrev pub with_run_of : RunRow → HeadRows → FileRows → Tables → Tables
with_run_of run head rows t = with_rows run.number (content_of rows) (with_head_of run head t)
