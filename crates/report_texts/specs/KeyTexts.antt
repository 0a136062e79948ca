-- The text of a report by key.
use Rattle.std.specs.Prelude.{ℕ, List, ◌++◌, flat_map, codes}
use Rattle.std.specs.Fmt.{decimal}
use Rattle.cost_rows.specs.Keys.{key_name}
use Rattle.cost_rows.specs.Sums.{Spot}
use Rattle.cost_rows.specs.declared.keys.Key.{Key}
use Rattle.cost_rows.specs.declared.keys.Key.TheVariants.{Object, File, Function, Line, Thread}
use Rattle.byte_io.specs.Escapes.{escaped}
use Rattle.report_texts.specs.KeyReports.{ReportByKey}
use Rattle.report_texts.specs.Percents.{percent}

-- the part of a place that a key tells, as it is printed
abbrev pub part_text : Key → Spot → List ℕ
part_text Object p = escaped p.object
part_text File p = escaped p.file
part_text Function p = escaped p.object ++ (codes ":" ++ escaped p.function)
part_text Line p = escaped p.file ++ (codes ":" ++ decimal p.line)
part_text Thread p = decimal p.thread

-- a cost and its part of the total
abbrev pub cost_text : ℕ → ℕ → List ℕ
cost_text cost total = decimal cost ++ (codes " " ++ percent cost total)

-- and what it is of
abbrev pub cost_line : ℕ → ℕ → List ℕ → List ℕ
cost_line cost total name = cost_text cost total ++ (codes " " ++ (name ++ codes "\n"))

abbrev pub row_text : Key → ℕ → Spot × ℕ → List ℕ
row_text key total row = cost_line row.1 total (part_text key row.0)

abbrev pub rows_text : Key → ℕ → List (Spot × ℕ) → List ℕ
rows_text key total rows = flat_map (row_text key total) rows

-- what a report is by, and of which event
abbrev pub head_text : Key → List ℕ → List ℕ
head_text key event = codes "by " ++ (key_name key ++ (codes " " ++ (escaped event ++ codes "\n")))

abbrev pub key_report_text : List ℕ → ReportByKey → List ℕ
key_report_text event r =
    head_text r.key event
    ++ (cost_line r.total r.total (codes "total")
    ++ (rows_text r.key r.total r.rows
    ++ cost_line r.rest r.total (codes "(rest)")))
