-- The lines of a source, each with what it cost.
use Rattle.std.specs.Prelude.{ℕ, ◌+◌, Bool, true, false, ◌==◌, ◌||◌, nat_lt, bytes_eq, if◌then◌else◌, List, [], ◌∷◌, ◌++◌, length, map, flat_map, codes}
use Rattle.std.specs.Fmt.{decimal}
use Rattle.std.specs.List.{list_any}
use Rattle.std.specs.Ordering.{nat_cmp}
use Rattle.std.specs.Str.Lines.{strip_carriage_return}
use Rattle.cg_text.specs.Lines.{lines_of, numbered}
use Rattle.cost_rows.specs.Merging.{sum_where}
use Rattle.cost_rows.specs.Sums.{Spot, costs_at}
use Rattle.cost_rows.specs.Walks.{HaveCosts}
use Rattle.cost_rows.specs.declared.rows.CellRow.{CellRow}
use Rattle.report_texts.specs.Costs.{EventCells, EventRecords, all_costs}
use Rattle.byte_io.specs.Escapes.{escaped}
use Rattle.profile_records.specs.Records.{Record}
use Rattle.report_texts.specs.Amounts.{amount_of, with_amount}

-- what is said of a file: the lines of its places, each with its cost
abbrev pub costs_in : List ℕ → List (Spot × ℕ) → List (ℕ × ℕ)
costs_in file [] = []
costs_in file (e ∷ costs) = if bytes_eq e.0.file file then (e.0.line, e.1) ∷ costs_in file costs else costs_in file costs

-- what a line cost
abbrev pub cost_at : ℕ → List (ℕ × ℕ) → ℕ
cost_at line costs = sum_where (λ n. n == line) (λ n. n) costs

-- a line of a source as it is shown: without one carriage return at its end
pub record SourceLine : Type 0 where
  pub number : ℕ
  pub text : List ℕ
  pub cost : ℕ

abbrev pub source_line : List (ℕ × ℕ) → ℕ × List ℕ → SourceLine
source_line costs line = record { number = line.0; text = strip_carriage_return line.1; cost = cost_at line.0 costs }

-- lines with their numbers
abbrev pub source_lines : List (ℕ × ℕ) → List (ℕ × List ℕ) → List SourceLine
source_lines costs lines = map (source_line costs) lines

-- line 0 is outside of so many lines, and those after their end
abbrev pub is_outside : ℕ → ℕ → Bool
is_outside lines n = n == 0 || nat_lt lines n

abbrev pub outside_cost : ℕ → List (ℕ × ℕ) → ℕ
outside_cost lines costs = sum_where (is_outside lines) (λ n. n) costs

pub record Annotation : Type 0 where
  pub file : List ℕ
  pub lines : List SourceLine
  pub outside : ℕ
  pub total : ℕ

-- a file's source, and what its lines cost
abbrev pub annotation_of : List ℕ → List ℕ → List (ℕ × ℕ) → Annotation
annotation_of file source costs = record {
  file = file;
  lines = source_lines costs (numbered 1 (lines_of source));
  outside = outside_cost (length (lines_of source)) costs;
  total = amount_of costs;
}

-- what the lines that are shown cost
abbrev pub cost_of_lines : List SourceLine → ℕ
cost_of_lines [] = 0
cost_of_lines (l ∷ lines) = l.cost + cost_of_lines lines

-- straight from records
abbrev pub annotation_of_records : List ℕ → List ℕ → List EventRecords → Annotation
annotation_of_records file source files = annotation_of file source (costs_in file (all_costs files))

-- ---- the text

-- a cost of 0 is a dot
abbrev pub line_cost : ℕ → List ℕ
line_cost cost = if cost == 0 then codes "." else decimal cost

-- the text of the line is printed as it is
abbrev pub source_line_text : SourceLine → List ℕ
source_line_text l = line_cost l.cost ++ (codes " " ++ (decimal l.number ++ (codes ": " ++ (l.text ++ codes "\n"))))

abbrev pub source_text : List SourceLine → List ℕ
source_text lines = flat_map source_line_text lines

-- whose lines they are, and of which event
abbrev pub annotation_head : List ℕ → List ℕ → List ℕ
annotation_head file event = codes "annotate " ++ (escaped file ++ (codes " " ++ (escaped event ++ codes "\n")))

abbrev pub sum_line : ℕ → List ℕ → List ℕ
sum_line cost name = decimal cost ++ (codes " " ++ (name ++ codes "\n"))

abbrev pub annotation_text : List ℕ → Annotation → List ℕ
annotation_text event a = annotation_head a.file event ++ (sum_line a.total (codes "total") ++ (source_text a.lines ++ sum_line a.outside (codes "(outside)")))

-- ---- whether a file is known

-- a record is a self record of the file, and costs something in some column
abbrev pub costs_something_in : List ℕ → Record → Bool
costs_something_in file = costs_at (λ (p : Spot). bytes_eq p.file file)

abbrev pub knows_file : List ℕ → List Record → Bool
knows_file file records = list_any (costs_something_in file) records

-- and of records of some files
abbrev pub know_file : List ℕ → List EventRecords → Bool
know_file file files = list_any (λ (f : EventRecords). knows_file file f.records) files

-- ---- rows that are added one after another

-- a file, whether a row of it came, and what its lines cost
pub record FileCosts : Type 0 where
  pub file : List ℕ
  pub known : Bool
  pub costs : List (ℕ × ℕ)

-- before the first row
abbrev pub no_lines : List ℕ → FileCosts
no_lines file = record { file = file; known = false; costs = [] }

-- a row of another file says nothing; one of cost 0 says that the file is known
abbrev pub with_line : FileCosts → CellRow (List ℕ) → FileCosts
with_line held row =
    if bytes_eq row.file held.file then record { file = held.file; known = true; costs = with_amount nat_cmp held.costs row.line row.cost }
    else held

-- no cell of the runs is 0 in its column
abbrev pub HaveCostsEach : List EventCells → Type 0
HaveCostsEach [] = Unit {0}
HaveCostsEach (r ∷ runs) = HaveCosts r.cells × HaveCostsEach runs
