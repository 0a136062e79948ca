-- The total of a file: what is printed of it.
use Rattle.std.specs.Prelude.{ℕ, List, Option, Some, None}
use Rattle.cg_text.specs.Errors.{error_text}
use Rattle.cg_text.specs.declared.faults.Fault as faults
use Rattle.cg_text.specs.declared.faults.ReadEnd.TheVariants.{Fault}
use Rattle.profile_records.specs.Records.{Record}
use Rattle.callgrind_reader.specs.Files.{records_of_file, fault_of_file, events_of_file}
use Rattle.file_reading.specs.Sums.{self_sum}
use Rattle.file_reading.specs.TotalLines.{total_lines, refused_line}

-- a line for each event with its sum over the self records, or the one line of a fault
abbrev pub total_or_fault : Option (faults.Fault × ℕ) → List (List ℕ) → List Record → List ℕ
total_or_fault None events records = total_lines (λ k. self_sum k records) 0 events
total_or_fault (Some fault) events records = refused_line (error_text (Fault fault.0 fault.1))

-- the total of a file with these bytes
abbrev pub total_of_file : List ℕ → List ℕ
total_of_file text = total_or_fault (fault_of_file text) (events_of_file text) (records_of_file text)
