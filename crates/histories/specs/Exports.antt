-- Annotated sources and exports over the files that a selection names.
use Rattle.std.specs.Prelude.{ℕ, Bool, List, flat_map, map}
use Rattle.report_texts.specs.Annotations.{annotation_of_records, annotation_text, knows_file}
use Rattle.report_texts.specs.Csv.{NamedRecords, csv_of_records, csv_text}
use Rattle.report_texts.specs.Folded.{folded_of_stacks, folded_text}
use Rattle.profile_records.specs.Stacks.{Seen}
use Rattle.histories.specs.Files.{events_of, records_of, stacks_of}
use Rattle.histories.specs.History.{File}
use Rattle.histories.specs.Reports.{event_records}

-- whether a line of a source of this name costs something in a file, in some column
abbrev pub knows_source : List ℕ → File → Bool
knows_source name f = knows_file name (records_of f.format f.bytes)

-- a source with what its lines cost in an event
abbrev pub annotated_text : List ℕ → List ℕ → List ℕ → List File → List ℕ
annotated_text event name source files = annotation_text event (annotation_of_records name source (map (event_records event) files))

-- the records of a file, with the names of its events by column
abbrev pub named_records : File → NamedRecords
named_records f = record { events = events_of f.format f.bytes; records = records_of f.format f.bytes }

abbrev pub csv_of_files : List File → List ℕ
csv_of_files files = csv_text (csv_of_records (map named_records files))

abbrev pub file_stacks : File → List Seen
file_stacks f = stacks_of f.format f.bytes

abbrev pub folded_of_files : List File → List ℕ
folded_of_files files = folded_text (folded_of_stacks (flat_map file_stacks files))
