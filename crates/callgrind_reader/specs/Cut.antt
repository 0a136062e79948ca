-- The records of a text that may go on.
use Rattle.std.specs.Prelude.{ℕ, List, []}
use Rattle.cg_text.specs.Readings.{reading_of}
use Rattle.text_pieces.specs.Backwards.{so_far}
use Rattle.profile_records.specs.Records.{Record}
use Rattle.callgrind_reader.specs.Files.{sound_records}

-- the records of the lines that end in a line feed, before the first with a fault of its own
abbrev pub records_so_far : List ℕ → List Record
records_so_far = so_far reading_of (sound_records [])
