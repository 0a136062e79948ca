-- What the reads of the file at a path come to.
use Rattle.std.specs.Prelude.{◌≡◌, ℕ, List, Option, None, Some}
use Rattle.byte_io.specs.Known.{IsRead}
use Rattle.byte_io.specs.Outcomes.{Outcome, Failed}
use Rattle.byte_io.specs.Reads.{Reads}
use Rattle.byte_io.specs.declared.opened.Opened.{Opened}
use Rattle.byte_io.specs.declared.imported.FileSource.{FileSource}

module _ {F : Type 0} (remaining : F → Option (List ℕ)) where
  -- the first read opens the file, and fails where it cannot; each gives the next of what is left of the file, where that is known
  abbrev pub IsReadOf : Option (Opened F) → Outcome → Option (Opened F) → Type 0
  IsReadOf None outcome None = outcome ≡ Failed
  IsReadOf None outcome (Some to) = (file : F) × IsRead (remaining file) outcome (remaining to.file)
  IsReadOf (Some from) outcome (Some to) = IsRead (remaining from.file) outcome (remaining to.file)
  IsReadOf (Some from) outcome None = ⊥

  -- the same of a source
  abbrev pub FileReads : {R D : Type 0} → FileSource R F D → Outcome → FileSource R F D → Type 0
  FileReads from outcome to = IsReadOf from.file outcome to.file

  -- the reads of a file, from its opening on
  abbrev pub WereRead : List Outcome → Type 0
  WereRead outcomes = (to : Option (Opened F)) × Reads IsReadOf None outcomes to
