-- What the reads of a file at a path come to.
use Rattle.std.specs.Prelude.{ℕ, List, Option, None, Some}
use Rattle.byte_io.specs.Imported.{IsReadOf}
use Rattle.byte_io.specs.Outcomes.{Outcome}
use Rattle.byte_io.specs.declared.opened.Opened.{Opened}
use Rattle.file_reading.specs.declared.seen.SeenFile.{SeenFile}

-- as a source, if it is opened
abbrev pub opened : {F : Type 0} → Option F → Option (Opened F)
opened None = None
opened (Some file) = Some (record { file = file })

-- the first read opens it; what is seen of it changes nothing that is read
abbrev pub SeenReads : {F : Type 0} → (F → Option (List ℕ)) → {R D : Type 0} → SeenFile R F D → Outcome → SeenFile R F D → Type 0
SeenReads remaining from outcome to = IsReadOf remaining (opened from.file) outcome (opened to.file)
