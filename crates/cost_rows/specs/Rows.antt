-- What is kept of a file's rows, as plain lists.
use Rattle.std.specs.Prelude.{ℕ, List, Option}
use Rattle.cg_text.specs.declared.words.Namespace.{Namespace}
use Rattle.profile_records.specs.declared.marks.Mark.{Mark}
use Rattle.cost_rows.specs.Content.{Content}
use Rattle.cost_rows.specs.Marks.{known_by}
use Rattle.cost_rows.specs.Slots.{sums_in}
use Rattle.cost_rows.specs.declared.file_rows.FileRows.{FileRows}

abbrev pub content_of : FileRows → Content
content_of r = record { names = r.names; cells = r.cells; calls = r.calls; stacks = sums_in r.stacks }

-- the name that a mark of a name space came with, as far as its number is kept
abbrev pub known_of : FileRows → Namespace → Mark → Option (List ℕ)
known_of r = known_by r.names r.marks
