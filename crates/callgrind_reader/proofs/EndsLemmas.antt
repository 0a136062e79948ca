-- What a file is read as.
use Rattle.std.proofs.Common.{ℕ, List, map, Result, Ok, Err, ◌∙◌}
use Rattle.cg_text.specs.Lines.{lines_of}
use Rattle.cg_text.specs.Readings.{reading_of}
use Rattle.cg_formulas.specs.declared.heads.FileHead.{FileHead}
use Rattle.cg_text.specs.declared.faults.ReadEnd.{ReadEnd}
use Rattle.cg_text.specs.declared.faults.ReadEnd.TheVariants as ends
use Rattle.callgrind_reader.specs.Files.{end_of}
use Rattle.callgrind_reader.specs.Ends.{Comes}
use Rattle.callgrind_reader.specs.Reads.{Ended, MatchMemory}
use Rattle.callgrind_reader.proofs.ExactLemmas.{exact-fault}

-- what the lines of a file are read as is what the file is read as
pub ended : (r : Result FileHead ReadEnd) (text : List ℕ) → Comes r (end_of text) → Ended r text
ended (Ok head) text h = (exact-fault (map reading_of (lines_of text)) ∙ h.0, record { events = h.1.events; own = h.1.derived.events; derived = h.1.derived.derived; stated = h.1.stated })
ended (Err (ends.Fault fault line)) text h = exact-fault (map reading_of (lines_of text)) ∙ h
ended (Err ends.Memory) text h = tt

-- what holds in either case
pub either_way : (r : Result FileHead ReadEnd) (P Q : Type 0) → P → Q → MatchMemory r P Q
either_way (Ok head) P Q p q = p
either_way (Err (ends.Fault fault line)) P Q p q = p
either_way (Err ends.Memory) P Q p q = q
