-- The stacks and the first fault of a folded file.
use Rattle.std.specs.Prelude.{ℕ, ◌+◌, List, [], ◌∷◌, map, Option, Some, None, Ok, Err}
use Rattle.cg_text.specs.Lines.{lines_of}
use Rattle.cg_text.specs.declared.faults.Fault.{Fault}
use Rattle.text_pieces.specs.Backwards.{in_all}
use Rattle.folded_reader.specs.Lines.{Reading, reading_of}
use Rattle.profile_records.specs.Stacks.{Seen}
use Rattle.profile_records.specs.Frames.{leaf_of}

-- the stacks of the lines before the first with a fault, numbered from n on
abbrev pub stacks_from : ℕ → List Reading → List Seen
stacks_from n [] = []
stacks_from n (Err fault ∷ rs) = []
stacks_from n (Ok None ∷ rs) = stacks_from (n + 1) rs
stacks_from n (Ok (Some stack) ∷ rs) = record { at = n; stack = stack } ∷ stacks_from (n + 1) rs

-- the first fault, and its line
abbrev pub fault_from : ℕ → List Reading → Option (Fault × ℕ)
fault_from n [] = None
fault_from n (Err fault ∷ rs) = Some (fault, n)
fault_from n (Ok said ∷ rs) = fault_from (n + 1) rs

abbrev pub readings_of : List ℕ → List Reading
readings_of text = map reading_of (lines_of text)

abbrev pub stacks_of_file : List ℕ → List Seen
stacks_of_file = in_all reading_of (stacks_from 1)

abbrev pub fault_of_file : List ℕ → Option (Fault × ℕ)
fault_of_file text = fault_from 1 (readings_of text)

-- what a stack counts for: the function that was running, of no known object, file or line
pub record Sample : Type 0 where
  pub at : ℕ
  pub function : List ℕ
  pub count : ℕ

abbrev pub sample_of : Seen → Sample
sample_of s = record { at = s.at; function = leaf_of s.stack.frames; count = s.stack.count }

abbrev pub samples_of_file : List ℕ → List Sample
samples_of_file text = map sample_of (stacks_of_file text)
