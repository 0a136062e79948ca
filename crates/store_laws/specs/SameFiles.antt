-- Selections that name the same files, and questions that have the same answer.
use Rattle.std.specs.Prelude.{◌≡◌, ℕ, List, map, Option, None, IsPermutation}
use Rattle.histories.specs.Formats.{Format}
use Rattle.histories.specs.History.{Command, History, File}
use Rattle.histories.specs.Legal.{compared, expected_answer, files_of, no_second, no_selection}
use Rattle.histories.specs.Selections.{selected}
use Rattle.requests.specs.Plain.{Selection}
use Rattle.histories.specs.declared.limits.Limits.{Limits}

-- what a file is, without the number and the label that it got: its bytes, and the format in which they were read, which tells its kind and the side of the mark
abbrev pub format_and_bytes : File → Format × List ℕ
format_and_bytes f = (f.format, f.bytes)

-- the same files, each as often, in whatever order
abbrev pub AreSameFiles : List File → List File → Type 0
AreSameFiles files others = IsPermutation (map format_and_bytes files) (map format_and_bytes others)

-- two selections, each after its history: what they name is there, and is the same files
pub record NameSameFiles (h : History) (s : Selection) (k : History) (r : Selection) : Type 0 where
  pub here : no_selection h s ≡ None
  pub there : no_selection k r ≡ None
  pub files : AreSameFiles (selected h s) (selected k r)

-- and what they are compared with
pub record CompareSameFiles (h : History) (s : Selection) (t : Option Selection) (k : History) (r : Selection) (u : Option Selection) : Type 0 where
  pub first : NameSameFiles h s k r
  pub here : no_second h (compared h s t) ≡ None
  pub there : no_second k (compared k r u) ≡ None
  pub files : AreSameFiles (files_of h (compared h s t)) (files_of k (compared k r u))

-- under all limits the one command after the one history has the answer of the other after the other
abbrev pub AreAnsweredAlike : History → Command → History → Command → Type 0
AreAnsweredAlike h command k other = (limits : Limits) → expected_answer limits h command ≡ expected_answer limits k other
