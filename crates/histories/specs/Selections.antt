-- Selections of runs, and the files that they name.
use Rattle.std.specs.Prelude.{ℕ, Bool, true, ◌==◌, List, map, filter}
use Rattle.histories.specs.History.{History, File, held, is_member}
use Rattle.requests.specs.Plain.{Selection}
use Rattle.requests.specs.declared.selections.Selection.TheVariants as selections

-- whether it names a run
abbrev pub selects : History → Selection → ℕ → Bool
selects h selections.All n = true
selects h (selections.Run m) n = n == m
selects h (selections.Group name) n = is_member h name n

-- the files that it names, each once, the oldest first
abbrev pub selected : History → Selection → List File
selected h s = filter (λ (f : File). selects h s f.number) (held h)

abbrev pub numbers_of : List File → List ℕ
numbers_of files = map (λ (f : File). f.number) files
