-- The definitions, computed on histories.
use Rattle.std.proofs.Common.{ℕ, List, [], ◌∷◌, codes, refl, arith}
use Rattle.std.proofs.lemmas.List.Sorted.{length_permutation}
use Rattle.profile_records.specs.declared.kinds.Kind.{Kind}
use Rattle.profile_records.specs.declared.kinds.Kind.TheVariants.{Callgrind, Folded}
use Rattle.byte_io.specs.Outcomes.{Gave}
use Rattle.histories.specs.Formats.{today}
use Rattle.histories.specs.History.{Command, Import, Remove, MakeGroup, Join, Step, History}
use Rattle.histories.specs.Selections.{selected}
use Rattle.histories.specs.declared.answers.Answer.{Answer}
use Rattle.histories.specs.declared.answers.Answer.TheVariants.{Run, Done}
use Rattle.requests.specs.declared.selections.Selection.TheVariants as selections
use Rattle.store_laws.specs.SameFiles.{AreSameFiles, NameSameFiles}

abbrev one : List ℕ
one = codes "events: Ir\n1 1\n"

abbrev two : List ℕ
two = codes "a;b 2\n"

abbrev step : Command → Answer → Step
step command answer = record { command = command; answer = answer }

abbrev import : Kind → List ℕ → List ℕ → Command
import kind label bytes = Import (today kind) label (Gave bytes ∷ Gave [] ∷ [])

-- both files, the one first
abbrev there : History
there = step (import Callgrind (codes "one") one) (Run 1) ∷ step (import Folded (codes "two") two) (Run 2) ∷ []

-- the other first, under other labels, cut otherwise, after a run that was removed; the one is in a group
abbrev back : History
back =
    step (import Callgrind (codes "gone") []) (Run 1)
    ∷ step (import Folded (codes "second") two) (Run 2)
    ∷ step (Remove 1) Done
    ∷ step (Import (today Callgrind) (codes "first") (Gave (codes "events: Ir") ∷ Gave (codes "\n1 1\n") ∷ Gave [] ∷ [])) (Run 3)
    ∷ step (MakeGroup (codes "g")) Done
    ∷ step (Join (codes "g") 3) Done
    ∷ []

all_are_the_same : NameSameFiles there selections.All back selections.All
all_are_the_same = record { here = refl; there = refl; files = record { moves = (0, 1) ∷ []; below = (omega arith, omega arith, tt); is = refl } }

a_run_is_a_group : NameSameFiles there (selections.Run 1) back (selections.Group (codes "g"))
a_run_is_a_group = record { here = refl; there = refl; files = record { moves = []; below = tt; is = refl } }

-- one file is not two
one_is_not_all : AreSameFiles (selected there selections.All) (selected back (selections.Run 3)) → ⊥
one_is_not_all same = absurd (let long = length_permutation _ _ same in cc)
