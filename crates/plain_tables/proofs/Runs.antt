-- Rows of runs that are held have numbers below the next.
use Rattle.std.proofs.Common.{ℕ, ◌<◌, List, [], ◌∷◌, arith}
use Rattle.std.proofs.lemmas.Bool.Decides.{nat_tests}
use Rattle.std.specs.List.{AllByRecursion}
use Rattle.plain_tables.specs.Sound.{AreOfRuns, AreSound}
use Rattle.plain_tables.specs.Tables.{Tables, RunRow}
use Rattle.plain_tables.proofs.Lists.{all_has, some_has}

module _ (t : Tables) (sound : AreSound t) where
  pub lines_below : {X : Type 0} (run : X → ℕ) (lines : List X) → AreOfRuns t run lines → AllByRecursion (λ x. run x < t.next) lines
  lines_below run [] all = tt
  lines_below run (x ∷ xs) all =
      let one = some_has _ t.runs all.0 in
      let low : one.0.number < t.next = all_has (λ (r : RunRow). r.number < t.next) t.runs one.0 sound.below one.1 in
      let same = one.2 in
      (grind (arith, nat_tests, low, same), lines_below run xs all.1)
