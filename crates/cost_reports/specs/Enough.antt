-- Some of all sums, enough to tell which ones a cut shows.
use Rattle.std.specs.Prelude.{◌≡◌, ◌≤◌, ◌<◌, ◌*◌, ◌++◌, ◌⊎◌, ℕ, List, [], length, sum_by, Some, IsPermutation}
use Rattle.std.specs.List.{AllByRecursion}
use Rattle.report_texts.specs.declared.cuts.Cut.{Cut}

-- each of some costs more than each of the others
abbrev pub AreAbove : {X : Type 0} → (X → ℕ) → List X → List X → Type 0
AreAbove cost some others = AllByRecursion (λ a. AllByRecursion (λ b. cost b < cost a) others) some

-- a cut shows none but these: there are no others, or these are as many as it shows, or they sum to the part of all that it shows
abbrev pub Suffice : {X : Type 0} → (X → ℕ) → Cut → List X → List X → List X → Type 0
Suffice cost cut all some others =
    (others ≡ []) ⊎ ((limit : ℕ) × (cut.limit ≡ Some limit) × (limit ≤ length some)) ⊎ (cut.threshold * sum_by cost all ≤ sum_by cost some * 100)

pub record AreEnough {X : Type 0} (cost : X → ℕ) (cut : Cut) (all some : List X) : Type 0 where
  pub others : List X
  pub are_all : IsPermutation (some ++ others) all
  pub above : AreAbove cost some others
  pub suffice : Suffice cost cut all some others
