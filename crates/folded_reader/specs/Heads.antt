-- What an accepted folded file says of itself.
use Rattle.std.specs.Prelude.{◌≡◌, ℕ, List, [], ◌∷◌, codes, None}
use Rattle.cg_formulas.specs.declared.heads.FileHead.{FileHead}

-- the one event of each folded file
abbrev pub samples_alone : List (List ℕ)
samples_alone = codes "samples" ∷ []

-- that event, no derived events over it, and no stated totals
pub record HeadIs (head : FileHead) : Type 0 where
  pub events : head.events ≡ samples_alone
  pub own : head.derived.events ≡ samples_alone
  pub derived : head.derived.derived ≡ []
  pub stated : head.stated ≡ None
