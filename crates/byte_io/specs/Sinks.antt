-- Texts that a sink is given in pieces.
use Rattle.std.specs.Prelude.{◌≡◌, ◌⊎◌, ℕ, List, [], ◌∷◌, ◌++◌}
use Rattle.std.specs.List.{concat}

module _ {S : Type 0} (takes : S → List ℕ → S → Type 0) where
  -- these pieces were taken, one after another
  abbrev pub TakesEach : S → List (List ℕ) → S → Type 0
  TakesEach from [] to = from ≡ to
  TakesEach from (piece ∷ more) to = (between : S) × takes from piece between × TakesEach between more to

  -- a text was taken, in pieces
  pub record HasGone (from : S) (text : List ℕ) (to : S) : Type 0 where
    pub pieces : List (List ℕ)
    pub taken : TakesEach from pieces to
    pub are : concat pieces ≡ text

  module _ (stops : S → List ℕ → S → Type 0) where
    -- the first bytes of a text were taken, and then the sink stopped at a piece
    pub record HasStopped (from : S) (text : List ℕ) (to : S) : Type 0 where
      pub before : List ℕ
      pub piece : List ℕ
      pub rest : List ℕ
      pub whole : before ++ (piece ++ rest) ≡ text
      pub between : S
      pub gone : HasGone from before between
      pub last : stops between piece to

    -- the first bytes of a text were taken, and then the sink stopped at a piece, or was given no more
    pub record HasGoneInPart (from : S) (text : List ℕ) (to : S) : Type 0 where
      pub before : List ℕ
      pub piece : List ℕ
      pub rest : List ℕ
      pub whole : before ++ (piece ++ rest) ≡ text
      pub between : S
      pub gone : HasGone from before between
      pub last : (to ≡ between) ⊎ stops between piece to
