-- A text of rows that is written in pieces.
use Rattle.std.specs.Prelude.{◌≡◌, ℕ, true, false, List, [], ◌++◌, Result, MatchResult}
use Rattle.byte_io.specs.Sinks.{HasGone, HasGoneInPart}
use Rattle.cost_exports.specs.Views.{HasWritten}
use Rattle.cost_exports.specs.declared.csv_pieces.Pieces.{Pieces}

module _ {S : Type 0} (takes : S → List ℕ → S → Type 0) where
  -- the text so far: the sink took its first bytes, was given none as long as no piece was begun, and the others are gathered
  pub record IsOn (from : S) (pieces : Pieces) (to : S) (text : List ℕ) : Type 0 where
    pub written : List ℕ
    pub held : List ℕ
    pub out : HasGone takes from written to
    pub gathered : HasWritten pieces.rows held
    pub whole : written ++ held ≡ text
    pub none : pieces.begun ≡ false → to ≡ from

  -- the sink took the text so far
  pub record IsOut (from : S) (pieces : Pieces) (to : S) (text : List ℕ) : Type 0 where
    pub out : HasGone takes from text to
    pub gathered : HasWritten pieces.rows []
    pub begun : pieces.begun ≡ true

  module _ (stops : S → List ℕ → S → Type 0) where
    -- it took the first bytes of a text that failed, and was given none if no piece was begun
    pub record IsCut (from : S) (pieces : Pieces) (to : S) (text : List ℕ) : Type 0 where
      pub out : HasGoneInPart takes stops from text to
      pub none : pieces.begun ≡ false → to ≡ from

    -- a text so far goes on with these bytes, or failed with the first of them
    abbrev pub GoesOn : {E : Type 0} → Result Unit E → Pieces → Pieces → S → S → List ℕ → Type 0
    GoesOn result old new before after more = (from : S) (text : List ℕ) → IsOn from old before text → MatchResult result (λ done. IsOn from new after (text ++ more)) (λ e. IsCut from new after (text ++ more))
