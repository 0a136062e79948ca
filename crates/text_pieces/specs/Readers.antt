-- What a call does to a reader of any format: the pieces of its text, and what takes their lines.
use Rattle.std.specs.Prelude.{◌≡◌, ℕ, List, ◌++◌, fold}
use Rattle.text_pieces.specs.Backwards.{back_of, so_far, IsPrefix}
use Rattle.text_pieces.specs.Kept.{Keeps}
use Rattle.text_pieces.specs.declared.pieces.Pieces.{Pieces}

-- pieces and a state represent the text so far, whose whole lines handed this on
pub record Represents {A B T : Type 0} (says : List ℕ → A) (tells : List A → List B) (represents : T → List A → Type 0) (pieces : Pieces) (state : T) (text : List ℕ) (told : List B) : Type 0 where
  pub lines : represents state (back_of says text)
  pub rest : Keeps pieces text
  pub handed : told ≡ so_far says tells text

-- ---- a reader that represents a text, having handed something on, and what its sink means; `step` is what one thing makes of a meaning

module _ {R B M : Type 0} (Reads : R → List ℕ → List B → Type 0) (step : M → B → M) where
  -- by these bytes it goes on: it represents the text with them behind, and the sink was told the rest of what it has handed on
  abbrev pub GoesOn : R → M → List ℕ → R → M → Type 0
  GoesOn old before bytes new after = (text : List ℕ) (told : List B) → Reads old text told → (more : List B) × Reads new (text ++ bytes) (told ++ more) × (after ≡ fold step before more)

module _ {B M : Type 0} (all : List ℕ → List B) (step : M → B → M) where
  -- the sink was told the rest of what a text hands on
  abbrev pub HandsAll : List ℕ → List B → M → M → Type 0
  HandsAll text told before after = (more : List B) × (all text ≡ told ++ more) × (after ≡ fold step before more)

  -- or a part of the rest, from its beginning
  abbrev pub HandsPart : List ℕ → List B → M → M → Type 0
  HandsPart text told before after = (more : List B) × IsPrefix (told ++ more) (all text) × (after ≡ fold step before more)
