-- The stacks of a file, as plain data.
use Rattle.std.specs.Prelude.{ℕ, List}

-- frames, joined by `;` with the root first, and how often they were seen
pub record Stack : Type 0 where
  pub frames : List ℕ
  pub count : ℕ

-- a stack, and the line that it stands on
pub record Seen : Type 0 where
  pub at : ℕ
  pub stack : Stack

-- a stack that a sink is lent
abbrev pub lent : ℕ → List ℕ → ℕ → Seen
lent at frames count = record { at = at; stack = record { frames = frames; count = count } }
