-- A text on its way to a sink.
use Rattle.std.specs.Prelude.{◌≡◌, ℕ, List, ◌++◌}
use Rattle.byte_io.specs.Sinks.{HasGone}

-- the text so far: the sink took its first bytes, and the others are held
pub record IsOn {S : Type 0} (takes : S → List ℕ → S → Type 0) (from : S) (held : List ℕ) (to : S) (text : List ℕ) : Type 0 where
  pub gone : List ℕ
  pub out : HasGone takes from gone to
  pub whole : gone ++ held ≡ text
