-- A text that is made.
use Rattle.std.specs.Prelude.{◌≡◌, ◌++◌, ℕ, List}
use Rattle.byte_io.specs.Parts.{text_of}
use Rattle.byte_io.specs.declared.writers.TextWriter.{TextWriter}

-- what was written so far
abbrev pub written : TextWriter → List ℕ
written text = text_of text.parts.items text.bytes.items

-- a text goes on with these bytes, and may have as many as before
pub record GoesOn (old new : TextWriter) (bytes : List ℕ) : Type 0 where
  pub written_is : written new ≡ written old ++ bytes
  pub most_is : new.most ≡ old.most
