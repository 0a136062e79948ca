-- The two grammars of Callgrind files: the first knows no threads.
use Rattle.std.specs.Prelude.{ℕ, List, Ok}
use Rattle.cg_text.specs.Readings.{Reading, reading_of}
use Rattle.cg_text.specs.Kinds.{Header}
use Rattle.cg_text.specs.declared.words.HeaderKey.TheVariants.{Thread, Other}

pub data Grammar : Type 0 where
  First : Grammar
  Second : Grammar

-- to the first grammar a `thread:` line is one of those that say nothing of costs
abbrev pub unthreaded : Reading → Reading
unthreaded (Ok (Header Thread value)) = Ok (Header Other value)
unthreaded r = r

-- what a line says by itself
abbrev pub reading_in : Grammar → List ℕ → Reading
reading_in Second = reading_of
reading_in First = λ line. unthreaded (reading_of line)
