-- The definitions that `event:` lines give.
use Rattle.std.specs.Prelude.{ℕ, List, [], ◌∷◌, Result, Ok, Err}
use Rattle.cg_text.specs.Readings.{Reading}
use Rattle.cg_text.specs.Kinds.{Header}
use Rattle.cg_formulas.specs.EventLines as said
use Rattle.cg_formulas.specs.EventLines.{event_of}
use Rattle.cg_formulas.specs.Formulas.{Definition, define}
use Rattle.cg_text.specs.declared.faults.Fault.{Fault}
use Rattle.cg_text.specs.declared.words.HeaderKey.TheVariants.{Event}
use Rattle.callgrind_reader.specs.Calls.{number_after}

-- the definitions after a line that says this; one out of form gives none
abbrev pub define_by : ℕ → Result said.Event Fault → List Definition → List Definition
define_by line (Ok event) before = define line event before
define_by line (Err fault) before = before

-- the definitions that the `event:` lines give, each with its line, the nearest first
abbrev pub definitions_of : List Reading → List Definition
definitions_of [] = []
definitions_of (Ok (Header Event value) ∷ back) = define_by (number_after back) (event_of value) (definitions_of back)
definitions_of (r ∷ back) = definitions_of back
