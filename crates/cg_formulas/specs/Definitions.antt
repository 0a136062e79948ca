-- Definitions as the code keeps them.
use Rattle.std.specs.Prelude.{List, map, reverse}
use Rattle.cg_formulas.specs.Formulas.{Definition}
use Rattle.cg_formulas.specs.EventViews.{terms_in}
use Rattle.cg_formulas.specs.declared.definitions.Definition as kept

abbrev pub plain_definition : kept.Definition → Definition
plain_definition d = record { line = d.line; name = d.name; terms = terms_in d.formula.text }

-- the nearest first
abbrev pub plain_back : List kept.Definition → List Definition
plain_back ds = reverse (map plain_definition ds)
