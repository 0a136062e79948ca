-- The parts of a record that is lent, as plain data.
use Rattle.std.specs.Prelude.{ℕ, List}
use Rattle.cg_text.specs.Names.{unknown}
use Rattle.cost_rows.specs.Content.{place_in}
use Rattle.cost_rows.specs.declared.places.CellPlace.{CellPlace}
use Rattle.profile_records.specs.Records.{Cost, Callee}
use Rattle.profile_records.specs.declared.sink.CallCost.{CallCost}
use Rattle.profile_records.specs.declared.sink.SelfCost.{SelfCost}

abbrev pub self_cost : SelfCost → Cost
self_cost r = record { at = r.at; object = r.names.object.text.now; file = r.names.file.text.now; function = r.names.function.text.now; line = r.line; thread = r.thread; costs = r.costs.now }

abbrev pub cost_of : CallCost → Cost
cost_of r = record { at = r.at; object = r.names.object.text.now; file = r.names.file.text.now; function = r.names.function.text.now; line = r.line; thread = r.thread; costs = r.costs.now }

abbrev pub callee_of : CallCost → Callee
callee_of r = record { object = r.called.object.text.now; file = r.called.file.text.now; function = r.called.function.text.now; count = r.count }

-- where the costs of a stack's function belong, where these names are held
abbrev pub leaf_cell : List (List ℕ) → List ℕ → CellPlace
leaf_cell names function = record { place = place_in names unknown unknown function 0; thread = 0 }
