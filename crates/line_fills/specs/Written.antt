-- A record that is being made.
use Rattle.std.specs.Prelude.{[], ◌∷◌, ◌++◌, Result, OnOk}
use Rattle.sqlite_record.specs.Record.{AreBodiesOf, AreTypesOf}
use Rattle.sqlite_value.specs.declared.value.Value.{Value}
use Rattle.sqlite_value.specs.Order.{Row}
use Rattle.line_fills.specs.declared.encoder.Encoder.{Encoder}

-- it has the types and the bytes of these values
pub record HasValues (encoder : Encoder) (row : Row) : Type 0 where
  pub typed : AreTypesOf encoder.types.items row
  pub filled : AreBodiesOf encoder.body.items row

-- it gets a value behind those that it has
abbrev pub Takes : Encoder → Encoder → Value → {A E : Type 0} → Result A E → Type 0
Takes old new value result = (row : Row) → HasValues old row → OnOk result (HasValues new (row ++ value ∷ []))
