-- Kinds and names as the code has them, without where their bytes lie in memory.
use Rattle.std.specs.Prelude.{Result, Ok, Err}
use Rattle.std.specs.Option.{option_copied}
use Rattle.cg_text.specs.Kinds as kinds
use Rattle.cg_text.specs.Kinds.{Kind}
use Rattle.cg_text.specs.Names.{Spec}
use Rattle.cg_text.specs.declared.faults.Fault.{Fault}
use Rattle.cg_text.specs.declared.kinds.LineKind.{LineKind}
use Rattle.cg_text.specs.declared.kinds.LineKind.TheVariants.{Nothing, Cost, Header, Name, Calls, Jump}
use Rattle.cg_text.specs.declared.names.NameSpec.{NameSpec}

abbrev pub plain_kind : LineKind → Kind
plain_kind Nothing = kinds.Nothing
plain_kind (Cost text) = kinds.Cost text.now
plain_kind (Header key value) = kinds.Header key value.now
plain_kind (Name word value) = kinds.Name word value.now
plain_kind (Calls value) = kinds.Calls value.now
plain_kind Jump = kinds.Jump

-- the kind, or the fault
abbrev pub kind_is : Result LineKind Fault → Result Kind Fault
kind_is (Ok kind) = Ok (plain_kind kind)
kind_is (Err fault) = Err fault

abbrev pub plain_spec : NameSpec → Spec
plain_spec s = record { id = s.id; text = option_copied s.text }

-- the identifier and the text, or the fault
abbrev pub name_is : Result NameSpec Fault → Result Spec Fault
name_is (Ok s) = Ok (plain_spec s)
name_is (Err fault) = Err fault
