-- What is printed of a fault: its code and its text.
use Rattle.std.specs.Prelude.{ℕ, List, codes}
use Rattle.cg_text.specs.declared.faults.Fault.{Fault}
use Rattle.cg_text.specs.declared.faults.Fault.TheVariants.{LineTooLong, UnknownLine, BadNumber, NumberTooLarge, Version, NoEvents, EventTwice, EventsChanged, PositionsForm, ShortLine, TooManyCosts, PositionRange, UnknownId, IdRedefined, CallWithoutCost, FormulaForm, FormulaUnknown, FormulaTooLarge, FoldedLine, TooManyEvents}

abbrev pub fault_text : Fault → List ℕ
fault_text LineTooLong = codes "F1 line too long"
fault_text UnknownLine = codes "F2 unknown line"
fault_text BadNumber = codes "F3 bad number"
fault_text NumberTooLarge = codes "F4 number too large"
fault_text Version = codes "F5 version"
fault_text NoEvents = codes "F6 no events"
fault_text EventTwice = codes "F7 event twice"
fault_text EventsChanged = codes "F8 events changed"
fault_text PositionsForm = codes "F9 positions form"
fault_text ShortLine = codes "F10 short line"
fault_text TooManyCosts = codes "F11 too many costs"
fault_text PositionRange = codes "F12 position range"
fault_text UnknownId = codes "F13 unknown identifier"
fault_text IdRedefined = codes "F14 identifier redefined"
fault_text CallWithoutCost = codes "F15 call without cost"
fault_text FormulaForm = codes "F16 formula form"
fault_text FormulaUnknown = codes "F17 formula unknown"
fault_text FormulaTooLarge = codes "F18 formula too large"
fault_text FoldedLine = codes "F19 folded line"
fault_text TooManyEvents = codes "F20 too many events"
