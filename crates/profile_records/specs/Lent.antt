-- The records that a sink is lent, as plain data.
use Rattle.profile_records.specs.Records.{Record, Own, Called}
use Rattle.profile_records.specs.declared.sink.SelfCost.{SelfCost}
use Rattle.profile_records.specs.declared.sink.CallCost.{CallCost}

abbrev pub own : SelfCost → Record
own r = Own (record { at = r.at; object = r.names.object.text.now; file = r.names.file.text.now; function = r.names.function.text.now; line = r.line; thread = r.thread; costs = r.costs.now })

abbrev pub called : CallCost → Record
called r = Called (record { object = r.called.object.text.now; file = r.called.file.text.now; function = r.called.function.text.now; count = r.count })
    (record { at = r.at; object = r.names.object.text.now; file = r.names.file.text.now; function = r.names.function.text.now; line = r.line; thread = r.thread; costs = r.costs.now })
