use Rattle.std.proofs.Common.{is_some, sym, ◌∙◌, ap}
use Rattle.callgrind_reader.proofs.state.State.hand_record.Goals as goal

pub returns-in_ok-hand_call-in-Some-clause-names : goal.returns-in_ok-hand_call-in-Some-clause-names
returns-in_ok-hand_call-in-Some-clause-names g c = λ back text live.
    c.forget_called.ensures.forgets back text live.names (ap is_some (sym live.call ∙ c.in-Some.is))
