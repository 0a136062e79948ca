use Rattle.std.proofs.Common.{rules}
use Rattle.callgrind_reader.proofs.MarksLemmas.{marks-same}
use Rattle.callgrind_reader.proofs.state.State.calls_line.Goals as goal

pub returns-in-Ok-clause-takes : goal.returns-in-Ok-clause-takes
returns-in-Ok-clause-takes c = record {
  follows = λ back live at. record {
    fault = search rules;
    live = λ _. record { header = c.settle.ensures.calls back c.args.value.now live.header; names = search rules; places = search rules; call = search rules };
  };
  events = search rules;
  marks = marks-same c.args.self.now.names;
}
