use Rattle.std.proofs.Common.{[], refl}
use Rattle.prof_http.proofs.Unread.{unread}
use Rattle.prof_http.proofs.exchange.sum_up.Goals as goal

pub returns-in-Ok-clause-done : goal.returns-in-Ok-clause-done
returns-in-Ok-clause-done g c = record {
  outcomes = [];
  handed = unread g.T.Stream.reads c.args.body c.args.body.stream refl;
  answers = λ said says. (says.0, says.2, λ clean. c.in-Ok.ensures.answered says.0 says.1 clean);
}

pub returns-in-Err-clause-done : goal.returns-in-Err-clause-done
returns-in-Err-clause-done g c = record {
  outcomes = [];
  handed = unread g.T.Stream.reads c.args.body c.args.body.stream refl;
  answers = λ said says. (c.in-Err.answer, says, λ clean. c.in-Err.ensures.answered c.in-Err.answer refl clean);
}
