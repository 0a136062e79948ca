use Rattle.std.proofs.Common.{[], refl, sym, subst}
use Rattle.histories.specs.Requests.{command_read}
use Rattle.requests.specs.Plain.{plain_command}
use Rattle.http_exchange.proofs.BodyLemmas.{came_of}
use Rattle.prof_http.specs.Performed.{IsFulfilled}
use Rattle.prof_http.specs.declared.replies.Reply.TheVariants.{Answered}
use Rattle.prof_http.proofs.Unread.{unread}
use Rattle.prof_http.proofs.exchange.fulfil.Goals as goal

pub returns-in-Ask-clause-done : goal.returns-in-Ask-clause-done
returns-in-Ask-clause-done g c =
    let old = c.args.warehouse.now in
    subst (λ one. IsFulfilled g.S.StoreState g.T.Stream.reads old.limits (command_read (plain_command one)) c.args.body (Answered c.ask.result) c.args.body.stream old.store c.ask.new.self.store) (sym c.in-Ask.is) (record {
      outcomes = [];
      handed = unread g.T.Stream.reads c.args.body c.args.body.stream refl;
      answers = λ said says. (c.ask.result, says, c.ask.ensures.answered);
    })

pub returns-in_default-clause-done : goal.returns-in_default-clause-done
returns-in_default-clause-done g c =
    let it = c.perform-answer.ensures.answered in
    let comes = came_of g.T.Stream.reads c.args.body it.outcomes c.perform-answer.new.source it.came in
    record {
      outcomes = it.outcomes;
      handed = record { stream_reads = comes.0; came = comes.1; made = comes.2 };
      answers = λ said says. (c.perform-answer.result, says, it.answers);
    }
