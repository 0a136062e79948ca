use Rattle.std.proofs.Common.{ap, ◌∙◌, rules}
use Rattle.std.proofs.lemmas.Result.{on_ok_weaker}
use Rattle.profile_records.specs.Records.{Record, Called}
use Rattle.callgrind_reader.specs.Calls.{callee_of}
use Rattle.callgrind_reader.specs.Lines.{cost_of}
use Rattle.callgrind_reader.proofs.MarksLemmas.{lent-agrees, learnt-holds, lent-cost, lent-callee, both-lent}
use Rattle.callgrind_reader.proofs.state.State.hand_call.Goals as goal

pub call-requires-clause-known : goal.call-requires-clause-known
call-requires-clause-known g c =
    lent-agrees c.args.self.now.names _ (both-lent c.args.self.now.names c.own.result c.called.result c.own.ensures.lent c.called.ensures.lent) (g.S.Sink.known c.args.sink.now) c.requires.fits.known

pub returns : goal.returns
returns g c = record {
  told = on_ok_weaker c.call.result
      (λ told back live at.
      let names = c.args.self.now.names in
      let costs = c.deref.result.now in
      let after : Record → _ = g.S.Sink.step (g.S.Sink.meaning c.args.sink.now) in
      let place = lent-cost names c.own.result c.args.self.now.lines c.args.line c.args.self.now.header.thread costs back live.names c.own.ensures.texts at live.header.thread in
      let callee = lent-callee names c.called.result c.args.count back live.names c.called.ensures.texts in
      told
      ∙ ap (λ cost. after (Called (record { object = c.called.result.object.text.now; file = c.called.result.file.text.now; function = c.called.result.function.text.now; count = c.args.count }) cost)) place
      ∙ ap (λ whom. after (Called whom (cost_of c.args.line costs back))) callee
      ∙ ap (λ row. after (Called (callee_of c.args.count back) (cost_of c.args.line row back))) c.deref.ensures.value)
      c.call.ensures.ok;
  last = search rules;
  width = search rules;
  known = learnt-holds c.args.self.now.names _ (both-lent c.args.self.now.names c.own.result c.called.result c.own.ensures.lent c.called.ensures.lent) (g.S.Sink.known c.args.sink.now) (g.S.Sink.known c.call.new.self)
      c.requires.fits.known c.call.ensures.known;
  refused = search rules;
}
