use Rattle.std.proofs.Common.{ap, ◌∙◌, rules}
use Rattle.std.proofs.lemmas.Result.{on_ok_weaker}
use Rattle.profile_records.specs.Records.{Record, Own}
use Rattle.callgrind_reader.specs.Lines.{cost_of}
use Rattle.callgrind_reader.proofs.MarksLemmas.{lent-agrees, learnt-holds, lent-cost}
use Rattle.callgrind_reader.proofs.state.State.hand_self.Goals as goal

pub self_cost-requires-clause-known : goal.self_cost-requires-clause-known
self_cost-requires-clause-known g c = lent-agrees c.args.self.now.names _ c.own.ensures.lent (g.S.Sink.known c.args.sink.now) c.requires.known

pub returns : goal.returns
returns g c = record {
  told = on_ok_weaker c.self_cost.result
      (λ told back live at.
      let after : Record → _ = g.S.Sink.step (g.S.Sink.meaning c.args.sink.now) in
      let place = lent-cost c.args.self.now.names c.own.result c.args.self.now.lines c.args.line c.args.self.now.header.thread c.deref.result.now back live.names c.own.ensures.texts at live.header.thread in
      told ∙ ap (λ cost. after (Own cost)) place ∙ ap (λ row. after (Own (cost_of c.args.line row back))) c.deref.ensures.value)
      c.self_cost.ensures.ok;
  last = search rules;
  width = search rules;
  known = learnt-holds c.args.self.now.names _ c.own.ensures.lent (g.S.Sink.known c.args.sink.now) (g.S.Sink.known c.self_cost.new.self) c.requires.known c.self_cost.ensures.known;
  refused = search rules;
}
