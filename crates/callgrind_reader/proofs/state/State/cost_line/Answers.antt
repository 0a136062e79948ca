use Rattle.std.proofs.Common.{◌≡◌, refl, sym, subst, ◌∙◌, ap, rules, arith}
use Rattle.callgrind_reader.specs.Positions.{or_line, layout_of, offsets_at}
use Rattle.callgrind_reader.specs.Representation.{HeaderIs}
use Rattle.callgrind_reader.proofs.MarksLemmas.{known-stays}
use Rattle.callgrind_reader.proofs.state.State.cost_line.Goals as goal

pub returns : goal.returns
returns g c = record {
  follows = λ back live at.
      let layout : c.layout-layout.result ≡ layout_of back = c.layout-layout.ensures ∙ ap or_line live.header.layout in
      let moves = rw c.in-Ok.is at c.in_ok-placed.ensures.moves in
      record {
        fault = search rules;
        live = λ _. record {
          header = c.settle.ensures.cost back c.args.text.now (subst (λ h. HeaderIs h back) (sym c.in_ok-hand_record.ensures.header) live.header);
          names = c.in_ok-hand_record.ensures.names back c.args.text.now (record { header = live.header; names = live.names; places = live.places; call = live.call });
          places = rw (← layout) (moves (offsets_at back) live.places);
          call = refl;
        };
      };
  told = λ back live at. search rules;
  fits = (
    let last = c.in_ok-hand_record.ensures.hands.last in
        let same = c.in_ok-hand_record.ensures.same.lines in
        omega (arith, last, same),
    search rules,
    known-stays c.args.self.now.names c.hand_record.new.self.names (g.S.Sink.known c.hand_record.new.sink) c.hand_record.ensures.marks c.hand_record.ensures.hands.known,
  );
  refused = tt;
  same = search rules;
}
