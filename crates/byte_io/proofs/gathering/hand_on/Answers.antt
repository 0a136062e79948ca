use Rattle.std.proofs.Common.{subst}
use Rattle.byte_io.proofs.OnLemmas.{all_gone, passed, stopped_at}
use Rattle.byte_io.proofs.gathering.hand_on.Goals as goal

pub returns-in_err-take_piece : goal.returns-in_err-take_piece
returns-in_err-take_piece g c from text on =
    let held = c.args.held.now.items in
    let is = subst (λ (l : _). g.W.TextSink.stops c.args.out.now l c.take_piece.new.self) c.as_slice.ensures.value c.in_err-take_piece.ensures in
    passed c.from_residual.result _ _ _ c.from_residual.ensures.1 (stopped_at g.W.TextSink.takes from g.W.TextSink.stops held c.args.out.now c.take_piece.new.self text on is)

pub returns : goal.returns
returns g c from text on =
    let held = c.args.held.now.items in
    let is = subst (λ (l : _). g.W.TextSink.takes c.args.out.now l c.take_piece.new.self) c.as_slice.ensures.value c.in_ok-take_piece.ensures in
    (c.clear.ensures.items, all_gone g.W.TextSink.takes from held c.args.out.now c.take_piece.new.self text on is)
