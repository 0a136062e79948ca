use Rattle.std.proofs.Common.{◌++◌, sym, subst, refl}
use Rattle.byte_io.specs.Gone.{IsOn}
use Rattle.byte_io.proofs.OnLemmas.{followed, gone_with, part_of, passed, stopped_behind}
use Rattle.byte_io.proofs.gathering.put.Goals as goal

pub returns-in_err-hand_on : goal.returns-in_err-hand_on
returns-in_err-hand_on g c from text on =
    let bytes = c.args.bytes.now in
    let still = subst (λ (l : _). IsOn g.W.TextSink.takes from l c.args.out.now text) (sym c.if-gathers.ensures) on in
    passed c.from_residual.result _ _ _ c.from_residual.ensures.1
    (part_of g.W.TextSink.takes from g.W.TextSink.stops c.hand_on.new.out text bytes (text ++ bytes) refl (c.in_err-hand_on.ensures from text still))

pub returns : goal.returns
returns g c from text on =
    let bytes = c.args.bytes.now in
    let out = c.hand_on.new.out in
    let to = c.take_piece.new.self in
    let still = subst (λ (l : _). IsOn g.W.TextSink.takes from l c.args.out.now text) (sym c.if-gathers.ensures) on in
    let gone = c.in_ok-hand_on.ensures from text still in
    followed c.take_piece.result _ _ _ _ c.take_piece.ensures
    (λ is. subst (λ (l : _). IsOn g.W.TextSink.takes from l to (text ++ bytes)) (sym gone.0) (gone_with g.W.TextSink.takes from out to text bytes gone.1 is))
    (λ is. stopped_behind g.W.TextSink.takes from g.W.TextSink.stops out to text bytes gone.1 is)
