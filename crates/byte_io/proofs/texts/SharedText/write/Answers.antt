use Rattle.std.proofs.Common.{List, ℕ, OnErr, OnOk, subst}
use Rattle.byte_io.specs.Sinks.{HasGone, HasStopped}
use Rattle.byte_io.proofs.OnLemmas.{one_gone, one_stopped}
use Rattle.byte_io.proofs.texts.SharedText.write.Goals as goal

pub returns-in-Some-clause-whole : goal.returns-in-Some-clause-whole
returns-in-Some-clause-whole g c =
    let to = c.take_piece.new.self in
    subst (λ (l : List ℕ). OnOk c.take_piece.result (HasGone g.W.TextSink.takes c.args.out.now l to)) c.in-Some.ensures
    (one_gone g.W.TextSink.takes g.W.TextSink.stops c.take_piece.result c.args.out.now to c.in-Some.bytes.now c.take_piece.ensures)

pub returns-in-Some-clause-part : goal.returns-in-Some-clause-part
returns-in-Some-clause-part g c =
    let to = c.take_piece.new.self in
    subst (λ (l : List ℕ). OnErr c.take_piece.result (HasStopped g.W.TextSink.takes g.W.TextSink.stops c.args.out.now l to)) c.in-Some.ensures
    (one_stopped g.W.TextSink.takes g.W.TextSink.stops c.take_piece.result c.args.out.now to c.in-Some.bytes.now c.take_piece.ensures)
