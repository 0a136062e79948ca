use Rattle.std.proofs.lemmas.Bool.{MatchBool-at_true, MatchBool-at_false}
use Rattle.text_pieces.proofs.MovesLemmas.{ends_none, ends_line}
use Rattle.text_pieces.proofs.pieces.Pieces.finish.Goals as goal

pub returns-then-is_empty-clause-ends : goal.returns-then-is_empty-clause-ends
returns-then-is_empty-clause-ends g c = ends_none g.T.LineSink c.args.self c.args.state.now c.args.sink.now (λ text keeps. MatchBool-at_true _ _ c.if-is_empty.true (c.is_empty.ensures.rest text keeps))

pub returns-clause-ends : goal.returns-clause-ends
returns-clause-ends g c =
    ends_line g.T.LineSink c.take_line.result c.kept.result c.args.self c.args.state.now _ c.args.sink.now _ c.kept.ensures
    (λ text keeps. MatchBool-at_false _ _ c.if-is_empty.false (c.is_empty.ensures.rest text keeps)) c.take_line.ensures.represents c.take_line.ensures.told
