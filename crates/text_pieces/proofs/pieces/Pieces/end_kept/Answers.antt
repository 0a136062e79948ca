use Rattle.std.proofs.Common.{[], ◌∷◌, refl, arith}
use Rattle.text_pieces.specs.Moves.{at}
use Rattle.text_pieces.proofs.MovesLemmas.{ready_less, moves_run, takes_then}
use Rattle.text_pieces.proofs.pieces.Pieces.end_kept.Goals as goal

pub returns : goal.returns
returns g c =
    takes_then g.T.LineSink c.end_line.result (at c.args.self.now c.args.state.now c.args.sink.now) (at c.keep.new.self c.args.state.now c.args.sink.now) _ c.args.bytes.now (10 ∷ [])
    (moves_run g.T.LineSink c.args.self.now c.keep.new.self c.args.state.now c.args.sink.now c.args.bytes.now c.requires.none c.in_ok-keep.ensures.keeps c.in_ok-keep.ensures.taken c.in_ok-keep.ensures.spent (ready_less g.T.LineSink _ _ _ c.requires.ready (omega arith)))
    refl c.end_line.ensures
