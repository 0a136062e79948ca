use Rattle.std.proofs.Common.{[], ◌∷◌, sym, ◌∙◌, arith}
use Rattle.text_pieces.specs.Cut.{cut}
use Rattle.text_pieces.proofs.CutLemmas.{back-lf, rest-lf}
use Rattle.text_pieces.proofs.MovesLemmas.{moves_line}
use Rattle.text_pieces.proofs.pieces.Pieces.end_line.Goals as goal

pub returns : goal.returns
returns g c = record {
  done =
      moves_line g.T.LineSink c.kept.result c.args.self.now _ c.args.state.now _ c.args.sink.now _ (10 ∷ [])
      (λ text keeps. record { said = (cut text).rest; is_line = c.kept.ensures text keeps; nearest = (back-lf g.T.LineSink.reading_of text).0; keeps = c.clear.ensures.items ∙ sym (rest-lf text) })
      (omega arith) (omega arith) c.requires.ready.lines c.requires.ready.fresh c.in_ok-take_line.ensures.represents c.in_ok-take_line.ensures.told c.in_ok-take_line.ensures.fits c.in_ok-take_line.ensures.lines;
  refused = tt;
}
