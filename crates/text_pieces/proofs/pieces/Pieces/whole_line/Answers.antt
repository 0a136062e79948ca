use Rattle.std.proofs.Common.{◌≡◌, [], ◌∷◌, ◌++◌, length-append, refl, sym, ◌∙◌, arith}
use Rattle.std.proofs.lemmas.Bool.{MatchBool-at_false}
use Rattle.text_pieces.specs.Cut.{cut}
use Rattle.text_pieces.specs.declared.takes.Line.TheVariants.{Complete}
use Rattle.text_pieces.proofs.CutLemmas.{back-line}
use Rattle.text_pieces.proofs.MovesLemmas.{takes_line}
use Rattle.text_pieces.proofs.pieces.Pieces.whole_line.Goals as goal

pub returns : goal.returns
returns g c =
    let bytes = c.args.bytes.now in
    let joined = length-append bytes (10 ∷ []) in
    takes_line g.T.LineSink (Complete c.args.bytes) c.args.self.now _ c.args.state.now _ c.args.sink.now _ (bytes ++ 10 ∷ []) c.take_line.result
    (λ text keeps.
    let none : (cut text).rest ≡ [] = sym (MatchBool-at_false _ _ c.requires.short_line keeps) ∙ c.requires.nothing in
    let after = rw none at (back-line g.T.LineSink.reading_of bytes text c.requires.none) in
    record { said = bytes; is_line = refl; nearest = after.0; keeps = rw (c.requires.short_line, after.1) c.requires.nothing })
    (omega (arith, joined)) (omega (arith, joined)) c.requires.ready.lines c.requires.ready.fresh c.take_line.ensures.represents c.take_line.ensures.told c.take_line.ensures.fits c.take_line.ensures.lines c.take_line.ensures.err
