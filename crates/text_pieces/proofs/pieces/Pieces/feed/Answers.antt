use Rattle.std.proofs.Common.{refl}
use Rattle.text_pieces.proofs.MovesLemmas.{stops_first}
use Rattle.text_pieces.proofs.pieces.Pieces.feed.Goals as goal

pub returns-then-self-clause-takes : goal.returns-then-self-clause-takes
returns-then-self-clause-takes g c = record { done = tt; stopped = stops_first g.T.LineSink _ _ c.args.piece.now (record { untouched = refl; lines = c.requires.few }) }
