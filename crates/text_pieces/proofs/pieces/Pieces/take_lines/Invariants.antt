use Rattle.std.proofs.Common.{◌≡◌, ℕ, List, ◌++◌, length}
use Rattle.text_pieces.specs.Moves.{at, Moves}
use Rattle.text_pieces.proofs.pieces.Pieces.take_lines.Given as goal

-- the bytes of the piece so far were taken
abbrev pub invariant-loop-run : goal.invariant-loop-run
invariant-loop-run g l = (so_far : List ℕ) × (so_far ++ l.rest ≡ l.piece) × Moves g.T.LineSink (at l.fn.self l.fn.state l.fn.sink) so_far (at l.self l.state l.sink)

abbrev pub decreases-loop-run : goal.decreases-loop-run
decreases-loop-run g l = length l.rest
