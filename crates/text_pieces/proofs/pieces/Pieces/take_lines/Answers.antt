use Rattle.std.proofs.Common.{◌+◌, ◌≤◌, [], ◌∷◌, ◌++◌, length, length-append, refl, sym, ◌∙◌, ap, arith, rules}
use Rattle.std.proofs.lemmas.List.{append_assoc}
use Rattle.text_pieces.specs.Moves.{at}
use Rattle.text_pieces.proofs.MovesLemmas.{ready_less, ready_on, moves_none, moves_then, stops, stops_behind, takes_last}
use Rattle.text_pieces.proofs.pieces.Pieces.take_lines.Goals as goal

pub loop-run-init : goal.loop-run-init
loop-run-init g c = ([], refl, moves_none g.T.LineSink _ (ready_less g.T.LineSink _ _ _ c.requires.ready (omega arith)))

pub loop-run-preserved : goal.loop-run-preserved
loop-run-preserved g c =
    let run = c.in-Some.run'.now in
    let m = c.loop-run.invariant in
    (m.0 ++ (run ++ 10 ∷ []), append_assoc m.0 (run ++ 10 ∷ []) c.in-Some.more.now ∙ ap (λ xs. m.0 ++ xs) (sym c.in-Some.ensures.whole) ∙ m.1, moves_then g.T.LineSink _ _ _ m.0 (run ++ 10 ∷ []) m.2 c.in_ok-line.ensures.done)

pub returns-in_err-line : goal.returns-in_err-line
returns-in_err-line g c =
    let m = c.loop-run.invariant in
    stops g.T.LineSink c.from_residual.result _ _ c.args.piece.now (search rules) (stops_behind g.T.LineSink _ _ _ m.0 c.loop-run.rest.now c.args.piece.now m.1 m.2 c.in_err-line.ensures.refused)

pub returns : goal.returns
returns g c =
    let m = c.loop-run.invariant in
    let joined = length-append m.0 c.loop-run.rest.now in
    let all = ap length m.1 in
    let few : length m.0 + length c.loop-run.rest.now ≤ length c.args.piece.now = omega (arith, joined, all) in
    let ready = ready_on g.T.LineSink _ _ m.0 _ _ c.requires.ready m.2 few in
    takes_last g.T.LineSink c.keep.result (at c.args.self.now c.args.state.now c.args.sink.now) c.loop-run.self c.keep.new.self c.loop-run.state c.loop-run.sink m.0 c.loop-run.rest.now c.args.piece.now m.1 m.2
    (search rules) ready c.keep.ensures.keeps c.keep.ensures.taken c.keep.ensures.spent
