use Rattle.std.proofs.Common.{◌++◌, refl}
use Rattle.report_texts.specs.Csv.{csv_row}
use Rattle.cost_exports.specs.Views.{held_line, held_names, spot_with}
use Rattle.cost_exports.proofs.PieceLemmas.{cut_here, gathered_on, handed_on, passed}
use Rattle.cost_exports.proofs.csv_texts.put_line.Goals as goal

pub returns-then-are_full : goal.returns-then-are_full
returns-then-are_full g c from text on =
    let row = csv_row (spot_with (held_names c.args.names.now) (held_line c.args.line.now), c.args.cost) in
    let more = gathered_on g.W.TextSink.takes from c.args.pieces.now _ c.args.out.now text row refl on (c.in_ok-write_line.ensures on.held on.gathered) in
    handed_on g.W.TextSink.takes g.W.TextSink.stops c.hand_on.result from c.hand_on.new.self c.hand_on.new.out (text ++ row) (c.hand_on.ensures from (text ++ row) more)

pub returns-in_err-write_line : goal.returns-in_err-write_line
returns-in_err-write_line g c from text on =
    let row = csv_row (spot_with (held_names c.args.names.now) (held_line c.args.line.now), c.args.cost) in
    passed c.from_residual.result _ _ _ c.from_residual.ensures.1 (cut_here g.W.TextSink.takes from g.W.TextSink.stops c.args.pieces.now _ c.args.out.now text row refl on)

pub returns : goal.returns
returns g c from text on =
    let row = csv_row (spot_with (held_names c.args.names.now) (held_line c.args.line.now), c.args.cost) in
    gathered_on g.W.TextSink.takes from c.args.pieces.now _ c.args.out.now text row refl on (c.in_ok-write_line.ensures on.held on.gathered)
