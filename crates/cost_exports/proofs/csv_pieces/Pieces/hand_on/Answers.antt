use Rattle.std.proofs.Common.{ℕ, List, [], unwrap_or, Some, refl, ap, ◌∙◌}
use Rattle.std.specs.declared.vec.Vec.{Vec}
use Rattle.csv.specs.Writing.{text_written}
use Rattle.csv.specs.declared.writer.Writer.{Writer}
use Rattle.cost_exports.specs.Views.{HasWritten}
use Rattle.cost_exports.proofs.PieceLemmas.{all_out, cut_within}
use Rattle.cost_exports.proofs.csv_pieces.Pieces.hand_on.Goals as goal

-- all that a writer was given
abbrev bytes_of : {Z : Type 0} → Writer (Vec ℕ Z) → List ℕ
bytes_of {Z} w = unwrap_or (text_written (λ (v : Vec ℕ Z). Some v.items) w) []

pub returns-in-Err : goal.returns-in-Err
returns-in-Err g c from text on =
    let piece = c.as_slice.ensures.value ∙ c.in-Ok.ensures.ok ∙ ap bytes_of c.take.ensures.rows ∙ ap (λ o. unwrap_or o []) on.gathered.text in
    cut_within g.W.TextSink.takes from g.W.TextSink.stops c.args.self.now _ c.args.out.now c.take_piece.new.self text c.as_slice.result.now refl on piece c.in-Err.ensures

pub returns : goal.returns
returns g c from text on =
    let piece = c.as_slice.ensures.value ∙ c.in-Ok.ensures.ok ∙ ap bytes_of c.take.ensures.rows ∙ ap (λ o. unwrap_or o []) on.gathered.text in
    let made = c.from_writer.ensures in
    let none : HasWritten c.from_writer.result [] = record {
      setup = made.cfg ∙ c.new.ensures;
      text = rw (made.wtr, made.empty, c.clear.ensures.items) refl;
      fields = made.fields;
      clean = made.wrote;
    } in
    all_out g.W.TextSink.takes from c.args.self.now _ c.args.out.now c.take_piece.new.self text c.as_slice.result.now refl none on piece c.in_default-take_piece.ensures
