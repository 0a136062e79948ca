use Rattle.std.proofs.Common.{arith}
use Rattle.std.proofs.lemmas.List.{length-drop}
use Rattle.byte_io.proofs.Writes.{more_written}
use Rattle.byte_io.proofs.writing.write_text.Goals as goal

pub writes-preserved : goal.writes-preserved
writes-preserved g c =
    let text = c.args.text.now in
    let i = c.writes.invariant in
    record {
      within = omega (arith, c.in_ok-written.ensures.within, i.within, length-drop c.writes.written text);
      written = more_written (g.W.Write.contents c.args.out.now) (g.W.Write.contents c.writes.out) (g.W.Write.contents c.write_some.new.out) text c.writes.written c.in_ok-written.field-0 i.written c.in_ok-written.ensures.first;
    }
