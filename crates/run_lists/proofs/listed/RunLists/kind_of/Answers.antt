use Rattle.std.proofs.Common.{◌==◌, refl, arith}
use Rattle.run_lists.specs.Listed.{run_row}
use Rattle.plain_tables.specs.Tables.{RunRow}
use Rattle.run_lists.proofs.Rows.{has_line, none_there}
use Rattle.run_lists.proofs.listed.RunLists.kind_of.Goals as goal

pub returns-then-line-run : goal.returns-then-line-run
returns-then-line-run c = record {
  none = λ t was. tt;
  told = λ t was.
      let line = c.line-item.result in
      (run_row line, has_line run_row c.args.self.now.runs.items c.deref-line-items.result.now t.runs c.deref-line-items.ensures.value was.runs c.loop-line.line-index line c.loop-line-test.true c.line-item.is, c.if-line-run.true, refl);
}

pub returns : goal.returns
returns c = record {
  told = λ t was. tt;
  none = λ t was.
      none_there run_row c.args.self.now.runs.items c.deref-line-items.result.now t.runs c.deref-line-items.ensures.value was.runs (λ (r : RunRow). r.number == c.args.run)
      (λ k d low. c.loop-line.invariant k d (omega (arith, c.loop-line-test.false, low)));
}
