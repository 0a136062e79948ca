use Rattle.std.proofs.Common.{◌≡◌, ◌≢◌, ◌∙◌, sym, refl, arith}
use Rattle.std.proofs.lemmas.Slice.Eq.{bytes_eq-Decides}
use Rattle.plain_tables.specs.Tables.{RunRow}
use Rattle.run_lists.specs.Listed.{run_row}
use Rattle.run_lists.proofs.Rows.{has_line, each_line}
use Rattle.run_lists.proofs.listed.RunLists.run_of_digest.Goals as goal

pub returns-then-eq : goal.returns-then-eq
returns-then-eq c = record {
  told = λ t was.
      let line = c.line-item.result in
      let lines = c.args.self.now.runs.items in
      let same : c.as_slice.result.now ≡ c.args.digest.now = (bytes_eq-Decides _ _).0 (sym c.eq.ensures ∙ c.if-eq.true) in
      (run_row line, has_line run_row lines c.deref-line-items.result.now t.runs c.deref-line-items.ensures.value was.runs c.loop-line.line-index line c.loop-line-test.true c.line-item.is, sym c.as_slice.ensures ∙ same, refl);
}

pub returns : goal.returns
returns c = record {
  told = λ t was.
      let items = c.deref-line-items.result.now in
      each_line run_row c.args.self.now.runs.items items t.runs c.deref-line-items.ensures.value was.runs (λ (r : RunRow). r.digest ≢ c.args.digest.now)
      (λ k d low. c.loop-line.invariant k d (omega (arith, c.loop-line-test.false, low)));
}
