use Rattle.std.proofs.Common.{◌≡◌, ◌∙◌, sym, refl, arith}
use Rattle.std.proofs.lemmas.Slice.Eq.{bytes_eq-Decides}
use Rattle.run_lists.specs.Listed.{group_row}
use Rattle.plain_tables.specs.Changes.{is_named}
use Rattle.run_lists.proofs.Rows.{has_line, none_there}
use Rattle.run_lists.proofs.listed.RunLists.baseline_of.Goals as goal

pub returns-then-eq : goal.returns-then-eq
returns-then-eq c = record {
  none = λ t was. tt;
  told = λ t was.
      let line = c.line-item.result in
      let same : c.as_str.result.now ≡ c.args.name.now = (bytes_eq-Decides _ _).0 (sym c.eq.ensures ∙ c.if-eq.true) in
      (group_row line, has_line group_row c.args.self.now.groups.items c.deref-line-items.result.now t.groups c.deref-line-items.ensures.value was.groups c.loop-line.line-index line c.loop-line-test.true c.line-item.is, sym c.as_str.ensures.value ∙ same, refl);
}

pub returns : goal.returns
returns c = record {
  told = λ t was. tt;
  none = λ t was.
      none_there group_row c.args.self.now.groups.items c.deref-line-items.result.now t.groups c.deref-line-items.ensures.value was.groups (is_named c.args.name.now)
      (λ k d low. c.loop-line.invariant k d (omega (arith, c.loop-line-test.false, low)));
}
