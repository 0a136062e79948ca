use Rattle.std.proofs.Common.{◌∙◌, map, ap}
use Rattle.std.proofs.lemmas.List.{take_all}
use Rattle.run_stores.specs.BookEntries.{held_run}
use Rattle.run_stores.specs.Entries.{entry_run}
use Rattle.run_lists.specs.Listed.{run_row}
use Rattle.run_lists.specs.declared.listed.ListedRun.{ListedRun}
use Rattle.run_lists.proofs.Rows.{map_row}
use Rattle.run_lists.proofs.listed.RunLists.runs.Goals as goal

pub returns : goal.returns
returns c = record {
  refused = tt;
  told = λ t was.
      let lines = c.args.self.now.runs.items in
      let items = c.deref-line-items.result.now in
      c.loop-line.invariant ∙ ap (map (λ (r : ListedRun). entry_run r.entry)) (take_all c.loop-line.line-index items c.loop-line-test.false ∙ c.deref-line-items.ensures.value)
      ∙ map_row run_row held_run lines ∙ ap (map held_run) was.runs;
}
