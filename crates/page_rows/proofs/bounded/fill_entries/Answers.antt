use Rattle.std.proofs.Common.{rules, subst}
use Rattle.sqlite_btree.specs.Calls.Index.{FillsRecords}
use Rattle.page_rows.proofs.bounded.fill_entries.Goals as goal

pub returns-clause-done : goal.returns-clause-done
returns-clause-done g c =
    subst (λ s. FillsRecords g.P.Pages c.args.store.now s (g.C.Probe.side c.args.probe.now) c.args.root c.fill.new.batch c.fill.result) (search rules) c.fill.ensures.done
