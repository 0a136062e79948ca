use Rattle.std.proofs.Common.{rules, subst}
use Rattle.sqlite_btree.specs.Calls.Index.{RemovesRecord}
use Rattle.page_files.proofs.bounded.remove_record.Goals as goal

pub returns-clause-done : goal.returns-clause-done
returns-clause-done g c =
    subst (λ s. RemovesRecord g.P.Pages c.args.store.now s (g.C.Probe.side c.args.probe.now) c.args.root c.remove.result) (search rules) c.remove.ensures.done
