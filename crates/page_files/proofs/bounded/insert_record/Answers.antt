use Rattle.std.proofs.Common.{rules, subst}
use Rattle.sqlite_btree.specs.Calls.Index.{InsertsRecord}
use Rattle.page_files.proofs.bounded.insert_record.Goals as goal

pub returns-clause-done : goal.returns-clause-done
returns-clause-done g c =
    subst (λ s. InsertsRecord g.P.Pages c.args.store.now s (g.C.Probe.side c.args.probe.now) c.args.root c.args.fields.now c.insert.result) (search rules) c.insert.ensures.done
