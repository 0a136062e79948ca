use Rattle.std.proofs.Common.{rules, subst, to_z-of_z}
use Rattle.sqlite_btree.specs.Calls.Table.{GetsRow}
use Rattle.page_rows.proofs.bounded.get_row.Goals as goal

pub returns-clause-done : goal.returns-clause-done
returns-clause-done g c =
    subst (λ s. GetsRow g.P.Pages c.args.store.now s c.args.root c.args.rowid c.get.new.out.items c.get.result) (search rules)
    (subst (λ id. GetsRow g.P.Pages c.args.store.now c.get.new.store.store.now c.args.root id c.get.new.out.items c.get.result) (to_z-of_z c.ranges.rowid) c.get.ensures.done)
