use Rattle.std.proofs.Common.{rules, subst}
use Rattle.sqlite_btree.specs.Calls.Batch.{TakesFirst}
use Rattle.page_rows.proofs.bounded.next_row.Goals as goal

pub returns-clause-done : goal.returns-clause-done
returns-clause-done g c =
    subst (λ s. TakesFirst g.P.Pages c.args.store.now s c.args.batch.now c.next.new.self c.next.result) (search rules) c.next.ensures.done
