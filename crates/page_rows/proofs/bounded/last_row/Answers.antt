use Rattle.std.proofs.Common.{rules, subst}
use Rattle.sqlite_btree.specs.Calls.Batch.{TakesLast}
use Rattle.page_rows.proofs.bounded.last_row.Goals as goal

pub returns-clause-done : goal.returns-clause-done
returns-clause-done g c =
    subst (λ s. TakesLast g.P.Pages c.args.store.now s c.args.batch.now c.next_back.new.self c.next_back.result) (search rules) c.next_back.ensures.done
