use Rattle.std.proofs.Common.{sym, subst, to_z-of_z}
use Rattle.std.proofs.lemmas.Result.{MatchResult-weaker}
use Rattle.sqlite_btree.specs.Batch.{IsFound}
use Rattle.sqlite_btree.specs.Stored.{by_rowid}
use Rattle.sqlite_btree.proofs.ViewLemmas.{ascends_rows}
use Rattle.sqlite_trees.specs.View.{Finds}
use Rattle.sqlite_store.specs.Db.{table_row}
use Rattle.sqlite_store.proofs.DbLemmas.{table_reads}
use Rattle.sqlite_store.proofs.RowLemmas.{finds_row}
use Rattle.page_rows.proofs.walks.find_row.Goals as goal

pub returns-clause-done : goal.returns-clause-done
returns-clause-done g c clean has =
    let (layout, raw, laid, table) = has in
    let pages = g.P.Pages.pages c.args.store.now in
    MatchResult-weaker c.get_row.result (c.get_row.ensures.done clean layout raw laid table)
    (λ found is. subst (λ rows. Finds rows c.args.rowid (table_row (c.args.rowid, c.get_row.new.payload.items)) found) (sym (table_reads pages laid table))
    (finds_row c.args.rowid raw c.get_row.new.payload.items found (ascends_rows table)
    (subst (λ id. IsFound (by_rowid id) raw (id, c.get_row.new.payload.items) found) (to_z-of_z c.ranges.rowid) is)))
    (λ e cause. cause)
