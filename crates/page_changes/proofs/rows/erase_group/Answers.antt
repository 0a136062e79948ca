use Rattle.std.proofs.Common.{refl, sym, subst}
use Rattle.sqlite_trees.specs.declared.store.Shape.TheVariants as shape
use Rattle.sqlite_trees.specs.View.{IsShaped}
use Rattle.prof_store.specs.Schema.{schema_two, grp_at}
use Rattle.page_places.proofs.OneLine.{group_removed}
use Rattle.page_places.proofs.Showing.{table_at}
use Rattle.page_places.proofs.Outcomes.{match_result}
use Rattle.page_changes.proofs.rows.erase_group.Goals as goal

pub returns-clause-done : goal.returns-clause-done
returns-clause-done g c clean = λ wanted known was now t writes holds are none.
    let name = c.args.name.now in
    let shows = table_at c.args.file.now writes holds 8 grp_at refl _ (c.place.ensures known grp_at (c.group_table.ensures known are)) in
    match_result c.erase_named.result (λ e.
    let h = e.rows in (
      h.next,
      h.writes,
      group_removed t now holds h.next e.row.rowid (record { name = name; baseline = e.row.number }) e.found.there h.only (subst (IsShaped shape.Table) (sym h.rows_are) h.shaped) h.rows_are none,
    ))
    (λ e fails. fails)
    (c.erase_named.ensures.done clean schema_two wanted known was now grp_at shows)

pub returns-clause-leaves : goal.returns-clause-leaves
returns-clause-leaves g c = c.erase_named.ensures.leaves
