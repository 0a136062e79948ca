use Rattle.std.proofs.Common.{refl, sym, subst}
use Rattle.sqlite_rules.specs.Lists.{Has}
use Rattle.sqlite_trees.specs.declared.store.Shape.TheVariants as shape
use Rattle.sqlite_trees.specs.View.{IsShaped}
use Rattle.prof_store.specs.Schema.{schema_two, member_at}
use Rattle.page_places.proofs.OneLine.{member_removed}
use Rattle.page_changes.specs.Named.{named}
use Rattle.page_places.proofs.Showing.{table_at}
use Rattle.page_places.proofs.Outcomes.{match_result}
use Rattle.page_changes.proofs.rows.erase_member.Goals as goal

pub returns-clause-done : goal.returns-clause-done
returns-clause-done g c clean = λ wanted known was now t writes holds are any.
    let name = c.args.name.now in
    let run = c.args.run in
    let shows = table_at c.args.file.now writes holds 9 member_at refl _ (c.place.ensures known member_at (c.member_table.ensures known are)) in
    match_result c.erase_named.result (λ e.
    let h = e.rows in
    let there = subst (λ n. Has (now 21) (named e.row.rowid name n)) e.found.is e.found.there in (
      h.next,
      h.writes,
      member_removed t now holds h.next e.row.rowid (record { group = name; run = run }) there h.only (subst (IsShaped shape.Table) (sym h.rows_are) h.shaped) h.rows_are,
    ))
    (λ e fails. fails)
    (c.erase_named.ensures.done clean schema_two wanted known was now member_at shows)

pub returns-clause-leaves : goal.returns-clause-leaves
returns-clause-leaves g c = c.erase_named.ensures.leaves
