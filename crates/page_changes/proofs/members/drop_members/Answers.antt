use Rattle.std.proofs.Common.{not, refl, sym, ap, subst}
use Rattle.sqlite_trees.specs.declared.store.Shape.TheVariants as shape
use Rattle.sqlite_trees.specs.View.{IsShaped}
use Rattle.prof_store.specs.Schema.{schema_two, member_at}
use Rattle.page_places.proofs.Members.{members_of_run_taken_out}
use Rattle.page_changes.specs.Removed.{is_second}
use Rattle.page_changes.proofs.RemovalPlaces.{same_number}
use Rattle.page_places.proofs.Showing.{table_at}
use Rattle.page_places.proofs.Failing.{row_fails}
use Rattle.page_changes.proofs.members.drop_members.Goals as goal

pub returns-in-Ok-clause-done : goal.returns-in-Ok-clause-done
returns-in-Ok-clause-done g c faithful = λ wanted known was now t writes holds roots any.
    let file = c.args.file.now in
    let h = c.in-Ok.ensures.done faithful schema_two wanted known was now member_at
    (table_at file writes holds 9 member_at refl _ (c.place.ensures known member_at (c.member_table.ensures known roots))) tt in (
      h.next,
      h.writes,
      members_of_run_taken_out t now h.next holds h.only (subst (IsShaped shape.Table) (sym h.rows_are) h.shaped) (λ r. not (is_second c.args.run r)) c.args.run h.rows_are (λ id m there. ap not (same_number m.run c.args.run)),
    )

pub returns-in-Err-clause-done : goal.returns-in-Err-clause-done
returns-in-Err-clause-done g c faithful = λ wanted known was now t writes holds roots any.
    let file = c.args.file.now in
    row_fails file c.erase_where.new.file c.in-Err.error _ c.error_of_row.ensures (c.in-Err.ensures.done faithful schema_two wanted known was now member_at
    (table_at file writes holds 9 member_at refl _ (c.place.ensures known member_at (c.member_table.ensures known roots))) tt)

pub returns-in-Ok-clause-leaves : goal.returns-in-Ok-clause-leaves
returns-in-Ok-clause-leaves g c = record { usable = c.in-Ok.ensures.leaves.usable; keeps = c.erase_where.ensures.leaves.keeps }

pub returns-in-Err-clause-leaves : goal.returns-in-Err-clause-leaves
returns-in-Err-clause-leaves g c = record { usable = tt; keeps = c.erase_where.ensures.leaves.keeps }
