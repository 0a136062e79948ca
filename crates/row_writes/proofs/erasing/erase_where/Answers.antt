use Rattle.std.proofs.Common.{subst, ◌∙◌}
use Rattle.std.proofs.lemmas.Result.{err_from_is_err_and}
use Rattle.std.specs.Prelude.{⊤}
use Rattle.sqlite_pool.specs.StoredLaws.{Keeps-trans}
use Rattle.page_files.proofs.Steps.{writes_after}
use Rattle.page_places.specs.Changes.{HasRows}
use Rattle.page_places.proofs.Changed.{table_shaped}
use Rattle.row_writes.proofs.Erased.{picked_left}
use Rattle.page_places.proofs.Filling.{changes_later}
use Rattle.page_places.proofs.Outcomes.{match_result}
use Rattle.row_writes.proofs.erasing.erase_where.Goals as goal

pub returns-in_err-rowids-clause-done : goal.returns-in_err-rowids-clause-done
returns-in_err-rowids-clause-done g c faithful = λ schema wanted roots was now table shows any.
    let p = err_from_is_err_and c.from_residual.result c.from_residual.ensures.1 in
    rw (p.1, p.2) (c.in_err-rowids.ensures.done faithful schema wanted roots was now table shows)

pub returns-clause-leaves : goal.returns-clause-leaves
returns-clause-leaves g c = record { usable = c.erase_all.ensures.usable c.in_ok-rowids.ensures.usable; keeps = Keeps-trans _ _ _ c.rowids_where.ensures.reads.keeps c.erase_all.ensures.keeps }

pub returns-clause-done : goal.returns-clause-done
returns-clause-done g c faithful = λ schema wanted roots was now table shows any.
    let old = c.args.file.now in
    let mid = c.rowids_where.new.file in
    let new = c.erase_all.new.file in
    let takes = g.T.RowTest.takes c.args.test.now in
    let before = c.erase_all.ensures.keeps.stays.clean faithful in
    let shaped = table_shaped old shows.writes shows.placed.at in
    let w = writes_after old mid c.rowids_where.ensures.reads before c.in_ok-rowids.ensures.usable shows.writes in
    let ids = c.as_slice.ensures.value ∙ c.in_ok-rowids.ensures.done before schema wanted roots was now table shows in
    match_result c.erase_all.result
    (λ h. subst (λ l. HasRows schema wanted roots was now table l new) (picked_left takes (now table.tree) c.as_slice.result.now shaped ids) h)
    (λ e. changes_later old mid new ⊤ ⊤ e c.rowids_where.ensures.reads.keeps (λ x. x))
    (c.erase_all.ensures.done faithful schema wanted roots was now table (record { writes = w; placed = shows.placed; indexed = shows.indexed }) any)
