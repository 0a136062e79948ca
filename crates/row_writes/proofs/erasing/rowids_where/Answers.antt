use Rattle.std.proofs.Common.{◌≡◌, refl, subst, filter, inl, inr}
use Rattle.page_rows.proofs.FileTables.{all_shown_from_least}
use Rattle.page_files.proofs.Causes.{fails_to_read}
use Rattle.row_writes.specs.Tests.{rowids_of}
use Rattle.page_places.proofs.Outcomes.{table_shows}
use Rattle.row_writes.proofs.erasing.rowids_where.Goals as goal

pub returns-in-Ok-clause-done : goal.returns-in-Ok-clause-done
returns-in-Ok-clause-done g c faithful = λ schema wanted roots was now table shows.
    let t = table_shows c.args.file.now shows in
    let takes = g.T.RowTest.takes c.args.test.now in
    elim (c.in-Ok.ensures.done faithful wanted table.tree t.0 c.args.test.now (refl, c.new.ensures.items)) [
      | inl all ↦ subst (λ rows. c.walk.new.sink.rowids.items ≡ rowids_of (filter takes rows)) t.1 (subst (λ rows. c.walk.new.sink.rowids.items ≡ rowids_of (filter takes rows)) (all_shown_from_least t.0.is_db t.0.rooted) all.1)
      | inr some ↦ absurd some.3
    ]

pub returns-in-Err-Pages-clause-done : goal.returns-in-Err-Pages-clause-done
returns-in-Err-Pages-clause-done g c faithful = λ schema wanted roots was now table shows.
    let t = table_shows c.args.file.now shows in
    let h = rw c.in-Err-Pages.field-0-is at (c.in-Err-Pages.ensures.done faithful wanted table.tree t.0 c.args.test.now (refl, c.new.ensures.items)) in
    fails_to_read c.args.file.now c.walk.new.self c.in-Err-Pages.error c.walk.ensures.reads.keeps shows.writes.is_open faithful h
