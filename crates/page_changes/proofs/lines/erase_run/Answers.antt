use Rattle.std.proofs.Common.{rules, ◌≡◌, pos, subst, to_z-of_z, to_z, of_z, w64, ◌∙◌}
use Rattle.page_places.specs.Changes.{HasRows}
use Rattle.row_writes.specs.Tests.{rows_left}
use Rattle.row_writes.specs.Under.{is_under}
use Rattle.page_places.proofs.Failing.{row_fails}
use Rattle.page_changes.proofs.lines.erase_run.Goals as goal

pub returns-in-Ok-clause-done : goal.returns-in-Ok-clause-done
returns-in-Ok-clause-done g c faithful = λ schema wanted roots was now table shows led.
    let back : to_z w64 (of_z w64 c.from.result) ≡ c.from.result = search (rules, to_z-of_z) in
    let same : to_z w64 (of_z w64 c.from.result) ≡ pos c.args.run = back ∙ c.from.ensures in
    subst (λ z. HasRows schema wanted roots was now table (rows_left (is_under z) (now table.tree)) c.erase_under.new.file) same (c.in-Ok.ensures.done faithful schema wanted roots was now table shows led)

pub returns-in-Err-clause-done : goal.returns-in-Err-clause-done
returns-in-Err-clause-done g c faithful = λ schema wanted roots was now table shows led.
    row_fails c.args.file.now c.erase_under.new.file c.in-Err.error _ c.error_of_row.ensures (c.in-Err.ensures.done faithful schema wanted roots was now table shows led)

pub returns-in-Ok-clause-leaves : goal.returns-in-Ok-clause-leaves
returns-in-Ok-clause-leaves g c = record { usable = c.in-Ok.ensures.leaves.usable; keeps = c.erase_under.ensures.leaves.keeps }

pub returns-in-Err-clause-leaves : goal.returns-in-Err-clause-leaves
returns-in-Err-clause-leaves g c = record { usable = tt; keeps = c.erase_under.ensures.leaves.keeps }
