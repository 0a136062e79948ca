use Rattle.std.proofs.Common.{rules, Ok, Err, ◌<◌, ◌≤◌, ◌^◌, inr, refl, subst, ◌∙◌, arith}
use Rattle.std.proofs.lemmas.Result.{IfOk-from_err}
use Rattle.cost_rows.specs.Rows.{content_of}
use Rattle.sqlite_pool.specs.StoredLaws.{Keeps-trans}
use Rattle.page_files.proofs.Reading.{rests_after}
use Rattle.page_files.proofs.Steps.{begins}
use Rattle.page_places.proofs.Failing.{reading_fails}
use Rattle.page_places.proofs.Rooting.{store_resting}
use Rattle.run_stores.specs.BookRuns.{filed}
use Rattle.run_stores.proofs.Filed.{head_of_run}
use Rattle.prof_store.specs.declared.table_rows.RunRow.{RunRow}
use Rattle.page_imports.specs.Causes.{CanImport}
use Rattle.page_imports.proofs.Failing.{fails_for, refuses_fails}
use Rattle.page_imports.proofs.Filing.{begins_not, filed_same, head_then}
use Rattle.page_imports.proofs.imports.put_beginning.Goals as goal

pub returns-clause-fits : goal.returns-clause-fits
returns-clause-fits g c = c.in_ok-lines.ensures.fits (content_of c.args.summed.now.rows.now) c.args.summed.now.summed

pub returns-clause-counted : goal.returns-clause-counted
returns-clause-counted g c =
    let low : c.in-Some.call_count < 2 ^ 63 = search rules in
    subst (λ n. n < 2 ^ 63) (c.in-Some.ensures.some ∙ c.args.summed.now.summed.call_count) low

pub returns-clause-leaves : goal.returns-clause-leaves
returns-clause-leaves g c = record { usable = c.in_ok-put_head.ensures.leaves.usable; keeps = Keeps-trans _ _ _ c.find_roots.ensures.reads.keeps c.put_head.ensures.leaves.keeps }

pub returns-clause-done : goal.returns-clause-done
returns-clause-done g c clean = λ wanted known db t rests holds new.
    let file = c.args.file.now in
    let read = c.find_roots.new.file in
    let summed = c.args.summed.now in
    let head = summed.head.now in
    let content = content_of summed.rows.now in
    let n = c.args.number in
    let f = filed n c.args.kind c.args.digest.now c.args.label.now head content in
    let run : RunRow = record { number = n; kind = c.number_of_kind.result; digest = c.args.digest; label = c.args.label; call_count = c.in-Some.call_count } in
    let is = filed_same n _ _ _ _ c.args.digest.now c.args.label.now _ _ _ _ _ _ content c.number_of_kind.ensures (c.in-Some.ensures.some ∙ summed.summed.call_count)
    (c.in_ok-lines.ensures.events content summed.summed) c.in_ok-lines.ensures.derived c.in_ok-lines.ensures.coefs in
    let after = c.put_head.ensures.leaves.keeps.stays.clean clean in
    let are = c.in_ok-roots.ensures.found after db known (store_resting file db known wanted rests holds.contain.sound) in
    let writes = begins read (rests_after file read c.find_roots.ensures.reads after c.in_ok-roots.ensures.usable rests) in
    head_then run c.in_ok-lines.lines f is (head_of_run n head content) file read c.put_head.new.file c.in_ok-roots.roots (Ok (tt {0})) c.find_roots.ensures.reads.keeps
    c.in_ok-put_head.ensures.done clean wanted known db t writes holds new are

pub returns-in_err-put_head-clause-done : goal.returns-in_err-put_head-clause-done
returns-in_err-put_head-clause-done g c =
    let file = c.args.file.now in
    let read = c.find_roots.new.file in
    let last = c.put_head.new.file in
    let summed = c.args.summed.now in
    let head = summed.head.now in
    let content = content_of summed.rows.now in
    let n = c.args.number in
    let f = filed n c.args.kind c.args.digest.now c.args.label.now head content in
    let run : RunRow = record { number = n; kind = c.number_of_kind.result; digest = c.args.digest; label = c.args.label; call_count = c.in-Some.call_count } in
    let is = filed_same n _ _ _ _ c.args.digest.now c.args.label.now _ _ _ _ _ _ content c.number_of_kind.ensures (c.in-Some.ensures.some ∙ summed.summed.call_count)
    (c.in_ok-lines.ensures.events content summed.summed) c.in_ok-lines.ensures.derived c.in_ok-lines.ensures.coefs in
    begins_not file last f (CanImport n c.args.kind c.args.digest.now c.args.label.now summed) c.from_residual-in_err-put_head.result _ c.from_residual-in_err-put_head.ensures.1 (λ clean wanted known db t rests holds new.
    let after = c.put_head.ensures.leaves.keeps.stays.clean clean in
    let are = c.in_ok-roots.ensures.found after db known (store_resting file db known wanted rests holds.contain.sound) in
    let writes = begins read (rests_after file read c.find_roots.ensures.reads after c.in_ok-roots.ensures.usable rests) in
    fails_for file last _ (λ (can : CanImport n c.args.kind c.args.digest.now c.args.label.now summed t db). can.lines.head)
    (head_then run c.in_ok-lines.lines f is (head_of_run n head content) file read last c.in_ok-roots.roots (Err _) c.find_roots.ensures.reads.keeps c.in_err-put_head.ensures.done clean wanted known db t writes holds new are))

pub returns-in_err-lines-clause-done : goal.returns-in_err-lines-clause-done
returns-in_err-lines-clause-done g c =
    let file = c.args.file.now in
    let read = c.find_roots.new.file in
    let summed = c.args.summed.now in
    let head = summed.head.now in
    let content = content_of summed.rows.now in
    let n = c.args.number in
    begins_not file read (filed n c.args.kind c.args.digest.now c.args.label.now head content) (CanImport n c.args.kind c.args.digest.now c.args.label.now summed)
    c.from_residual-in_err-lines.result _ c.from_residual-in_err-lines.ensures.1 (λ clean wanted known db t rests holds new.
    refuses_fails file read _ (λ (can : CanImport n c.args.kind c.args.digest.now c.args.label.now summed t db). can.head) (c.in_err-lines.ensures.refused content summed.summed))

pub returns-in_default-clause-done : goal.returns-in_default-clause-done
returns-in_default-clause-done g c clean = λ wanted known db t rests holds new.
    let summed = c.args.summed.now in
    let wide : 2 ^ 63 ≤ summed.totals.call_count = search rules in
    let great = subst (λ n. 2 ^ 63 ≤ n) summed.summed.call_count wide in
    inr (refl, λ (can : CanImport c.args.number c.args.kind c.args.digest.now c.args.label.now summed t db). omega (arith, great, can.counted))

pub returns-in_err-roots-clause-done : goal.returns-in_err-roots-clause-done
returns-in_err-roots-clause-done g c =
    let file = c.args.file.now in
    let read = c.find_roots.new.file in
    let summed = c.args.summed.now in
    let n = c.args.number in
    begins_not file read (filed n c.args.kind c.args.digest.now c.args.label.now summed.head.now (content_of summed.rows.now)) (CanImport n c.args.kind c.args.digest.now c.args.label.now summed)
    c.from_residual.result _ c.from_residual.ensures.1 (λ clean wanted known db t rests holds new.
    let why = c.in_err-roots.ensures.failed clean db known (store_resting file db known wanted rests holds.contain.sound) in
    reading_fails file read why.0 _ why.2 c.find_roots.ensures.reads.keeps rests.clean.is_open clean why.1)

pub returns-in_err-lines-clause-complete : goal.returns-in_err-lines-clause-complete
returns-in_err-lines-clause-complete g c = IfOk-from_err c.from_residual-in_err-lines.result _ c.from_residual-in_err-lines.ensures.0

pub returns-in_err-lines-clause-fits : goal.returns-in_err-lines-clause-fits
returns-in_err-lines-clause-fits g c = IfOk-from_err c.from_residual-in_err-lines.result _ c.from_residual-in_err-lines.ensures.0

pub returns-in_err-lines-clause-counted : goal.returns-in_err-lines-clause-counted
returns-in_err-lines-clause-counted g c = IfOk-from_err c.from_residual-in_err-lines.result _ c.from_residual-in_err-lines.ensures.0

pub returns-in_err-lines-clause-leaves : goal.returns-in_err-lines-clause-leaves
returns-in_err-lines-clause-leaves g c = record { usable = IfOk-from_err c.from_residual-in_err-lines.result _ c.from_residual-in_err-lines.ensures.0; keeps = c.find_roots.ensures.reads.keeps }

pub returns-in_err-roots-clause-complete : goal.returns-in_err-roots-clause-complete
returns-in_err-roots-clause-complete g c = IfOk-from_err c.from_residual.result _ c.from_residual.ensures.0

pub returns-in_err-roots-clause-fits : goal.returns-in_err-roots-clause-fits
returns-in_err-roots-clause-fits g c = IfOk-from_err c.from_residual.result _ c.from_residual.ensures.0

pub returns-in_err-roots-clause-counted : goal.returns-in_err-roots-clause-counted
returns-in_err-roots-clause-counted g c = IfOk-from_err c.from_residual.result _ c.from_residual.ensures.0

pub returns-in_err-roots-clause-leaves : goal.returns-in_err-roots-clause-leaves
returns-in_err-roots-clause-leaves g c = record { usable = IfOk-from_err c.from_residual.result _ c.from_residual.ensures.0; keeps = c.find_roots.ensures.reads.keeps }

pub returns-in_default-clause-complete : goal.returns-in_default-clause-complete
returns-in_default-clause-complete g c = tt

pub returns-in_default-clause-fits : goal.returns-in_default-clause-fits
returns-in_default-clause-fits g c = tt

pub returns-in_default-clause-counted : goal.returns-in_default-clause-counted
returns-in_default-clause-counted g c = tt

pub returns-in_default-clause-leaves : goal.returns-in_default-clause-leaves
returns-in_default-clause-leaves g c = record { usable = tt; keeps = c.find_roots.ensures.reads.keeps }

pub returns-clause-complete : goal.returns-clause-complete
returns-clause-complete g c = c.in_ok-lines.ensures.column_int

pub returns-in_err-put_head-clause-complete : goal.returns-in_err-put_head-clause-complete
returns-in_err-put_head-clause-complete g c = IfOk-from_err c.from_residual-in_err-put_head.result _ c.from_residual-in_err-put_head.ensures.0

pub returns-in_err-put_head-clause-fits : goal.returns-in_err-put_head-clause-fits
returns-in_err-put_head-clause-fits g c = IfOk-from_err c.from_residual-in_err-put_head.result _ c.from_residual-in_err-put_head.ensures.0

pub returns-in_err-put_head-clause-counted : goal.returns-in_err-put_head-clause-counted
returns-in_err-put_head-clause-counted g c = IfOk-from_err c.from_residual-in_err-put_head.result _ c.from_residual-in_err-put_head.ensures.0

pub returns-in_err-put_head-clause-leaves : goal.returns-in_err-put_head-clause-leaves
returns-in_err-put_head-clause-leaves g c = record { usable = IfOk-from_err c.from_residual-in_err-put_head.result _ c.from_residual-in_err-put_head.ensures.0; keeps = Keeps-trans _ _ _ c.find_roots.ensures.reads.keeps c.put_head.ensures.leaves.keeps }
