use Rattle.std.proofs.Common.{◌≡◌, ◌+◌, ◌-◌, suc, sym, ◌∙◌, arith}
use Rattle.cg_text.specs.Fields.{fields_of}
use Rattle.callgrind_reader.proofs.FaultyLemmas.{err_of-each-Ok, err_of-each-Err}
use Rattle.callgrind_reader.proofs.rows.target_fault.Goals as goal

pub returns-in-Err : goal.returns-in-Err
returns-in-Err c =
    let n = c.args.targets - (c.loop.counter + 1) in
    let more : c.args.targets - c.loop.counter ≡ suc n = omega arith in
    let here = rw (more, c.in_ok-field.ensures.fields) at c.loop.invariant in
    sym (err_of-each-Err n c.in_ok-field.field.now (fields_of c.in_ok-field.more.now) c.in-Err.fault (sym c.subpos.ensures ∙ c.in-Err.is)) ∙ here

pub loop-preserved : goal.loop-preserved
loop-preserved c =
    let n = c.args.targets - (c.loop.counter + 1) in
    let more : c.args.targets - c.loop.counter ≡ suc n = omega arith in
    let here = rw (more, c.in_ok-field.ensures.fields) at c.loop.invariant in
    sym (err_of-each-Ok n c.in_ok-field.field.now (fields_of c.in_ok-field.more.now) _ (sym c.subpos.ensures ∙ c.in_default.is)) ∙ here
