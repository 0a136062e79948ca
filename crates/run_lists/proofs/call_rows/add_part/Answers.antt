use Rattle.std.proofs.Common.{◌≡◌, ◌≤◌, ◌-◌, ◌∙◌, length, ap, arith}
use Rattle.run_lists.specs.HeldCalls.{lines_from}
use Rattle.run_lists.proofs.CallRows.{part_more}
use Rattle.run_lists.proofs.call_rows.add_part.Goals as goal

pub returns-in-Ok-clause-lines : goal.returns-in-Ok-clause-lines
returns-in-Ok-clause-lines c first =
    let part = c.args.line.now.part in
    let longer : length c.args.costs.now ≤ part - 1 = omega (arith, c.len.ensures, c.if-part-len.false) in
    let full : length c.fill.new.costs ≡ part - 1 = c.in_ok-fill.ensures.len longer in
    ap (lines_from first 1) c.in-Ok.ensures.ok
    ∙ part_more first c.args.costs.now c.fill.new.costs part c.args.line.now.sum c.from.result (c.in_ok-fill.ensures.lines first 1) (omega (arith, full, c.if-part-len.false)) (c.from.ensures ∙ c.get-sum.ensures) (omega (arith, c.get-sum.ensures, c.if-sum-eq0.false))
