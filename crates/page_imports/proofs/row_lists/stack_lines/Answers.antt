use Rattle.std.proofs.Common.{rules, ◌<◌, ◌≤◌, ◌^◌, ℕ, List, length, map, subst, sym, ap, ◌∙◌, arith}
use Rattle.std.specs.Iterator.{Drains, YieldsFirstBy}
use Rattle.std.proofs.lemmas.Iterator.Consumers.{YieldsList-at, YieldsList-from_first, YieldsList-turn}
use Rattle.std.proofs.lemmas.List.Concat.{flat_map_single}
use Rattle.cost_rows.specs.Plain.{plain_stack}
use Rattle.cost_rows.specs.Rows.{content_of}
use Rattle.cost_rows.specs.Walks.{counted_stacks}
use Rattle.cost_rows.specs.declared.rows.StackRow.{StackRow}
use Rattle.page_imports.specs.RowFits.{StacksFit}
use Rattle.page_imports.specs.FromRows.{line_of_stack}
use Rattle.page_imports.proofs.RowLines.{plain_line_of_stack, rows_drained, rows_of_stacks, stacks_are}
use Rattle.page_imports.proofs.row_lists.stack_lines.Goals as goal

pub returns-clause-value : goal.returns-clause-value
returns-clause-value c =
    let run = c.args.run in
    let rows = c.rows.yielded in
    let all = rows_drained (YieldsFirstBy plain_stack (λ s. s)) plain_stack c.stacks-row-items.result _ rows (subst (λ it. Drains (YieldsFirstBy plain_stack (λ s. s)) it rows) c.into_iter-row-iterator.ensures.into_iter_gives (_, (_, c.rows.yielded_by, c.in-None.ensures.steps))) (YieldsList-from_first plain_stack (λ s. s) _ c.stacks-row-items.ensures) in
    c.rows.invariant ∙ sym (flat_map_single (line_of_stack run) rows) ∙ rows_of_stacks run rows ∙ ap (map (plain_line_of_stack run)) all ∙ stacks_are run (content_of c.args.rows.now).stacks

pub returns-in_default-clause-refused : goal.returns-in_default-clause-refused
returns-in_default-clause-refused c =
    let stacks = (content_of c.args.rows.now).stacks in
    let gives = YieldsList-at c.into_iter-row-iterator.ensures.into_iter_gives (YieldsList-from_first plain_stack (λ s. s) (counted_stacks stacks) c.stacks-row-items.ensures) in
    let turn = YieldsList-turn gives c.rows.yielded _ c.rows.yielded_by _ _ c.in-Some.row c.in-Some.is c.next.ensures.steps in
    λ (fits : StacksFit stacks).
    let small = subst (λ (s : StackRow (List ℕ)). s.count < 2 ^ 63) (sym turn.1) (fits (length c.rows.yielded) (plain_stack c.in-Some.row) turn.0) in
    let great : 2 ^ 63 ≤ c.in-Some.row.count = search rules in
    omega (arith, small, great)
