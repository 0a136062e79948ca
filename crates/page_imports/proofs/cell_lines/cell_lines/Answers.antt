use Rattle.std.proofs.Common.{◌≡◌, List, [], ◌∷◌, ◌++◌, flat_map, length, map, refl, sym, ap, subst, ◌∙◌}
use Rattle.std.specs.Iterator.{Drains, YieldsFirstBy}
use Rattle.std.proofs.lemmas.Iterator.Consumers.{YieldsList-at, YieldsList-from_first, YieldsList-turn}
use Rattle.std.proofs.lemmas.Result.{err_from_is_err_and}
use Rattle.cost_rows.specs.ByNumber.{plain_cell_sum}
use Rattle.cost_rows.specs.declared.numbered.CellSum.{CellSum}
use Rattle.run_stores.specs.Files.{cell_rows}
use Rattle.page_imports.proofs.RowLines.{rows_drained}
use Rattle.cost_rows.specs.Rows.{content_of}
use Rattle.page_imports.specs.Fits.{CellsFit, CostsFit}
use Rattle.page_imports.specs.Lines.{event_rows}
use Rattle.page_imports.specs.declared.run_names.RunNames.{RunNames}
use Rattle.page_imports.proofs.Failing.{refuses_for}
use Rattle.page_imports.proofs.cell_lines.cell_lines.Goals as goal

rows_of : (names : RunNames) (sums : List CellSum) → flat_map (event_rows names) sums ≡ cell_rows names.run names.numbers.now (map plain_cell_sum sums)
rows_of names [] = refl
rows_of names (r ∷ sums) = ap (λ rows. event_rows names r ++ rows) (rows_of names sums)

pub returns-clause-value : goal.returns-clause-value
returns-clause-value c =
    let names = c.args.names.now in
    let sums = c.rows.yielded in
    let all = rows_drained (YieldsFirstBy plain_cell_sum (λ s. s)) plain_cell_sum c.cells_by_place-sums-items.result _ sums (subst (λ it. Drains (YieldsFirstBy plain_cell_sum (λ s. s)) it sums) c.into_iter-sums-iterator.ensures.into_iter_gives (_, (_, c.rows.yielded_by, c.in-None.ensures.steps))) (YieldsList-from_first plain_cell_sum (λ s. s) _ c.cells_by_place-sums-items.ensures) in
    c.rows.invariant ∙ rows_of names sums ∙ ap (cell_rows names.run names.numbers.now) all

pub returns-in_err-add_costs-clause-refused : goal.returns-in_err-add_costs-clause-refused
returns-in_err-add_costs-clause-refused c =
    let numbers = c.args.names.now.numbers.now in
    let cells = (content_of c.args.rows.now).cells in
    let gives = YieldsList-at c.into_iter-sums-iterator.ensures.into_iter_gives (YieldsList-from_first plain_cell_sum (λ s. s) cells c.cells_by_place-sums-items.ensures) in
    let turn = YieldsList-turn gives c.rows.yielded _ c.rows.yielded_by _ _ c.in-Some.sums c.in-Some.is c.next.ensures.steps in
    let p = err_from_is_err_and c.from_residual.result c.from_residual.ensures.1 in
    rw (p.1, p.2) (refuses_for _ (λ (fits : CellsFit numbers cells). subst (CostsFit numbers) (sym turn.1) (fits (length c.rows.yielded) (plain_cell_sum c.in-Some.sums) turn.0)) c.in_err-add_costs.ensures.refused)
