use Rattle.std.proofs.Common.{◌≡◌, ℕ, ◌++◌, ◌+◌, ◌<◌, length, map, take, get_or, sym, ap, ◌∙◌, rules, arith, length-take-le}
use Rattle.std.proofs.lemmas.List.{append_assoc, take_more}
use Rattle.cost_rows.proofs.AboveLemmas.{above-more}
use Rattle.std.proofs.lemmas.Result.{err_from_is_err_and}
use Rattle.cost_rows.specs.ByNumber.{plain_cell_sum}
use Rattle.run_stores.specs.Files.{cell_rows_at}
use Rattle.page_imports.specs.Fits.{CostsFit}
use Rattle.page_imports.specs.Lines.{cell_line, event_row, self_row}
use Rattle.page_imports.proofs.Failing.{refuses_for}
use Rattle.page_imports.proofs.cell_lines.add_costs.Goals as goal

pub costs-preserved : goal.costs-preserved
costs-preserved c =
    let names = c.args.names.now in
    let place = c.args.sums.now.place.now in
    let costs = c.args.sums.now.costs.now in
    let at = c.costs.event in
    let rows = cell_rows_at names.run names.numbers.now place 0 in
    let cost = get_or costs at 0 in
    let within : at < length costs = search rules in
    let long : length (take at costs) ≡ at = grind (arith, length-take-le) in
    let more : rows (take (at + 1) costs) ≡ rows (take at costs) ++ event_row names place at cost =
    ap rows (take_more costs at 0 within) ∙ above-more (self_row names place) 0 (take at costs) cost
    ∙ ap (λ (n : ℕ). rows (take at costs) ++ event_row names place n cost) (omega (arith, long)) in
    c.in_ok-add_cost.ensures.added ∙ ap (λ l. l ++ event_row names place at cost) c.costs.invariant ∙ append_assoc (map cell_line c.args.lines.now.items) (rows (take at costs)) (event_row names place at cost)
    ∙ ap (λ l. map cell_line c.args.lines.now.items ++ l) (sym more)

pub returns-in_err-add_cost-clause-refused : goal.returns-in_err-add_cost-clause-refused
returns-in_err-add_cost-clause-refused c =
    let sums = c.args.sums.now in
    let at = c.costs.event in
    let within : at < length sums.costs.now = search rules in
    let p = err_from_is_err_and c.from_residual.result c.from_residual.ensures.1 in
    rw (p.1, p.2) (refuses_for _ (λ (fits : CostsFit c.args.names.now.numbers.now (plain_cell_sum sums)) above. fits at within above) c.in_err-add_cost.ensures.refused)
