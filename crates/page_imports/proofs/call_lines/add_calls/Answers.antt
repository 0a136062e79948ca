use Rattle.std.proofs.Common.{◌≡◌, ℕ, ◌∷◌, ◌++◌, ◌+◌, ◌<◌, length, map, take, get_or, sym, ap, ◌∙◌, rules, arith, length-take-le}
use Rattle.std.proofs.lemmas.List.{append_assoc, take_more}
use Rattle.std.proofs.lemmas.Result.{err_from_is_err_and}
use Rattle.cost_rows.specs.ByNumber.{plain_call}
use Rattle.run_stores.specs.Files.{call_rows_from}
use Rattle.page_imports.specs.Fits.{PartsFit}
use Rattle.page_imports.proofs.RowLines.{parts_more}
use Rattle.page_imports.specs.Lines.{call_line, cost_row, part_row}
use Rattle.page_imports.proofs.Failing.{refuses_for}
use Rattle.page_imports.proofs.call_lines.add_calls.Goals as goal

pub costs-preserved : goal.costs-preserved
costs-preserved c =
    let names = c.args.names.now in
    let run = names.run in
    let numbers = names.numbers.now in
    let call = c.args.calls.now.call.now in
    let costs = c.args.calls.now.costs.now in
    let at = c.costs.column in
    let first = part_row names call 0 c.args.calls.now.count in
    let was = map call_line c.args.lines.now.items in
    let cost = get_or costs at 0 in
    let within : at < length costs = search rules in
    let long : length (take at costs) ≡ at = grind (arith, length-take-le) in
    let more : call_rows_from run numbers call 1 (take (at + 1) costs) ≡ call_rows_from run numbers call 1 (take at costs) ++ cost_row names call (at + 1) cost =
    ap (call_rows_from run numbers call 1) (take_more costs at 0 within) ∙ parts_more run numbers call 1 (take at costs) cost
    ∙ ap (λ (n : ℕ). call_rows_from run numbers call 1 (take at costs) ++ cost_row names call n cost) (omega (arith, long)) in
    c.in_ok-add_cost.ensures.added ∙ ap (λ l. l ++ cost_row names call (at + 1) cost) c.costs.invariant ∙ append_assoc was (first ∷ call_rows_from run numbers call 1 (take at costs)) (cost_row names call (at + 1) cost)
    ∙ ap (λ l. was ++ first ∷ l) (sym more)

pub returns-in_err-add_part-clause-refused : goal.returns-in_err-add_part-clause-refused
returns-in_err-add_part-clause-refused c =
    let p = err_from_is_err_and c.from_residual.result c.from_residual.ensures.1 in
    rw (p.1, p.2) (refuses_for _ (λ (fits : PartsFit c.args.names.now.numbers.now (plain_call c.args.calls.now)). fits.count) c.in_err-add_part.ensures.refused)

pub returns-in_err-add_cost-clause-refused : goal.returns-in_err-add_cost-clause-refused
returns-in_err-add_cost-clause-refused c =
    let calls = c.args.calls.now in
    let at = c.costs.column in
    let within : at < length calls.costs.now = search rules in
    let p = err_from_is_err_and c.from_residual-in_err-add_cost.result c.from_residual-in_err-add_cost.ensures.1 in
    rw (p.1, p.2) (refuses_for _ (λ (fits : PartsFit c.args.names.now.numbers.now (plain_call calls)) above. fits.costs at within above) c.in_err-add_cost.ensures.refused)
