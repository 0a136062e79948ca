use Rattle.std.proofs.Common.{◌≡◌, ◌<◌, OnOk, ◌++◌, rules, false, map, nat_lt, [], ◌∷◌, if◌then◌else◌, sym, subst, lt-ltb, append-nil}
use Rattle.page_imports.specs.RowFits.{CallFits}
use Rattle.page_imports.specs.Lines.{call_line, part_row}
use Rattle.page_imports.proofs.Failing.{refuses_for}
use Rattle.page_imports.proofs.Results.{err_for}
use Rattle.page_imports.proofs.call_lines.add_cost.Goals as goal

pub returns-then-cost-gt0-clause-added : goal.returns-then-cost-gt0-clause-added
returns-then-cost-gt0-clause-added c =
    let row = part_row c.args.names.now c.args.call.now c.args.part c.args.cost in
    subst (λ b. OnOk c.add_part.result (map call_line c.add_part.new.lines.items ≡ map call_line c.args.lines.now.items ++ (if b then row ∷ [] else []))) (sym (lt-ltb 0 c.args.cost c.if-cost-gt0.true)) c.add_part.ensures.added

pub returns-else-cost-gt0-clause-added : goal.returns-else-cost-gt0-clause-added
returns-else-cost-gt0-clause-added c =
    let row = part_row c.args.names.now c.args.call.now c.args.part c.args.cost in
    let was = map call_line c.args.lines.now.items in
    let none : nat_lt 0 c.args.cost ≡ false = search rules in
    subst (λ b. was ≡ was ++ (if b then row ∷ [] else [])) (sym none) (sym (append-nil was))

pub returns-then-cost-gt0-clause-refused : goal.returns-then-cost-gt0-clause-refused
returns-then-cost-gt0-clause-refused c =
    err_for c.add_part.result (λ e. refuses_for e (λ (fits : 0 < c.args.cost → CallFits c.args.names.now.numbers.now c.args.call.now c.args.part c.args.cost). fits c.if-cost-gt0.true)) c.add_part.ensures.refused
