use Rattle.std.proofs.Common.{map, ap, subst, ◌∙◌}
use Rattle.std.specs.List.{AllByRecursion}
use Rattle.cost_rows.specs.KeySums.{sums_by}
use Rattle.run_stores.specs.Book.{IsHeld}
use Rattle.run_stores.specs.Names.{named_cell}
use Rattle.selected_runs.specs.Sums.{number_rows, numbers_told}
use Rattle.store_calls.proofs.PartLemmas.{parts_added}
use Rattle.store_calls.proofs.inclusive_parts.InclusiveParts.named.Goals as goal

pub returns-clause-held : goal.returns-clause-held
returns-clause-held g c =
    subst (λ key. AllByRecursion (IsHeld (g.N.NameTable.name_rows c.args.names.now)) (numbers_told key c.args.self.now.numbers.sums)) c.args.self.now.by_function c.in_ok-costs.ensures.held

pub returns-clause-sums : goal.returns-clause-sums
returns-clause-sums g c = λ names of.
    let parts = c.args.self.now in
    let costs = c.in_ok-costs.ensures in
    let key = costs.key ∙ parts.by_function in
    let sums = costs.sums names of ∙ ap (λ key. sums_by key (map (named_cell names) (number_rows parts.numbers.sums))) parts.by_function in
    let all = c.in_ok-all.ensures.sums ∙ parts_added names parts.numbers.sums parts.stacks.sums c.in_ok-costs.costs key sums in
    λ k. record { sums = all k; total = c.in_ok-all.ensures.total k }
