use Rattle.std.proofs.Common.{◌≡◌, ◌+◌, ◌<◌, drop, sym, ◌∙◌, subst, arith}
use Rattle.std.proofs.lemmas.List.{get_or_read}
use Rattle.cost_rows.specs.Totals.{AreColumns, call_total}
use Rattle.cost_rows.proofs.CallsLemmas.{columns-small, count-first, costs-behind}
use Rattle.cost_rows.proofs.call_sums.CallSums.totals.Goals as goal

pub total_columns-requires : goal.total_columns-requires
total_columns-requires c = columns-small c.self.inside.sums c.iter.result c.args.self.now c.iter.ensures c.self.view_is c.requires.counts c.requires.costs

pub returns-clause-count : goal.returns-clause-count
returns-clause-count c =
    let some : 0 < c.in-Some.columns = omega (arith, c.in-Some.ensures) in
    get_or_read c.in_ok-costs.costs.items 0 c.remove-count.result (omega (arith, c.in_ok-costs.ensures.many, some)) c.remove-count.ensures.value 0
    ∙ count-first c.self.inside.sums c.iter.result c.args.self.now c.in_ok-costs.costs.items c.in-Some.columns c.iter.ensures c.self.view_is some c.in_ok-costs.ensures

pub returns-clause-costs : goal.returns-clause-costs
returns-clause-costs c =
    let wide : c.in-Some.columns ≡ c.args.events + 1 = omega (arith, c.in-Some.ensures) in
    let behind : c.remove-count.new.self.items ≡ drop 1 c.in_ok-costs.costs.items = c.remove-count.ensures.by_index.2 in
    subst (AreColumns c.args.events (λ k. call_total k c.args.self.now)) (sym behind)
    (costs-behind c.self.inside.sums c.iter.result c.args.self.now c.in_ok-costs.costs.items c.in-Some.columns c.args.events c.iter.ensures c.self.view_is wide c.in_ok-costs.ensures)
