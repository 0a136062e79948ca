use Rattle.std.proofs.Common.{rules, ◌≡◌, ◌+◌, ◌*◌, ◌<◌, ◌≤◌, ◌^◌, get_or, length, sym, ap, ◌∙◌, refl, arith}
use Rattle.std.proofs.lemmas.Grind.{elements}
use Rattle.std.proofs.Math.Nat.{mul-le-mul_left}
use Rattle.std.proofs.lemmas.List.Sums.{sum_by_more}
use Rattle.cg_formulas.proofs.RowsLemmas.{weighed_more}
use Rattle.cg_formulas.proofs.rows.weighed.Goals as goal

pub loop-k-preserved : goal.loop-k-preserved
loop-k-preserved c =
    let k = c.loop-k.k in
    let inside : k < length c.args.costs.now = search (rules) in
    let inside' : k < length c.args.counts.now = omega (arith, inside, c.requires.one_each) in
    let value = weighed_more k c.args.counts.now c.args.costs.now inside' inside in
    let more = sum_by_more (λ x. x) c.args.counts.now k 0 inside' in
    let count : c.from.result ≡ get_or c.args.counts.now k 0 = search rules in
    let cost : c.from-in-loop-k.result ≡ get_or c.args.costs.now k 0 = search rules in
    let small : get_or c.args.costs.now k 0 < 2 ^ 63 = grind (arith, elements, c.requires.small) in
    let bound : get_or c.args.costs.now k 0 ≤ 2 ^ 63 = omega (arith, small) in
    let product : get_or c.args.counts.now k 0 * get_or c.args.costs.now k 0 ≤ get_or c.args.counts.now k 0 * 2 ^ 63 = mul-le-mul_left (get_or c.args.counts.now k 0) bound in
    let term : c.from.result * c.from-in-loop-k.result ≡ get_or c.args.counts.now k 0 * get_or c.args.costs.now k 0 = rw (count, cost) refl in
    record {
      value = ap (λ n. c.loop-k.total + n) term ∙ (ap (λ n. n + get_or c.args.counts.now k 0 * get_or c.args.costs.now k 0) c.loop-k.invariant.value ∙ sym value);
      bound = let before = c.loop-k.invariant.bound in omega (arith, term, product, more, before);
    }
