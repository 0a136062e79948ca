use Rattle.std.proofs.Common.{rules, ◌≡◌, ℕ, List, fold, sum_by, refl, sym, ap, ◌∙◌, arith}
use Rattle.cost_rows.specs.KeySums.{rows_of, with_row}
use Rattle.cost_rows.specs.declared.keys.Key.TheVariants.{Function}
use Rattle.cost_rows.specs.declared.rows.CellRow.{CellRow}
use Rattle.cost_reports.proofs.KeyLemmas.{total_by_key, total_of_rows}
use Rattle.cost_reports.proofs.inclusives.add_sums.Goals as goal

pub loop-row-init : goal.loop-row-init
loop-row-init c =
    let others = c.args.others.now.sums in
    let rows : c.into_iter-row-iterator.result ≡ rows_of others = search rules in
    let total = ap (sum_by (λ (r : CellRow (List ℕ)). r.cost)) rows ∙ sym (total_by_key Function (rows_of others)) ∙ total_of_rows Function others in
    record {
      sums = ap (fold with_row c.args.sums.now) rows;
      key = refl;
      small = omega (arith, total, c.requires.small);
    }
