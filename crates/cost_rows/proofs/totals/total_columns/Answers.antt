use Rattle.std.proofs.Common.{◌≡◌, ℕ, ◌+◌, ◌<◌, ◌^◌, List, length, slice_index, refl, sym, ap, subst, ◌∙◌, arith}
use Rattle.std.proofs.lemmas.List.{with_items_is}
use Rattle.cost_rows.specs.Totals.{column_total, AreColumns}
use Rattle.cost_rows.proofs.TotalsLemmas.{totals-start}
use Rattle.cost_rows.proofs.totals.total_columns.Goals as goal

pub add_all-requires : goal.add_all-requires
add_all-requires g c = λ k below.
    let total = column_total (λ sums. sums) k c.args.entries in
    let zero : slice_index c.deref_mut.result.now k + total ≡ total =
    ap (λ xs. slice_index xs k + total) c.deref_mut.ensures.value ∙ totals-start c.in_ok-totals.totals.items c.args.columns k total total (c.in_ok-totals.ensures.items_if_clones_equal (λ x e. e)) refl in
    subst (λ n. n < 2 ^ 128) (sym zero) (c.requires k)

pub returns : goal.returns
returns g c =
    let new : List ℕ = c.add_all.new.totals in
    let wide : length new ≡ c.args.columns = omega (arith, c.deref_mut.ensures.len, c.in_ok-totals.ensures.len, c.add_all.auto.totals) in
    let same = with_items_is c.in_ok-totals.totals new (omega (arith, wide, c.in_ok-totals.ensures.len)) in
    subst (AreColumns c.args.columns (λ k. column_total (λ sums. sums) k c.args.entries)) (sym same)
    (record {
      many = wide;
      sums = λ k below.
          let total = column_total (λ sums. sums) k c.args.entries in
          c.add_all.ensures k (omega (arith, wide, c.add_all.auto.totals))
          ∙ ap (λ xs. slice_index xs k + total) c.deref_mut.ensures.value
          ∙ totals-start c.in_ok-totals.totals.items c.args.columns k total total (c.in_ok-totals.ensures.items_if_clones_equal (λ x e. e)) refl;
    })
