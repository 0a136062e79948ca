use Rattle.std.proofs.Common.{◌≡◌, ◌<◌, length, slice_index, sym, ap, ◌∙◌, subst, arith, rules}
use Rattle.std.proofs.lemmas.Grind.{common_steps}
use Rattle.plain_tables.specs.RunRows.{cells_in}
use Rattle.store_reports.proofs.CellLemmas.{cells_summed}
use Rattle.store_reports.proofs.cell_sums.check_cells.Goals as goal

pub returns-clause-told : goal.returns-clause-told
returns-clause-told g c clean t represents column low =
    let sums = c.args.sums.now in
    let zeros = c.in_ok-vec.field-0.items in
    let cells = cells_in c.args.number t in
    let came = (c.in_ok-found.ensures.told clean t represents).comes in
    let same : c.in_ok-found.found.sums.items ≡ sums = search rules in
    let long : length zeros ≡ length sums = grind (arith, common_steps, c.in_ok-vec.ensures) in
    let zero : slice_index zeros column ≡ 0 = grind (arith, common_steps, c.in_ok-vec.ensures) in
    let summed = cells_summed _ cells zeros column (subst (λ n. column < n) (sym long) low) in
    ap (λ l. slice_index l column) (sym same ∙ came) ∙ summed ∙ omega (arith, zero)

pub returns-clause-named : goal.returns-clause-named
returns-clause-named g c clean t represents = (c.in_ok-found.ensures.told clean t represents).named
