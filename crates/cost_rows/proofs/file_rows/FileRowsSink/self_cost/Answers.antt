use Rattle.std.proofs.Common.{◌<◌, ◌^◌, List, ℕ, sym, subst, arith}
use Rattle.cost_rows.specs.Slots.{sums_in}
use Rattle.cost_rows.specs.Totals.{AreWithin}
use Rattle.cost_rows.specs.Trimmed.{trimmed}
use Rattle.cost_rows.specs.declared.places.CellPlace.{CellPlace}
use Rattle.cost_rows.proofs.TotalsLemmas.{cells-small, within-own}
use Rattle.cost_rows.proofs.TrimmedLemmas.{low-trimmed}
use Rattle.cost_rows.proofs.file_rows.FileRowsSink.self_cost.Goals as goal

pub merge_self-requires-clause-small : goal.merge_self-requires-clause-small
merge_self-requires-clause-small c =
    let few : c.args.self.now.last < 2 ^ 64 = omega arith in
    cells-small c.args.self.now.cells c.args.self.now.last few c.args.self.now.within.cells_fit

pub invariant_of-self-2 : goal.invariant_of-self-2
invariant_of-self-2 c = record {
  within =
      let P : List (CellPlace × List ℕ) → Type 0 = λ cells. AreWithin cells c.args.self.now.calls (sums_in c.args.self.now.stacks) c.args.r.at in
      subst P (sym c.in_default.ensures.cells)
      (within-own c.args.self.now.cells c.args.self.now.calls (sums_in c.args.self.now.stacks) c.args.self.now.last c.args.r.at _ (trimmed c.args.r.costs.now)
      c.args.self.now.within c.requires.rises (low-trimmed (2 ^ 63) c.args.r.costs.now c.requires.small));
  named = c.in_default.ensures.learns.named;
}
