use Rattle.std.proofs.Common.{◌<◌, ◌^◌, List, sym, subst, arith}
use Rattle.cost_rows.specs.Slots.{sums_in}
use Rattle.cost_rows.specs.Totals.{AreWithin}
use Rattle.cost_rows.specs.Trimmed.{trimmed}
use Rattle.cost_rows.specs.declared.places.Call.{Call}
use Rattle.cost_rows.specs.Calls.{Calls}
use Rattle.cost_rows.proofs.TotalsLemmas.{edges-small, within-call}
use Rattle.cost_rows.proofs.TrimmedLemmas.{low-trimmed}
use Rattle.cost_rows.proofs.file_rows.FileRowsSink.call.Goals as goal

pub merge_call-requires-clause-small : goal.merge_call-requires-clause-small
merge_call-requires-clause-small c =
    let few : c.args.self.now.last < 2 ^ 64 = omega arith in
    edges-small c.args.self.now.calls c.args.self.now.last few c.args.self.now.within.calls_fit c.args.self.now.within.counts_fit

pub invariant_of-self-2 : goal.invariant_of-self-2
invariant_of-self-2 c = record {
  within =
      let P : List (Call × Calls) → Type 0 = λ calls. AreWithin c.args.self.now.cells calls (sums_in c.args.self.now.stacks) c.args.r.at in
      subst P (sym c.in_default.ensures.calls)
      (within-call c.args.self.now.cells c.args.self.now.calls (sums_in c.args.self.now.stacks) c.args.self.now.last c.args.r.at _ (record { count = c.args.r.count; costs = trimmed c.args.r.costs.now })
      c.args.self.now.within c.requires.rises c.requires.count (low-trimmed (2 ^ 63) c.args.r.costs.now c.requires.small));
  named = c.in_default.ensures.learns.named;
}
