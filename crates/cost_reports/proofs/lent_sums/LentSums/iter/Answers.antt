use Rattle.std.proofs.Common.{subst}
use Rattle.cost_rows.specs.Keys.{lent_place, named_cmp}
use Rattle.cost_rows.specs.KeySums.{Sums}
use Rattle.cost_rows.proofs.SeenLemmas.{seen-sorted}
use Rattle.cost_reports.specs.InStep.{IsInOrder}
use Rattle.cost_reports.proofs.lent_sums.LentSums.iter.Goals as goal

pub returns-clause-order : goal.returns-clause-order
returns-clause-order c = subst (λ (s : Sums). IsInOrder s.sums) c.self.view_is (seen-sorted lent_place named_cmp c.self.inside.sums.entries c.iter.ensures.ordered)
