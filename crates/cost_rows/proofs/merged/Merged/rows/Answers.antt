use Rattle.std.proofs.Common.{subst}
use Rattle.std.specs.List.Sorted.{IsStrictlySortedBy}
use Rattle.std.specs.Map.{keys_of}
use Rattle.cost_rows.specs.Keys.{named_cmp, plain_place}
use Rattle.cost_rows.specs.KeySums.{Sums}
use Rattle.cost_rows.proofs.SeenLemmas.{seen-sorted}
use Rattle.cost_rows.proofs.merged.Merged.rows.Goals as goal

pub returns-clause-order : goal.returns-clause-order
returns-clause-order c =
    subst (λ (s : Sums). IsStrictlySortedBy named_cmp (keys_of s.sums)) c.self.view_is (seen-sorted plain_place named_cmp c.self.inside.sums.entries c.iter.ensures.ordered)
