use Rattle.std.proofs.Common.{◌≡◌, Bor, map, is_lt, rules}
use Rattle.std.proofs.lemmas.Fn.{always_returns_same}
use Rattle.std.proofs.lemmas.List.Sorted.{ranks_by}
use Rattle.run_lists.specs.InOrder.{group_cmp}
use Rattle.run_lists.specs.Lent.{lent_group}
use Rattle.run_lists.proofs.SortedRows.{group_cmp_total}
use Rattle.std.proofs.lemmas.Iterator.{YieldsList-from_slice}
use Rattle.std.proofs.lemmas.Iterator.Consumers.{map_from_collect}
use Rattle.std.proofs.lemmas.Result.{IfOk-at_ok}
use Rattle.run_lists.specs.Listed.{group_row}
use Rattle.run_lists.specs.declared.listed.ListedGroup.{ListedGroup}
use Rattle.run_lists.proofs.Permutations.{lent_moved}
use Rattle.run_lists.proofs.groups.groups_by_name.Goals as goal

pub returns : goal.returns
returns c = record {
  same =
      let groups = c.args.groups.now in
      let lent = c.in_ok-lent.lent.items in
      let read : map (λ (g : Bor ListedGroup). g.now) lent ≡ groups =
      IfOk-at_ok (λ l. map (λ (g : Bor ListedGroup). g.now) l.items ≡ groups) c.in_ok-lent.was (map_from_collect c.collect.result c.collect.ensures.ran (YieldsList-from_slice groups c.iter.ensures.rest)) in
      lent_moved group_row groups lent c.sort_unstable_by.new.self.items read c.sort_unstable_by.ensures.permutation;
  sorted = c.sort_unstable_by.ensures.sorted (λ a b. is_lt (group_cmp (lent_group a) (lent_group b))) (ranks_by group_cmp_total lent_group) (always_returns_same _ _ _ (λ a r f' k. search rules));
}
