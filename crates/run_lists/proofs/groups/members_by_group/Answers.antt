use Rattle.std.proofs.Common.{◌≡◌, Bor, map, is_lt, rules}
use Rattle.std.proofs.lemmas.Fn.{always_returns_same}
use Rattle.std.proofs.lemmas.List.Sorted.{ranks_by}
use Rattle.run_lists.specs.InOrder.{member_cmp}
use Rattle.run_lists.specs.Lent.{lent_member}
use Rattle.run_lists.proofs.SortedRows.{member_cmp_total}
use Rattle.std.proofs.lemmas.Iterator.{YieldsList-from_slice}
use Rattle.std.proofs.lemmas.Iterator.Consumers.{map_from_collect}
use Rattle.std.proofs.lemmas.Result.{IfOk-at_ok}
use Rattle.run_lists.specs.Listed.{member_row}
use Rattle.run_lists.specs.declared.listed.ListedMember.{ListedMember}
use Rattle.run_lists.proofs.Permutations.{lent_moved}
use Rattle.run_lists.proofs.groups.members_by_group.Goals as goal

pub returns : goal.returns
returns c = record {
  same =
      let members = c.args.members.now in
      let lent = c.in_ok-lent.lent.items in
      let read : map (λ (m : Bor ListedMember). m.now) lent ≡ members =
      IfOk-at_ok (λ l. map (λ (m : Bor ListedMember). m.now) l.items ≡ members) c.in_ok-lent.was (map_from_collect c.collect.result c.collect.ensures.ran (YieldsList-from_slice members c.iter.ensures.rest)) in
      lent_moved member_row members lent c.sort_unstable_by.new.self.items read c.sort_unstable_by.ensures.permutation;
  sorted = c.sort_unstable_by.ensures.sorted (λ a b. is_lt (member_cmp (lent_member a) (lent_member b))) (ranks_by member_cmp_total lent_member) (always_returns_same _ _ _ (λ a r f' k. search rules));
}
