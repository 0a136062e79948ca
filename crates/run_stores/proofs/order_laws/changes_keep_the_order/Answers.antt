use Rattle.run_stores.proofs.Ordered.{file_in_order, joined_in_order, named_in_order, new_in_order, with_baseline_in_order, with_group_in_order, without_group_in_order, without_member_in_order, without_run_in_order}
use Rattle.run_stores.proofs.order_laws.changes_keep_the_order.Goals as goal

pub returns : goal.returns
returns c = record {
  new = new_in_order;
  inserted = file_in_order;
  removed = without_run_in_order;
  named = named_in_order;
  made = with_group_in_order;
  dropped = without_group_in_order;
  joined = joined_in_order;
  left = without_member_in_order;
  based = with_baseline_in_order;
}
