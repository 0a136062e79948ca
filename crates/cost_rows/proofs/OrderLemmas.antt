-- Each key of the rows of records and of stacks stands once, in order, and each name once.
use Rattle.std.proofs.Common.{◌≡◌, true, List, [], ◌∷◌, ℕ, fold, refl}
use Rattle.std.specs.List.Sorted.{IsStrictlySortedBy}
use Rattle.cg_text.specs.Distinct.{are_distinct}
use Rattle.profile_records.specs.Records.{Cost, Callee, Record, Own, Called}
use Rattle.profile_records.specs.Stacks.{Seen}
use Rattle.cost_rows.specs.Calls.{calls_added}
use Rattle.profile_records.specs.Columns.{added}
use Rattle.cost_rows.specs.Content.{Content, empty, with_three, names_with_cost, names_with_callee, cell_of, call_of, calls_of, leaf_cost, with_cost, with_call, with_record, with_stack}
use Rattle.cost_rows.specs.Naming.{with_name}
use Rattle.cost_rows.specs.Stacks.{counts_added}
use Rattle.cost_rows.specs.StackSums.{content_of_stacks}
use Rattle.cost_rows.specs.Sums.{content_of_records, IsInOrder}
use Rattle.cost_rows.specs.Trimmed.{trimmed}
use Rattle.cost_rows.proofs.MergeLemmas.{sorted-merge}
use Rattle.cost_rows.proofs.NamingLemmas.{distinct-with}
use Rattle.cost_rows.proofs.PlacesLemmas.{cell_cmp-total, call_cmp-total}
use Rattle.cost_rows.proofs.StacksLemmas.{bytes_cmp-total}

distinct-three : (names : List (List ℕ)) (a b d : List ℕ) → are_distinct names ≡ true → are_distinct (with_three a b d names) ≡ true
distinct-three names a b d h = distinct-with (with_name b (with_name a names)) d (distinct-with (with_name a names) b (distinct-with names a h))

order-cost : (c : Content) (cost : Cost) → IsInOrder c → IsInOrder (with_cost c cost)
order-cost c cost is = record {
  cells = sorted-merge cell_cmp-total added c.cells (cell_of (names_with_cost cost c.names) cost) (trimmed cost.costs) is.cells;
  calls = is.calls;
  stacks = is.stacks;
  names = distinct-three c.names cost.object cost.file cost.function is.names;
}

order-call : (c : Content) (callee : Callee) (cost : Cost) → IsInOrder c → IsInOrder (with_call c callee cost)
order-call c callee cost is =
    let mid = names_with_cost cost c.names in
    record {
      cells = is.cells;
      calls = sorted-merge call_cmp-total calls_added c.calls (call_of (names_with_callee callee mid) callee cost) (calls_of callee cost) is.calls;
      stacks = is.stacks;
      names = distinct-three mid callee.object callee.file callee.function (distinct-three c.names cost.object cost.file cost.function is.names);
    }

order-stack : (c : Content) (s : Seen) → IsInOrder c → IsInOrder (with_stack c s)
order-stack c s is =
    let own = order-cost c (leaf_cost s) is in
    record {
      cells = own.cells;
      calls = own.calls;
      stacks = sorted-merge bytes_cmp-total counts_added c.stacks s.stack.frames s.stack.count is.stacks;
      names = own.names;
    }

none_in_order : IsInOrder empty
unfolding IsStrictlySortedBy
none_in_order = record { cells = tt; calls = tt; stacks = tt; names = refl }

more-records : (records : List Record) (c : Content) → IsInOrder c → IsInOrder (fold with_record c records)
more-records [] c is = is
more-records (Own cost ∷ records) c is = more-records records (with_cost c cost) (order-cost c cost is)
more-records (Called callee cost ∷ records) c is = more-records records (with_call c callee cost) (order-call c callee cost is)

pub records-order : (records : List Record) → IsInOrder (content_of_records records)
records-order records = more-records records empty none_in_order

more-stacks : (seen : List Seen) (c : Content) → IsInOrder c → IsInOrder (fold with_stack c seen)
more-stacks [] c is = is
more-stacks (s ∷ seen) c is = more-stacks seen (with_stack c s) (order-stack c s is)

pub stacks-order : (seen : List Seen) → IsInOrder (content_of_stacks seen)
stacks-order seen = more-stacks seen empty none_in_order
