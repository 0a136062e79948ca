-- The rows of a file sum to what its records and stacks sum to.
use Rattle.std.proofs.Common.{◌≡◌, ℕ, ◌+◌, suc, zero, Bool, true, false, if◌then◌else◌, List, [], ◌∷◌, map, fold, slice_index, refl, sym, ap, ◌∙◌, arith}
use Rattle.callgrind_reader.specs.Files.{records_of_file}
use Rattle.std.specs.List.{list_any}
use Rattle.std.specs.Map.{keys_of}
use Rattle.profile_records.specs.Records.{Record, Own, Called}
use Rattle.profile_records.specs.Stacks.{Seen}
use Rattle.folded_reader.specs.Files.{stacks_of_file}
use Rattle.cost_rows.specs.Content.{Content, empty, with_record, leaf_cost}
use Rattle.cost_rows.specs.Held.{AreHeld}
use Rattle.cost_rows.specs.Merging.{sum_where}
use Rattle.cost_rows.specs.StackSums.{content_of_stacks, frames_sum, leaf_sum}
use Rattle.cost_rows.specs.Sums.{Spot, spot_of, passing_call, cells_where, calls_where, counts_where, stacks_where, content_of_records, self_sum, call_sum, count_sum, has_edge, has_call}
use Rattle.cost_rows.proofs.StackSumsLemmas.{held-stacks, sums-stacks}
use Rattle.cost_rows.proofs.SumsLemmas.{held-records, sums-cells, sums-edges, sums-counts, calls-there}
use Rattle.profile_records.specs.declared.kinds.Kind.{Kind}
use Rattle.profile_records.specs.declared.kinds.Kind.TheVariants.{Callgrind, Folded}
use Rattle.histories.specs.Formats.{today}
use Rattle.histories.specs.Files.{records_of, stacks_of, rows_of, sample}

pub record SumsTo (c : Content) (records : List Record) (stacks : List Seen) : Type 0 where
  pub held : AreHeld c
  pub cells : (passes : Spot → Bool) (k : ℕ) → cells_where passes k c ≡ self_sum passes k records
  pub calls : (passes : Spot → Spot → Bool) (k : ℕ) → calls_where passes k c ≡ call_sum passes k records
  pub counts : (passes : Spot → Spot → Bool) → counts_where passes c ≡ count_sum passes records
  pub called : (passes : Spot → Spot → Bool) → has_edge passes c ≡ has_call passes records
  pub stacks_are : (passes : List ℕ → Bool) → stacks_where passes c ≡ frames_sum passes stacks

-- records make no stacks
no_stacks : (records : List Record) (c : Content) → (fold with_record c records).stacks ≡ c.stacks
no_stacks [] c = refl
no_stacks (Own cost ∷ records) c = no_stacks records (with_record c (Own cost))
no_stacks (Called callee cost ∷ records) c = no_stacks records (with_record c (Called callee cost))

records_come : (records : List Record) → SumsTo (content_of_records records) records []
records_come records = record {
  held = held-records records;
  cells = λ passes k. sums-cells passes k records;
  calls = λ passes k. sums-edges passes k records;
  counts = λ passes. sums-counts passes records;
  called = λ passes. calls-there passes records;
  stacks_are = λ passes. ap (sum_where passes (λ count. count)) (no_stacks records empty);
}

-- a stack counts in the first column alone, and calls nothing
self_first : (passes : Spot → Bool) (seen : List Seen) → leaf_sum passes seen ≡ self_sum passes 0 (map sample seen)
self_first passes [] = refl
self_first passes (s ∷ seen) = ap (λ n. (if passes (spot_of (leaf_cost s)) then s.stack.count else 0) + n) (self_first passes seen)

nothing : (b : Bool) (n : ℕ) → n ≡ 0 → (if b then 0 else 0) + n ≡ 0
nothing true n is = omega arith
nothing false n is = omega arith

self_further : (passes : Spot → Bool) (k : ℕ) (seen : List Seen) → self_sum passes (suc k) (map sample seen) ≡ 0
self_further passes k [] = refl
self_further passes k (s ∷ seen) = nothing (passes (spot_of (leaf_cost s))) (self_sum passes (suc k) (map sample seen)) (self_further passes k seen)

no_calls : (passes : Spot → Spot → Bool) (k : ℕ) (seen : List Seen) → call_sum passes k (map sample seen) ≡ 0
no_calls passes k [] = refl
no_calls passes k (s ∷ seen) = no_calls passes k seen

no_counts : (passes : Spot → Spot → Bool) (seen : List Seen) → count_sum passes (map sample seen) ≡ 0
no_counts passes [] = refl
no_counts passes (s ∷ seen) = no_counts passes seen

no_call : (passes : Spot → Spot → Bool) (seen : List Seen) → has_call passes (map sample seen) ≡ false
no_call passes [] = refl
no_call passes (s ∷ seen) = no_call passes seen

stacks_come : (seen : List Seen) → SumsTo (content_of_stacks seen) (map sample seen) seen
stacks_come seen = record {
  held = held-stacks seen;
  cells = columns;
  calls = λ passes k. ap (sum_where (passing_call passes (content_of_stacks seen).names) (λ calls. slice_index calls.costs k)) (sums-stacks seen).calls ∙ sym (no_calls passes k seen);
  counts = λ passes. ap (sum_where (passing_call passes (content_of_stacks seen).names) (λ calls. calls.count)) (sums-stacks seen).calls ∙ sym (no_counts passes seen);
  called = λ passes. ap (λ edges. list_any (passing_call passes (content_of_stacks seen).names) (keys_of edges)) (sums-stacks seen).calls ∙ sym (no_call passes seen);
  stacks_are = (sums-stacks seen).stacks;
}
  where
    columns : (passes : Spot → Bool) (k : ℕ) → cells_where passes k (content_of_stacks seen) ≡ self_sum passes k (map sample seen)
    columns passes zero = (sums-stacks seen).cells passes ∙ self_first passes seen
    columns passes (suc k) = (sums-stacks seen).further passes k ∙ sym (self_further passes k seen)

pub rows_come : (kind : Kind) (bytes : List ℕ) → SumsTo (rows_of kind bytes) (records_of (today kind) bytes) (stacks_of (today kind) bytes)
rows_come Callgrind bytes = records_come (records_of_file bytes)
rows_come Folded bytes = stacks_come (stacks_of_file bytes)
