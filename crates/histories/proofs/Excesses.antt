-- The first sum that passes its bound, by the sums of tables and by the files that are held.
use Rattle.std.proofs.Common.{◌≡◌, ℕ, suc, ◌+◌, ◌<◌, Bool, true, false, nat_lt, if◌then◌else◌, List, [], ◌∷◌, ◌++◌, map, length, slice_index, slice_index_or, Some, option_map, refl, sym, ap, ap₂, subst, ◌∙◌, arith}
use Rattle.cost_rows.specs.Admit as admit
use Rattle.cost_rows.specs.Admit.{bound, column_sums, sums_of, overflow_of}
use Rattle.cost_rows.specs.Totals.{AreTotals}
use Rattle.cost_rows.specs.declared.limits.Side.TheVariants as sides
use Rattle.cost_rows.specs.declared.rows.FileTotals.{FileTotals}
use Rattle.plain_tables.specs.Tables.{Tables}
use Rattle.plain_tables.specs.Sound.{AreSound}
use Rattle.run_stores.specs.Totals.{held_self, held_calls, IsHeldIn}
use Rattle.profile_records.specs.declared.kinds.Kind.{Kind}
use Rattle.histories.specs.Formats.{today}
use Rattle.histories.specs.Files.{events_of, rows_of}
use Rattle.histories.specs.History.{History, File, held}
use Rattle.histories.specs.Representation.{TablesRepresent}
use Rattle.histories.specs.Sums.{Sum, self_column, call_column, calls_of, self_held, calls_cost_held, calls_held, self_sums, call_sums, sums_with, first_above, excess_of, excess_at}
use Rattle.histories.specs.declared.answers.Excess.TheVariants.{SelfCost, CallCost, CallCount}
use Rattle.histories.proofs.Rows.{rows_come}
use Rattle.histories.proofs.Totals.{tells_self, tells_calls, tells_count}

-- ---- sums that are the same, the one by column, the other by name

record IsSame (events : List (List ℕ)) (a : admit.Sum) (b : Sum) : Type 0 where
  of : excess_at events a.of ≡ b.of
  sum : a.sum ≡ b.sum

abbrev AreSame : List (List ℕ) → List admit.Sum → List Sum → Type 0
AreSame events [] [] = Unit {0}
AreSame events (a ∷ xs) (b ∷ ys) = IsSame events a b × AreSame events xs ys
AreSame events xs ys = ⊥

same_append : (events : List (List ℕ)) (xs more_xs : List admit.Sum) (ys more_ys : List Sum) → AreSame events xs ys → AreSame events more_xs more_ys → AreSame events (xs ++ more_xs) (ys ++ more_ys)
same_append events [] more_xs [] more_ys same more = more
same_append events [] more_xs (b ∷ ys) more_ys same more = absurd same
same_append events (a ∷ xs) more_xs [] more_ys same more = absurd same
same_append events (a ∷ xs) more_xs (b ∷ ys) more_ys same more = (same.0, same_append events xs more_xs ys more_ys same.1 more)

first_same : (events : List (List ℕ)) (xs : List admit.Sum) (ys : List Sum) → AreSame events xs ys → first_above ys ≡ option_map (excess_at events) (admit.first_above xs)
first_same events [] [] same = refl
first_same events [] (b ∷ ys) same = absurd same
first_same events (a ∷ xs) [] same = absurd same
first_same events (a ∷ xs) (b ∷ ys) same = ap (λ n. if nat_lt bound n then Some b.of else first_above ys) (sym same.0.sum) ∙ go (nat_lt bound a.sum) (first_same events xs ys same.1)
  where
    go : (c : Bool) → first_above ys ≡ option_map (excess_at events) (admit.first_above xs) → (if c then Some b.of else first_above ys) ≡ option_map (excess_at events) (if c then Some a.of else admit.first_above xs)
    go true rest = ap (λ x. Some x) (sym same.0.of)
    go false rest = rest

-- ---- the sums of columns

module _ (all : List (List ℕ)) (column : ℕ → ℕ) where
  record AreAt (k : ℕ) (events : List (List ℕ)) (costs : List ℕ) : Type 0 where
    names : (j : ℕ) → j < length events → slice_index_or all (k + j) [] ≡ slice_index_or events j []
    many : length costs ≡ length events
    are : (j : ℕ) → j < length events → slice_index costs j ≡ column (k + j)

  at_rest : (k : ℕ) (event : List ℕ) (events : List (List ℕ)) (cost : ℕ) (costs : List ℕ) → AreAt k (event ∷ events) (cost ∷ costs) → AreAt (suc k) events costs
  at_rest k event events cost costs at = record {
    names = λ j low. ap (λ n. slice_index_or all n []) (further j) ∙ at.names (suc j) (omega arith);
    many = let e : suc (length costs) ≡ suc (length events) = at.many in omega arith;
    are = λ j low. at.are (suc j) (omega arith) ∙ ap column (sym (further j));
  }
    where
      further : (j : ℕ) → suc k + j ≡ k + suc j
      further j = omega arith

  here : (k : ℕ) → k + 0 ≡ k
  here k = omega arith

  self_same : (files : List File) (t : Tables) → ((name : List ℕ) → held_self t name ≡ self_held files name) → (k : ℕ) (events : List (List ℕ)) (costs : List ℕ) → AreAt k events costs
      → AreSame all (column_sums sides.SelfCost k (map (held_self t) events) costs) (self_sums files column k events)
  self_same files t are k [] costs at = tt
  self_same files t are k (event ∷ events) [] at = absurd (let e : 0 ≡ suc (length events) = at.many in omega arith)
  self_same files t are k (event ∷ events) (cost ∷ costs) at = (
    record {
      of = ap SelfCost (ap (λ n. slice_index_or all n []) (sym (here k)) ∙ at.names 0 (omega arith));
      sum = ap₂ ◌+◌ (are event) (at.are 0 (omega arith) ∙ ap column (here k));
    },
    self_same files t are (suc k) events costs (at_rest k event events cost costs at),
  )

  call_same : (files : List File) (t : Tables) → ((name : List ℕ) → held_calls t name ≡ calls_cost_held files name) → (k : ℕ) (events : List (List ℕ)) (costs : List ℕ) → AreAt k events costs
      → AreSame all (column_sums sides.CallCost k (map (held_calls t) events) costs) (call_sums files column k events)
  call_same files t are k [] costs at = tt
  call_same files t are k (event ∷ events) [] at = absurd (let e : 0 ≡ suc (length events) = at.many in omega arith)
  call_same files t are k (event ∷ events) (cost ∷ costs) at = (
    record {
      of = ap CallCost (ap (λ n. slice_index_or all n []) (sym (here k)) ∙ at.names 0 (omega arith));
      sum = ap₂ ◌+◌ (are event) (at.are 0 (omega arith) ∙ ap column (here k));
    },
    call_same files t are (suc k) events costs (at_rest k event events cost costs at),
  )

none_first : (j : ℕ) → 0 + j ≡ j
none_first j = omega arith

-- what does not fit beside the sums of the tables is what does not fit beside the files that are held
pub tells_excess : (h : History) (t : Tables) (kind : Kind) (bytes : List ℕ) (held_totals file_totals : FileTotals) → AreSound t → TablesRepresent h t → IsHeldIn t (events_of (today kind) bytes) held_totals
    → AreTotals file_totals (rows_of kind bytes) (length (events_of (today kind) bytes)) → excess_of (held h) (today kind) bytes ≡ option_map (excess_at (events_of (today kind) bytes)) (overflow_of held_totals file_totals)
tells_excess h t kind bytes held_totals file_totals was represent in_tables in_file =
    let events : List (List ℕ) = events_of (today kind) bytes in
    let all = rows_come kind bytes in
    let own : AreSame events (column_sums sides.SelfCost 0 held_totals.self_cost file_totals.self_cost) (self_sums (held h) (self_column (today kind) bytes) 0 events) =
    subst (λ l. AreSame events (column_sums sides.SelfCost 0 l file_totals.self_cost) (self_sums (held h) (self_column (today kind) bytes) 0 events)) (sym in_tables.self_cost)
    (self_same events (self_column (today kind) bytes) (held h) t (tells_self h t was represent) 0 events file_totals.self_cost (record {
      names = λ j low. ap (λ n. slice_index_or events n []) (none_first j);
      many = in_file.self_columns;
      are = λ j low. in_file.self_cost j low ∙ all.cells (λ _. true) j ∙ ap (self_column (today kind) bytes) (sym (none_first j));
    })) in
    let calls : AreSame events (column_sums sides.CallCost 0 held_totals.call_cost file_totals.call_cost) (call_sums (held h) (call_column (today kind) bytes) 0 events) =
    subst (λ l. AreSame events (column_sums sides.CallCost 0 l file_totals.call_cost) (call_sums (held h) (call_column (today kind) bytes) 0 events)) (sym in_tables.call_cost)
    (call_same events (call_column (today kind) bytes) (held h) t (tells_calls h t was represent) 0 events file_totals.call_cost (record {
      names = λ j low. ap (λ n. slice_index_or events n []) (none_first j);
      many = in_file.call_columns;
      are = λ j low. in_file.call_cost j low ∙ all.calls (λ _ _. true) j ∙ ap (call_column (today kind) bytes) (sym (none_first j));
    })) in
    let count : held_totals.call_count + file_totals.call_count ≡ calls_held (held h) + calls_of (today kind) bytes =
    ap₂ ◌+◌ (in_tables.call_count ∙ tells_count h t represent) (in_file.call_count ∙ all.counts (λ _ _. true)) in
    first_same events (sums_of held_totals file_totals) (sums_with (held h) (today kind) bytes)
    (same_append events
    (column_sums sides.SelfCost 0 held_totals.self_cost file_totals.self_cost ++ column_sums sides.CallCost 0 held_totals.call_cost file_totals.call_cost)
    (record { of = record { side = sides.CallCount; column = 0 }; sum = held_totals.call_count + file_totals.call_count } ∷ [])
    (self_sums (held h) (self_column (today kind) bytes) 0 events ++ call_sums (held h) (call_column (today kind) bytes) 0 events)
    (record { of = CallCount; sum = calls_held (held h) + calls_of (today kind) bytes } ∷ [])
    (same_append events (column_sums sides.SelfCost 0 held_totals.self_cost file_totals.self_cost) (column_sums sides.CallCost 0 held_totals.call_cost file_totals.call_cost) (self_sums (held h) (self_column (today kind) bytes) 0 events)
    (call_sums (held h) (call_column (today kind) bytes) 0 events) own calls)
    (record { of = refl; sum = count }, tt))
