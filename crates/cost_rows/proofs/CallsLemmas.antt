-- Sums of which the first is the number of calls.
use Rattle.std.proofs.Common.{◌≡◌, ℕ, zero, suc, ◌+◌, ◌<◌, ◌^◌, List, [], ◌∷◌, All, drop, slice_index, refl, ap, ap₂, ◌∙◌, arith, length-drop}
use Rattle.std.specs.declared.cmp.Ordering.{Ordering}
use Rattle.std.specs.declared.cmp.Ordering.TheVariants.{Less, Equal, Greater}
use Rattle.std.specs.Ordering.{match_ordering}
use Rattle.std.specs.Map.{values_of}
use Rattle.std.proofs.lemmas.List.{get_or-drop}
use Rattle.std.proofs.lemmas.List.Elements.{All-nil, All-cons, All-head, All-tail}
use Rattle.profile_records.specs.Columns.{added, HaveRoom}
use Rattle.cost_rows.specs.Calls.{Calls, calls_added, calls_from, calls_in, AreSmall}
use Rattle.cost_rows.specs.Merging.{merge}
use Rattle.cost_rows.specs.Places.{call_cmp}
use Rattle.cost_rows.specs.Totals.{AreColumns, column_total, call_total, count_total}
use Rattle.cost_rows.specs.declared.places.Call.{Call}

added-calls : (sums : List ℕ) (count : ℕ) (costs : List ℕ) → calls_from (added sums (count ∷ costs)) ≡ calls_added (calls_from sums) (record { count = count; costs = costs })
added-calls [] count costs =
    let none : count ≡ 0 + count = omega arith in
    let P : ℕ → Calls = λ n. record { count = n; costs = costs } in
    ap P none
added-calls (n ∷ sums) count costs = refl

merged-step : (call : Call) (count : ℕ) (costs : List ℕ) (e : Call × List ℕ) (es : List (Call × List ℕ)) (r : Ordering)
    → calls_in (merge call_cmp added es call (count ∷ costs)) ≡ merge call_cmp calls_added (calls_in es) call (record { count = count; costs = costs })
    → calls_in (match_ordering r ((call, count ∷ costs) ∷ e ∷ es) ((e.0, added e.1 (count ∷ costs)) ∷ es) (e ∷ merge call_cmp added es call (count ∷ costs)))
    ≡ match_ordering r ((call, record { count = count; costs = costs }) ∷ (e.0, calls_from e.1) ∷ calls_in es) ((e.0, calls_added (calls_from e.1) (record { count = count; costs = costs })) ∷ calls_in es) ((e.0, calls_from e.1) ∷ merge call_cmp calls_added (calls_in es) call (record { count = count; costs = costs }))
merged-step call count costs e es Less rest = refl
merged-step call count costs e es Equal rest = ap (λ (calls : Calls). (e.0, calls) ∷ calls_in es) (added-calls e.1 count costs)
merged-step call count costs e es Greater rest = ap (λ more. (e.0, calls_from e.1) ∷ more) rest

-- their number and their costs are merged as sums
pub calls-merged : (es : List (Call × List ℕ)) (call : Call) (count : ℕ) (costs : List ℕ) → calls_in (merge call_cmp added es call (count ∷ costs)) ≡ merge call_cmp calls_added (calls_in es) call (record { count = count; costs = costs })
calls-merged [] call count costs = refl
calls-merged (e ∷ es) call count costs = merged-step call count costs e es (call_cmp call e.0) (calls-merged es call count costs)

room-each : (sums : List ℕ) → AreSmall (calls_from sums) → HaveRoom sums
room-each [] small = All-nil (λ s. s < 2 ^ 127)
room-each (n ∷ sums) small = All-cons (λ s. s < 2 ^ 127) n sums small.0 small.1

pub room-of_calls : (es : List (Call × List ℕ)) → All AreSmall (values_of (calls_in es)) → All HaveRoom (values_of es)
room-of_calls [] small = All-nil HaveRoom
room-of_calls (e ∷ es) small =
    All-cons HaveRoom e.1 (values_of es) (room-each e.1 (All-head AreSmall (calls_from e.1) (values_of (calls_in es)) small))
    (room-of_calls es (All-tail AreSmall (calls_from e.1) (values_of (calls_in es)) small))

-- ---- the totals of the first column, and of those behind it

count-each : (sums : List ℕ) → slice_index sums 0 ≡ (calls_from sums).count
count-each [] = refl
count-each (n ∷ sums) = refl

cost-each : (k : ℕ) (sums : List ℕ) → slice_index sums (suc k) ≡ slice_index (calls_from sums).costs k
cost-each k [] = refl
cost-each k (n ∷ sums) = refl

pub count-column : (es : List (Call × List ℕ)) → column_total (λ sums. sums) 0 es ≡ count_total (calls_in es)
count-column [] = refl
count-column (e ∷ es) = ap₂ ◌+◌ (count-each e.1) (count-column es)

pub cost-column : (k : ℕ) (es : List (Call × List ℕ)) → column_total (λ sums. sums) (suc k) es ≡ call_total k (calls_in es)
cost-column k [] = refl
cost-column k (e ∷ es) = ap₂ ◌+◌ (cost-each k e.1) (cost-column k es)

pub columns-small : (es rest : List (Call × List ℕ)) (calls : List (Call × Calls)) → rest ≡ es → calls_in es ≡ calls → count_total calls < 2 ^ 128 → ((k : ℕ) → call_total k calls < 2 ^ 128) → (k : ℕ) → column_total (λ sums. sums) k rest < 2 ^ 128
columns-small es rest calls is seen counts costs zero =
    let e : column_total (λ sums. sums) 0 rest ≡ count_total calls = ap (column_total (λ sums. sums) 0) is ∙ count-column es ∙ ap count_total seen in
    rw e counts
columns-small es rest calls is seen counts costs (suc k) =
    let e : column_total (λ sums. sums) (suc k) rest ≡ call_total k calls = ap (column_total (λ sums. sums) (suc k)) is ∙ cost-column k es ∙ ap (call_total k) seen in
    rw e (costs k)

-- the first of the columns' totals is the number of all calls
pub count-first : (es rest : List (Call × List ℕ)) (calls : List (Call × Calls)) (totals : List ℕ) (columns : ℕ) → rest ≡ es → calls_in es ≡ calls → 0 < columns → AreColumns columns (λ k. column_total (λ sums. sums) k rest) totals → slice_index totals 0 ≡ count_total calls
count-first es rest calls totals columns is seen some are = are.sums 0 some ∙ ap (column_total (λ sums. sums) 0) is ∙ count-column es ∙ ap count_total seen

-- and those behind it are what they cost
pub costs-behind : (es rest : List (Call × List ℕ)) (calls : List (Call × Calls)) (totals : List ℕ) (columns events : ℕ) → rest ≡ es → calls_in es ≡ calls → columns ≡ events + 1 → AreColumns columns (λ k. column_total (λ sums. sums) k rest) totals → AreColumns events (λ k. call_total k calls) (drop 1 totals)
costs-behind es rest calls totals columns events is seen wide are = record {
  many = omega (arith, length-drop 1 totals, are.many, wide);
  sums = λ k below.
      get_or-drop 1 totals k 0 ∙ (let n : 1 + k ≡ suc k = omega arith in ap (slice_index totals) n)
      ∙ are.sums (suc k) (omega (arith, wide, below)) ∙ ap (column_total (λ sums. sums) (suc k)) is ∙ cost-column k es ∙ ap (call_total k) seen;
}
