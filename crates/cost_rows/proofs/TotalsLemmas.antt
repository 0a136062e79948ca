-- The sums over all entries, while records are merged.
use Rattle.std.proofs.Common.{◌≡◌, ℕ, ◌+◌, ◌*◌, ◌<◌, ◌≤◌, ◌^◌, zero, suc, true, List, [], ◌∷◌, slice_index, All, lit<, replicate, refl, ap, ◌∙◌, arith}
use Rattle.std.specs.Map.{values_of}
use Rattle.std.proofs.lemmas.List.Elements.{All-cons, All-weaker, All-from_get_or}
use Rattle.cost_rows.specs.Calls.{Calls, calls_added, AreSmall}
use Rattle.profile_records.specs.Columns.{added}
use Rattle.cost_rows.specs.Merging.{merge}
use Rattle.cost_rows.specs.Places.{cell_cmp, call_cmp}
use Rattle.cost_rows.specs.Stacks.{bytes_cmp, counts_added}
use Rattle.cost_rows.specs.Content.{Content}
use Rattle.cost_rows.specs.Trimmed.{trimmed}
use Rattle.cost_rows.specs.Totals.{cell_total, call_total, count_total, stack_total, AreWithin}
use Rattle.cost_rows.specs.declared.places.CellPlace.{CellPlace}
use Rattle.cost_rows.specs.declared.places.Call.{Call}
use Rattle.std.proofs.lemmas.Map.Lookups.{exact_bytes}
use Rattle.profile_records.proofs.ColumnsLemmas.{slice_index-added}
use Rattle.cost_rows.proofs.MergeLemmas.{sum-merge}
use Rattle.cost_rows.proofs.PlacesLemmas.{cell_cmp-apart, call_cmp-apart}
use Rattle.cost_rows.proofs.TrimmedLemmas.{low-trimmed}

-- ---- what a merge adds to a total

pub cell_total-merge : (k : ℕ) (cells : List (CellPlace × List ℕ)) (place : CellPlace) (costs : List ℕ) → cell_total k (merge cell_cmp added cells place costs) ≡ cell_total k cells + slice_index costs k
cell_total-merge k cells place costs = sum-merge cell_cmp-apart added (λ _. true) (λ v. slice_index v k) (λ x y. slice_index-added x y k) cells place costs

pub call_total-merge : (k : ℕ) (edges : List (Call × Calls)) (call : Call) (more : Calls) → call_total k (merge call_cmp calls_added edges call more) ≡ call_total k edges + slice_index more.costs k
call_total-merge k edges call more = sum-merge call_cmp-apart calls_added (λ _. true) (λ v. slice_index v.costs k) (λ x y. slice_index-added x.costs y.costs k) edges call more

pub count_total-merge : (edges : List (Call × Calls)) (call : Call) (more : Calls) → count_total (merge call_cmp calls_added edges call more) ≡ count_total edges + more.count
count_total-merge edges call more = sum-merge call_cmp-apart calls_added (λ _. true) (λ v. v.count) (λ x y. refl) edges call more

pub stack_total-merge : (stacks : List (List ℕ × ℕ)) (frames : List ℕ) (count : ℕ) → stack_total (merge bytes_cmp counts_added stacks frames count) ≡ stack_total stacks + count
stack_total-merge stacks frames count = sum-merge exact_bytes counts_added (λ _. true) (λ n. n) (λ x y. refl) stacks frames count

-- ---- no sum is above its total

pub values-within : (cells : List (CellPlace × List ℕ)) (n : ℕ) → ((k : ℕ) → cell_total k cells ≤ n) → All (All (λ s. s ≤ n)) (values_of cells)
values-within [] n fits = λ k d below. absurd (omega arith)
values-within (e ∷ es) n fits =
    All-cons (All (λ s. s ≤ n)) e.1 (values_of es)
    (All-from_get_or (λ s. s ≤ n) e.1 0 (λ k below. let fit : slice_index e.1 k + cell_total k es ≤ n = fits k in omega arith))
    (values-within es n (λ k. let fit : slice_index e.1 k + cell_total k es ≤ n = fits k in omega arith))

all_calls : (edges : List (Call × Calls)) (n : ℕ) → ((k : ℕ) → call_total k edges ≤ n) → count_total edges ≤ n → All (λ c. (c.count ≤ n) × All (λ s. s ≤ n) c.costs) (values_of edges)
all_calls [] n fits counts = λ k d below. absurd (omega arith)
all_calls (e ∷ es) n fits counts =
    let fit : e.1.count + count_total es ≤ n = counts in
    All-cons (λ c. (c.count ≤ n) × All (λ s. s ≤ n) c.costs) e.1 (values_of es)
    (omega arith, All-from_get_or (λ s. s ≤ n) e.1.costs 0 (λ k below. let fit : slice_index e.1.costs k + call_total k es ≤ n = fits k in omega arith))
    (all_calls es n (λ k. let fit : slice_index e.1.costs k + call_total k es ≤ n = fits k in omega arith) (omega arith))

bounded : (lines s : ℕ) → lines < 2 ^ 64 → s ≤ lines * 2 ^ 63 → s < 2 ^ 127
bounded lines s few small = omega arith

-- no sum can wrap by one more record
pub cells-small : (cells : List (CellPlace × List ℕ)) (lines : ℕ) → lines < 2 ^ 64 → ((k : ℕ) → cell_total k cells ≤ lines * 2 ^ 63) → All (All (λ s. s < 2 ^ 127)) (values_of cells)
cells-small cells lines few fits =
    All-weaker (All (λ s. s ≤ lines * 2 ^ 63)) (All (λ s. s < 2 ^ 127))
    (λ v all. All-weaker (λ s. s ≤ lines * 2 ^ 63) (λ s. s < 2 ^ 127) (λ s small. bounded lines s few small) v all)
    (values_of cells) (values-within cells (lines * 2 ^ 63) fits)

pub edges-small : (edges : List (Call × Calls)) (lines : ℕ) → lines < 2 ^ 64 → ((k : ℕ) → call_total k edges ≤ lines * 2 ^ 63) → count_total edges ≤ lines * 2 ^ 63 → All AreSmall (values_of edges)
edges-small edges lines few fits counts =
    All-weaker (λ c. (c.count ≤ lines * 2 ^ 63) × All (λ s. s ≤ lines * 2 ^ 63) c.costs) AreSmall
    (λ c both. (bounded lines c.count few both.0, All-weaker (λ s. s ≤ lines * 2 ^ 63) (λ s. s < 2 ^ 127) (λ s small. bounded lines s few small) c.costs both.1))
    (values_of edges) (all_calls edges (lines * 2 ^ 63) fits counts)

-- ---- one more line

rises : (lines at n m : ℕ) → lines < at → n ≤ lines * 2 ^ 63 → m < 2 ^ 63 → n + m ≤ at * 2 ^ 63
rises lines at n m more small low = omega arith

stays : (lines at n : ℕ) → lines < at → n ≤ lines * 2 ^ 63 → n ≤ at * 2 ^ 63
stays lines at n more small = omega arith

pub low-at : (bound : ℕ) → 0 < bound → (costs : List ℕ) (k : ℕ) → All (λ c. c < bound) costs → slice_index costs k < bound
low-at bound above [] k all = above
low-at bound above (c ∷ costs) zero all = all 0 0 (omega arith)
low-at bound above (c ∷ costs) (suc k) all = low-at bound above costs k (λ j d below. all (suc j) d (omega arith))

pub within-own : (cells : List (CellPlace × List ℕ)) (edges : List (Call × Calls)) (stacks : List (List ℕ × ℕ)) (lines at : ℕ) (place : CellPlace) (costs : List ℕ) → AreWithin cells edges stacks lines → lines < at → All (λ c. c < 2 ^ 63) costs
    → AreWithin (merge cell_cmp added cells place costs) edges stacks at
within-own cells edges stacks lines at place costs is more low = record {
  cells_fit = λ k. rw (cell_total-merge k cells place costs) (rises lines at (cell_total k cells) (slice_index costs k) more (is.cells_fit k) (low-at (2 ^ 63) (lit< tt) costs k low));
  calls_fit = λ k. stays lines at (call_total k edges) more (is.calls_fit k);
  counts_fit = stays lines at (count_total edges) more is.counts_fit;
  stacks_fit = stays lines at (stack_total stacks) more is.stacks_fit;
}

pub within-call : (cells : List (CellPlace × List ℕ)) (edges : List (Call × Calls)) (stacks : List (List ℕ × ℕ)) (lines at : ℕ) (call : Call) (calls : Calls) → AreWithin cells edges stacks lines → lines < at → calls.count < 2 ^ 63 → All (λ c. c < 2 ^ 63) calls.costs
    → AreWithin cells (merge call_cmp calls_added edges call calls) stacks at
within-call cells edges stacks lines at call calls is more few low = record {
  cells_fit = λ k. stays lines at (cell_total k cells) more (is.cells_fit k);
  calls_fit = λ k. rw (call_total-merge k edges call calls) (rises lines at (call_total k edges) (slice_index calls.costs k) more (is.calls_fit k) (low-at (2 ^ 63) (lit< tt) calls.costs k low));
  counts_fit = rw (count_total-merge edges call calls) (rises lines at (count_total edges) calls.count more is.counts_fit few);
  stacks_fit = stays lines at (stack_total stacks) more is.stacks_fit;
}

pub within-stack : (cells : List (CellPlace × List ℕ)) (edges : List (Call × Calls)) (stacks : List (List ℕ × ℕ)) (lines at : ℕ) (place : CellPlace) (frames : List ℕ) (count : ℕ) → AreWithin cells edges stacks lines → lines < at → count < 2 ^ 63
    → AreWithin (merge cell_cmp added cells place (trimmed (count ∷ []))) edges (merge bytes_cmp counts_added stacks frames count) at
within-stack cells edges stacks lines at place frames count is more low =
    let own = within-own cells edges stacks lines at place (trimmed (count ∷ [])) is more (low-trimmed (2 ^ 63) (count ∷ []) (All-cons (λ c. c < 2 ^ 63) count [] low (λ k d below. absurd (omega arith)))) in
    record {
      cells_fit = own.cells_fit;
      calls_fit = own.calls_fit;
      counts_fit = own.counts_fit;
      stacks_fit = rw (stack_total-merge stacks frames count) (rises lines at (stack_total stacks) count more is.stacks_fit low);
    }

-- contents of equal parts
pub content-same : (names names' : List (List ℕ)) (cells cells' : List (CellPlace × List ℕ)) (edges : List (Call × Calls)) (stacks stacks' : List (List ℕ × ℕ)) → names ≡ names' → cells ≡ cells' → stacks ≡ stacks'
    → ◌≡◌ {A = Content} (record { names = names; cells = cells; calls = edges; stacks = stacks }) (record { names = names'; cells = cells'; calls = edges; stacks = stacks' })
content-same names names' cells cells' edges stacks stacks' a b d =
    let P : List (List ℕ) → List (CellPlace × List ℕ) → List (List ℕ × ℕ) → Content = λ n c s. record { names = n; cells = c; calls = edges; stacks = s } in
    let e : P names cells stacks ≡ P names' cells' stacks' = ap (λ n. P n cells stacks) a ∙ ap (λ c. P names' c stacks) b ∙ ap (P names' cells') d in
    e

-- ---- totals, key by key

zero-at : (n k : ℕ) → slice_index (replicate n 0) k ≡ 0
zero-at zero k = refl
zero-at (suc n) zero = refl
zero-at (suc n) (suc k) = zero-at n k

-- before the first key
pub totals-start : (totals : List ℕ) (n k : ℕ) (left all : ℕ) → totals ≡ replicate n 0 → left ≡ all → slice_index totals k + left ≡ all
totals-start totals n k left all zeros same =
    ap (λ ts. slice_index ts k + left) zeros ∙ ap (λ m. m + left) (zero-at n k) ∙ (let e : 0 + left ≡ left = omega arith in e) ∙ same
