-- The order of parts by number, and what costs at parts add up to.
use Rattle.std.proofs.Common.{inl, inr, ◌≡◌, ℕ, ◌+◌, true, false, List, nat_eq, refl, ap, ◌∙◌}
use Rattle.std.specs.Cmp.{IsTotalOrder, nat_cmp_total}
use Rattle.std.specs.Ordering.{nat_cmp}
use Rattle.std.proofs.lemmas.Bool.{cases_Bool, eqb-true}
use Rattle.std.proofs.lemmas.Cmp.{then_total, on_total}
use Rattle.std.proofs.lemmas.Map.Lookups.{exact_unsigned}
use Rattle.cost_rows.specs.Merging.{TellsApart}
use Rattle.cost_rows.specs.Stacks.{counts_added}
use Rattle.cost_rows.proofs.MergeLemmas.{sum-merge}
use Rattle.cost_rows.proofs.PlacesLemmas.{both_equal}
use Rattle.selected_runs.specs.Sums.{numbers_cmp, numbers_total, numbers_with}
use Rattle.selected_runs.specs.declared.parts.NumberPart.{NumberPart}

same_part : (a b : NumberPart) → a.object ≡ b.object → a.file ≡ b.file → a.function ≡ b.function → a.line ≡ b.line → a.thread ≡ b.thread → a ≡ b
same_part a b object file function line thread =
    let P : ℕ → ℕ → ℕ → ℕ → ℕ → NumberPart = λ w x y z t. record { object = w; file = x; function = y; line = z; thread = t } in
    ap (λ n. P n a.file a.function a.line a.thread) object ∙ ap (λ n. P b.object n a.function a.line a.thread) file
    ∙ ap (λ n. P b.object b.file n a.line a.thread) function ∙ ap (λ n. P b.object b.file b.function n a.thread) line
    ∙ ap (λ n. P b.object b.file b.function b.line n) thread

pub numbers_cmp_apart : TellsApart numbers_cmp
numbers_cmp_apart a b h =
    let first = both_equal (nat_cmp a.object b.object) _ h in
    let second = both_equal (nat_cmp a.file b.file) _ first.1 in
    let third = both_equal (nat_cmp a.function b.function) _ second.1 in
    let fourth = both_equal (nat_cmp a.line b.line) (nat_cmp a.thread b.thread) third.1 in
    same_part a b (exact_unsigned a.object b.object first.0) (exact_unsigned a.file b.file second.0)
    (exact_unsigned a.function b.function third.0) (exact_unsigned a.line b.line fourth.0) (exact_unsigned a.thread b.thread fourth.1)

pub numbers_cmp_total : IsTotalOrder numbers_cmp
numbers_cmp_total =
    then_total (on_total (λ (p : NumberPart). p.object) nat_cmp_total)
    (then_total (on_total (λ (p : NumberPart). p.file) nat_cmp_total)
    (then_total (on_total (λ (p : NumberPart). p.function) nat_cmp_total)
    (then_total (on_total (λ (p : NumberPart). p.line) nat_cmp_total) (on_total (λ (p : NumberPart). p.thread) nat_cmp_total))))

-- ---- a row's cost

pub is_some : (n : ℕ) → (n ≡ 0 → ⊥) → nat_eq n 0 ≡ false
is_some n some = elim (cases_Bool (nat_eq n 0)) [
  | inl none ↦ absurd (some (eqb-true n 0 none))
  | inr other ↦ other
]

-- the sum of all grows by what is added
pub total_with : (part : NumberPart) (cost : ℕ) (es : List (NumberPart × ℕ)) → numbers_total (numbers_with part cost es) ≡ numbers_total es + cost
total_with part cost es = sum-merge numbers_cmp_apart counts_added (λ _. true) (λ n. n) (λ x y. refl) es part cost
