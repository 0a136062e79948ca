-- The order of rows, and the rows of sums.
use Rattle.std.proofs.Common.{◌≡◌, ℕ, Bool, true, false, refl, sym, ap₂}
use Rattle.std.specs.Cmp.{IsTotalOrder, nat_cmp_total, bool_cmp_total}
use Rattle.std.specs.Ordering.{nat_cmp, bool_cmp}
use Rattle.std.specs.declared.cmp.Ordering.TheVariants.{Equal}
use Rattle.std.proofs.lemmas.Cmp.{then_total, on_total, back_total}
use Rattle.std.proofs.lemmas.Map.Lookups.{exact_unsigned}
use Rattle.cost_rows.specs.Sums.{Spot}
use Rattle.cost_rows.specs.Keys.{named_cmp}
use Rattle.cost_rows.proofs.KeysLemmas.{named_cmp-total, named_cmp-apart}
use Rattle.cost_rows.proofs.PlacesLemmas.{both_equal}
use Rattle.report_texts.specs.Calls.{call_cmp}
use Rattle.report_texts.specs.Differences.{difference_cmp}
use Rattle.report_texts.specs.KeyReports.{rank_cmp}
use Rattle.report_texts.specs.declared.pairs.Pair.{Pair}
use Rattle.report_texts.specs.declared.signed.Signed.{Signed}

pub rank_cmp-total : IsTotalOrder rank_cmp
rank_cmp-total = then_total (on_total (λ (e : Spot × ℕ). e.1) (back_total nat_cmp_total)) (on_total (λ (e : Spot × ℕ). e.0) named_cmp-total)

pub rank_cmp-apart : (a b : Spot × ℕ) → rank_cmp a b ≡ Equal → a ≡ b
rank_cmp-apart a b h =
    let both = both_equal (nat_cmp b.1 a.1) (named_cmp a.0 b.0) h in
    let part : a.0 ≡ b.0 = named_cmp-apart a.0 b.0 both.1 in
    let cost : a.1 ≡ b.1 = sym (exact_unsigned b.1 a.1 both.0) in
    let pair : Spot → ℕ → Spot × ℕ = λ p n. (p, n) in
    ap₂ pair part cost

abbrev entry : {X : Type 0} → Spot → X → Spot × X
entry p x = (p, x)

pub difference_cmp-total : IsTotalOrder difference_cmp
difference_cmp-total =
    then_total (on_total (λ (e : Spot × Signed). e.1.size) (back_total nat_cmp_total))
    (then_total (on_total (λ (e : Spot × Signed). e.0) named_cmp-total) (on_total (λ (e : Spot × Signed). e.1.below) bool_cmp_total))

one_sign : (a b : Bool) → bool_cmp a b ≡ Equal → a ≡ b
one_sign true true h = refl
one_sign true false h = absurd cc
one_sign false true h = absurd cc
one_sign false false h = refl

pub difference_cmp-apart : (a b : Spot × Signed) → difference_cmp a b ≡ Equal → a ≡ b
difference_cmp-apart a b h =
    let first = both_equal (nat_cmp b.1.size a.1.size) _ h in
    let second = both_equal (named_cmp a.0 b.0) (bool_cmp a.1.below b.1.below) first.1 in
    let part : a.0 ≡ b.0 = named_cmp-apart a.0 b.0 second.0 in
    let size : a.1.size ≡ b.1.size = sym (exact_unsigned b.1.size a.1.size first.0) in
    let below : a.1.below ≡ b.1.below = one_sign a.1.below b.1.below second.1 in
    let number : ℕ → Bool → Signed = λ n s. record { size = n; below = s } in
    ap₂ entry part (ap₂ number size below)

pub call_cmp-total : IsTotalOrder call_cmp
call_cmp-total =
    then_total (on_total (λ (e : Spot × Pair). e.1.first) (back_total nat_cmp_total))
    (then_total (on_total (λ (e : Spot × Pair). e.0) named_cmp-total) (on_total (λ (e : Spot × Pair). e.1.second) nat_cmp_total))

pub call_cmp-apart : (a b : Spot × Pair) → call_cmp a b ≡ Equal → a ≡ b
call_cmp-apart a b h =
    let first = both_equal (nat_cmp b.1.first a.1.first) _ h in
    let second = both_equal (named_cmp a.0 b.0) (nat_cmp a.1.second b.1.second) first.1 in
    let part : a.0 ≡ b.0 = named_cmp-apart a.0 b.0 second.0 in
    let cost : a.1.first ≡ b.1.first = sym (exact_unsigned b.1.first a.1.first first.0) in
    let count : a.1.second ≡ b.1.second = exact_unsigned a.1.second b.1.second second.1 in
    let sum : ℕ → ℕ → Pair = λ m n. record { first = m; second = n } in
    ap₂ entry part (ap₂ sum cost count)
