-- The order of places by names is total, and tells them apart.
use Rattle.std.proofs.Common.{◌≡◌, ℕ, List, ap, ◌∙◌}
use Rattle.std.specs.Cmp.{IsTotalOrder, nat_cmp_total}
use Rattle.std.specs.Cmp.Lexicographic.{nat_list_cmp_total}
use Rattle.std.specs.Ordering.{nat_cmp}
use Rattle.std.proofs.lemmas.Cmp.{then_total, on_total}
use Rattle.std.proofs.lemmas.Map.Lookups.{exact_bytes, exact_unsigned}
use Rattle.cost_rows.specs.Sums.{Spot}
use Rattle.cost_rows.specs.Keys.{named_cmp}
use Rattle.cost_rows.specs.Merging.{TellsApart}
use Rattle.cost_rows.specs.Stacks.{bytes_cmp}
use Rattle.cost_rows.proofs.PlacesLemmas.{both_equal}

pub named_cmp-total : IsTotalOrder named_cmp
named_cmp-total =
    then_total (on_total (λ (p : Spot). p.object) nat_list_cmp_total)
    (then_total (on_total (λ (p : Spot). p.file) nat_list_cmp_total)
    (then_total (on_total (λ (p : Spot). p.function) nat_list_cmp_total)
    (then_total (on_total (λ (p : Spot). p.line) nat_cmp_total) (on_total (λ (p : Spot). p.thread) nat_cmp_total))))

same_named : (a b : Spot) → a.object ≡ b.object → a.file ≡ b.file → a.function ≡ b.function → a.line ≡ b.line → a.thread ≡ b.thread → a ≡ b
same_named a b object file function line thread =
    let P : List ℕ → List ℕ → List ℕ → ℕ → ℕ → Spot = λ w x y z t. record { object = w; file = x; function = y; line = z; thread = t } in
    ap (λ n. P n a.file a.function a.line a.thread) object ∙ ap (λ n. P b.object n a.function a.line a.thread) file
    ∙ ap (λ n. P b.object b.file n a.line a.thread) function ∙ ap (λ n. P b.object b.file b.function n a.thread) line
    ∙ ap (λ n. P b.object b.file b.function b.line n) thread

pub named_cmp-apart : TellsApart named_cmp
named_cmp-apart a b h =
    let first = both_equal (bytes_cmp a.object b.object) _ h in
    let second = both_equal (bytes_cmp a.file b.file) _ first.1 in
    let third = both_equal (bytes_cmp a.function b.function) _ second.1 in
    let fourth = both_equal (nat_cmp a.line b.line) (nat_cmp a.thread b.thread) third.1 in
    same_named a b (exact_bytes a.object b.object first.0) (exact_bytes a.file b.file second.0)
    (exact_bytes a.function b.function third.0) (exact_unsigned a.line b.line fourth.0) (exact_unsigned a.thread b.thread fourth.1)
