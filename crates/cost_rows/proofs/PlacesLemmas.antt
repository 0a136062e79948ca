-- The order of places, of cells and of calls tells them apart, and is total.
use Rattle.std.proofs.Common.{◌≡◌, ℕ, refl, ap, ◌∙◌}
use Rattle.std.specs.declared.cmp.Ordering.{Ordering}
use Rattle.std.specs.declared.cmp.Ordering.TheVariants.{Less, Equal, Greater}
use Rattle.std.specs.Cmp.{IsTotalOrder, nat_cmp_total}
use Rattle.std.specs.Ordering.{nat_cmp, ordering_then}
use Rattle.std.proofs.lemmas.Cmp.{then_total, on_total}
use Rattle.std.proofs.lemmas.Map.Lookups.{exact_unsigned}
use Rattle.cost_rows.specs.Merging.{TellsApart}
use Rattle.cost_rows.specs.Places.{place_cmp, cell_cmp, call_cmp}
use Rattle.cost_rows.specs.declared.places.Place.{Place}
use Rattle.cost_rows.specs.declared.places.CellPlace.{CellPlace}
use Rattle.cost_rows.specs.declared.places.Call.{Call}

pub both_equal : (a b : Ordering) → ordering_then a b ≡ Equal → (a ≡ Equal) × (b ≡ Equal)
both_equal Less b h = absurd (cc)
both_equal Equal b h = (refl, h)
both_equal Greater b h = absurd (cc)

same_place : (a b : Place) → a.object ≡ b.object → a.file ≡ b.file → a.function ≡ b.function → a.line ≡ b.line → a ≡ b
same_place a b object file function line =
    let P : ℕ → ℕ → ℕ → ℕ → Place = λ w x y z. record { object = w; file = x; function = y; line = z } in
    ap (λ n. P n a.file a.function a.line) object ∙ ap (λ n. P b.object n a.function a.line) file
    ∙ ap (λ n. P b.object b.file n a.line) function ∙ ap (λ n. P b.object b.file b.function n) line

place_cmp-apart : TellsApart place_cmp
place_cmp-apart a b h =
    let first = both_equal (nat_cmp a.object b.object) _ h in
    let second = both_equal (nat_cmp a.file b.file) _ first.1 in
    let third = both_equal (nat_cmp a.function b.function) (nat_cmp a.line b.line) second.1 in
    same_place a b (exact_unsigned a.object b.object first.0) (exact_unsigned a.file b.file second.0)
    (exact_unsigned a.function b.function third.0) (exact_unsigned a.line b.line third.1)

place_cmp-total : IsTotalOrder place_cmp
place_cmp-total =
    then_total (on_total (λ (p : Place). p.object) nat_cmp_total)
    (then_total (on_total (λ (p : Place). p.file) nat_cmp_total)
    (then_total (on_total (λ (p : Place). p.function) nat_cmp_total) (on_total (λ (p : Place). p.line) nat_cmp_total)))

pub cell_cmp-apart : TellsApart cell_cmp
cell_cmp-apart a b h =
    let both = both_equal (place_cmp a.place b.place) (nat_cmp a.thread b.thread) h in
    let P : Place → ℕ → CellPlace = λ p t. record { place = p; thread = t } in
    let e : P a.place a.thread ≡ P b.place b.thread = ap (λ p. P p a.thread) (place_cmp-apart a.place b.place both.0) ∙ ap (P b.place) (exact_unsigned a.thread b.thread both.1) in
    e

pub cell_cmp-total : IsTotalOrder cell_cmp
cell_cmp-total = then_total (on_total (λ (p : CellPlace). p.place) place_cmp-total) (on_total (λ (p : CellPlace). p.thread) nat_cmp_total)

same_call : (a b : Call) → a.place ≡ b.place → a.object ≡ b.object → a.file ≡ b.file → a.function ≡ b.function → a ≡ b
same_call a b place object file function =
    let P : Place → ℕ → ℕ → ℕ → Call = λ w x y z. record { place = w; object = x; file = y; function = z } in
    ap (λ n. P n a.object a.file a.function) place ∙ ap (λ n. P b.place n a.file a.function) object
    ∙ ap (λ n. P b.place b.object n a.function) file ∙ ap (λ n. P b.place b.object b.file n) function

pub call_cmp-apart : TellsApart call_cmp
call_cmp-apart a b h =
    let first = both_equal (place_cmp a.place b.place) _ h in
    let second = both_equal (nat_cmp a.object b.object) _ first.1 in
    let third = both_equal (nat_cmp a.file b.file) (nat_cmp a.function b.function) second.1 in
    same_call a b (place_cmp-apart a.place b.place first.0) (exact_unsigned a.object b.object second.0)
    (exact_unsigned a.file b.file third.0) (exact_unsigned a.function b.function third.1)

pub call_cmp-total : IsTotalOrder call_cmp
call_cmp-total =
    then_total (on_total (λ (p : Call). p.place) place_cmp-total)
    (then_total (on_total (λ (p : Call). p.object) nat_cmp_total)
    (then_total (on_total (λ (p : Call). p.file) nat_cmp_total) (on_total (λ (p : Call). p.function) nat_cmp_total)))
