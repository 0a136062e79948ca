-- What is below the next is below all that follow.
use Rattle.std.proofs.Common.{◌≡◌, ◌<◌, ℕ, suc, List, [], ◌∷◌, get_or, length, Less, arith}
use Rattle.std.specs.List.{AllByRecursion}
use Rattle.plain_tables.specs.Lists.{IsAscending}
use Rattle.sqlite_value.specs.Order.{Row, row_cmp}
use Rattle.sqlite_value.proofs.OrderLemmas.{row_cmp_total}

module _ (key : ℕ → Row) where
  farther : (a b : ℕ) → row_cmp (key a) (key b) ≡ Less → (places : List ℕ) → AllByRecursion (λ c. row_cmp (key b) (key c) ≡ Less) places → AllByRecursion (λ c. row_cmp (key a) (key c) ≡ Less) places
  farther a b low [] all = tt
  farther a b low (c ∷ places) all = (row_cmp_total.trans (key a) (key b) (key c) low all.0, farther a b low places all.1)

  pub rise_from_next : (places : List ℕ) → ((j : ℕ) → suc j < length places → row_cmp (key (get_or places j 0)) (key (get_or places (suc j) 0)) ≡ Less) → IsAscending (λ a b. row_cmp (key a) (key b) ≡ Less) places
  rise_from_next [] next = tt
  rise_from_next (a ∷ []) next = (tt, tt)
  rise_from_next (a ∷ b ∷ places) next =
      let more = rise_from_next (b ∷ places) (λ j low. next (suc j) (omega (arith, low))) in
      let low = next 0 (omega arith) in
      ((low, farther a b low places more.0), more)
