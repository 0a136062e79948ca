-- A rowid above another is above what is below that.
use Rattle.std.proofs.Common.{◌≡◌, ℤ, pos, nat_abs, ◌≤ℤ◌, Bool, true, false, cond, List, [], ◌∷◌, int_lt, int_cmp, Less, refl, subst, ◌∙◌, arith}
use Rattle.std.proofs.lemmas.Int.{ints}
use Rattle.sqlite_trees.specs.Tree.{rowid}
use Rattle.sqlite_value.specs.declared.value.Value.{Value}
use Rattle.sqlite_value.specs.declared.value.Value.TheVariants.{Int}
use Rattle.sqlite_value.specs.Order.{Row, value_cmp}
use Rattle.sqlite_value.proofs.OrderLemmas.{value_cmp-Int, value_cmp_total}
use Rattle.page_places.specs.Changes.{AreBelow}
use Rattle.line_fills.specs.Rows.{first_from}

less_of : (a b : ℤ) → int_lt a b ≡ true → int_cmp a b ≡ Less
less_of a b below = grind (arith, ints)

same_of : (a b : ℤ) → a ≤ℤ b → int_lt a b ≡ false → a ≡ b
same_of a b up not_below = grind (arith, ints)

module _ (low high : ℤ) (up : low ≤ℤ high) where
  below_raised : (v : Value) → value_cmp v (Int low) ≡ Less → value_cmp v (Int high) ≡ Less
  below_raised v below = go (int_lt low high) refl
    where
      go : (b : Bool) → int_lt low high ≡ b → value_cmp v (Int high) ≡ Less
      go true e = value_cmp_total.trans v (Int low) (Int high) below (value_cmp-Int low high ∙ less_of low high e)
      go false e = subst (λ n. value_cmp v (Int n) ≡ Less) (same_of low high up e) below

  pub all_raised : (rows : List Row) → AreBelow (Int low) rows → AreBelow (Int high) rows
  all_raised [] below = tt
  all_raised (r ∷ rows) below = (below_raised (rowid r) below.0, all_raised rows below.1)

-- the first of new rowids is not below the one that is free
pub first_above : (free : ℤ) → free ≤ℤ pos (first_from free)
first_above free = go (int_lt (pos 1) free) refl
  where
    go : (b : Bool) → int_lt (pos 1) free ≡ b → free ≤ℤ pos (nat_abs (cond b free (pos 1)))
    go true e = grind (arith, ints)
    go false e = grind (arith, ints)
