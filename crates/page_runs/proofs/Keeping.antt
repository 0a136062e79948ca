-- A map that gets one value more: what is said of each value, and the sum over them.
use Rattle.std.proofs.Common.{◌≡◌, ◌≤◌, ◌+◌, ℕ, option_map, sum_by, unwrap_or, sym, subst, arith}
use Rattle.std.proofs.lemmas.Cmp.{nat_cmp_total}
use Rattle.std.proofs.lemmas.Map.Entries.{sum_by-insert_entry}
use Rattle.std.specs.BTreeMap.{BTreeMap, IsOrdered, insert_entry, is_at, values}
use Rattle.std.specs.Map.{lookup, values_of}
use Rattle.std.specs.Ordering.{nat_cmp}

module _ {V : Type 0} (old new : BTreeMap ℕ V) (key : ℕ) (value : V) where
  pub sum_with : (f : V → ℕ) → new.entries ≡ insert_entry nat_cmp old.entries key value → IsOrdered nat_cmp old → sum_by f (values new) ≤ sum_by f (values old) + f value
  sum_with f is ordered =
      let sums = sum_by-insert_entry f nat_cmp_total old.entries key value ordered in
      let there = subst (λ es. sum_by f (values_of es) + unwrap_or (option_map f (lookup (is_at (nat_cmp key)) old.entries)) 0 ≡ sum_by f (values_of old.entries) + f value) (sym is) sums in
      omega (arith, there)
