-- A sorted list that has the rows of a rising one is that one.
use Rattle.std.proofs.Common.{◌≡◌, ◌+◌, ◌<◌, false, List, [], ◌∷◌, map, length, sym, subst₂, arith, IsPermutation, IsSorted}
use Rattle.std.specs.Cmp.{IsTotalOrder}
use Rattle.std.specs.List.Sorted.{IsSortedByKey}
use Rattle.std.specs.Ordering.{is_lt}
use Rattle.std.specs.declared.cmp.Ordering.{Ordering}
use Rattle.std.specs.declared.cmp.Ordering.TheVariants.{Less}
use Rattle.std.proofs.lemmas.Cmp.{nat_cmp_total, nat_list_cmp_total, on_total, then_total}
use Rattle.std.proofs.lemmas.List.{get_or-map, length-map}
use Rattle.std.proofs.lemmas.List.Sorted.{IsPermutation-sym}
use Rattle.sqlite_keyed.proofs.SortLemmas.{sorted_unique}
use Rattle.sqlite_trees.specs.Tree as trees
use Rattle.plain_tables.specs.Lists.{IsAscending}
use Rattle.plain_tables.specs.Tables.{GroupRow, MemberRow}
use Rattle.run_lists.specs.InOrder.{group_cmp, member_cmp}

ascends : {X : Type 0} (R : X → X → Type 0) (xs : List X) → IsAscending R xs → trees.IsAscending R xs
ascends R [] up = tt
ascends R (x ∷ xs) up = (up.0, ascends R xs up.1)

module _ {T X : Type 0} (row : T → X) (cmp : X → X → Ordering) where
  rows_sorted : (xs : List T) → IsSortedByKey row cmp xs → IsSorted cmp (map row xs)
  rows_sorted [] up = λ k d low high. absurd (omega (arith, high))
  rows_sorted (x ∷ xs) up = λ k d low high.
      let long : length (map row (x ∷ xs)) ≡ length (x ∷ xs) = length-map (x ∷ xs) row in
      let inside : k + 1 < length (x ∷ xs) = omega (arith, high, long) in
      let at : k < length (x ∷ xs) = omega (arith, inside) in
      subst₂ (λ a b. is_lt (cmp a b) ≡ false) (sym (get_or-map row (x ∷ xs) (k + 1) x d inside)) (sym (get_or-map row (x ∷ xs) k x d at)) (up k x (omega arith) inside)

  -- sorted by their rows, they have these rows, in order
  pub sorted_is : IsTotalOrder cmp → (xs : List T) (ys : List X) → IsSortedByKey row cmp xs → IsAscending (λ a b. cmp a b ≡ Less) ys → IsPermutation (map row xs) ys → map row xs ≡ ys
  sorted_is total xs ys up below moved = sorted_unique cmp total ys (map row xs) (ascends (λ a b. cmp a b ≡ Less) ys below) (IsPermutation-sym (map row xs) ys moved) (rows_sorted xs up)

pub group_cmp_total : IsTotalOrder group_cmp
group_cmp_total = on_total (λ (g : GroupRow). g.name) nat_list_cmp_total

pub member_cmp_total : IsTotalOrder member_cmp
member_cmp_total = then_total (on_total (λ (m : MemberRow). m.group) nat_list_cmp_total) (on_total (λ (m : MemberRow). m.run) nat_cmp_total)

-- groups sorted by name that have the rows of groups whose names rise
pub groups_are : {T : Type 0} (row : T → GroupRow) (xs : List T) (ys : List GroupRow) → IsSortedByKey row group_cmp xs → IsAscending (λ a b. group_cmp a b ≡ Less) ys → IsPermutation (map row xs) ys → map row xs ≡ ys
groups_are row = sorted_is row group_cmp group_cmp_total

-- members sorted by group and run that have the rows of members that rise so
pub members_are : {T : Type 0} (row : T → MemberRow) (xs : List T) (ys : List MemberRow) → IsSortedByKey row member_cmp xs → IsAscending (λ a b. member_cmp a b ≡ Less) ys → IsPermutation (map row xs) ys → map row xs ≡ ys
members_are row = sorted_is row member_cmp member_cmp_total
