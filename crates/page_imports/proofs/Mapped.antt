-- Columns of lines, and the one row with the next number.
use Rattle.std.proofs.Common.{◌≡◌, ℕ, List, [], ◌∷◌, map, refl, ap}
use Rattle.std.specs.Ordering.{match_ordering}
use Rattle.std.proofs.lemmas.Cmp.{tied_itself}
use Rattle.sqlite_trees.specs.Tree.{put_row}
use Rattle.sqlite_value.proofs.OrderLemmas.{value_cmp_total}
use Rattle.prof_store.specs.Tables.{meta_columns, number}

-- the columns of lines, as plain data or as they are
pub mapped_twice : {X Y Z : Type 0} (f : Y → Z) (g : X → Y) (xs : List X) → map (λ x. f (g x)) xs ≡ map f (map g xs)
mapped_twice f g [] = refl
mapped_twice f g (x ∷ xs) = ap (λ l. f (g x) ∷ l) (mapped_twice f g xs)

-- the one row that has the next number is replaced
pub next_put : (m n : ℕ) → put_row (meta_columns n) (meta_columns m ∷ []) ≡ meta_columns n ∷ []
next_put m n = ap (λ o. match_ordering o (meta_columns m ∷ meta_columns n ∷ []) (meta_columns n ∷ []) (meta_columns n ∷ meta_columns m ∷ [])) (tied_itself value_cmp_total (number 1))
