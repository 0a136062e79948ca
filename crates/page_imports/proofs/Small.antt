-- Numbers of names that have 32 bits.
use Rattle.std.proofs.Common.{◌<◌, ◌≤◌, ◌^◌, ℕ, suc, List, [], ◌∷◌, ◌++◌, fold, length, refl, sym, subst, inl, inr, arith, append_assoc, append-nil, length-append, All}
use Rattle.std.proofs.Math.ListN.{get_or-append}
use Rattle.std.proofs.Math.Nat.{lt_of_not-le}
use Rattle.std.proofs.Math.Seq.{get_or-append_seam}
use Rattle.page_places.specs.Names.{HasWideNumber}
use Rattle.plain_tables.specs.Changes.{named, next_name}
use Rattle.plain_tables.specs.Files.{all_named, number_in, numbers_in}
use Rattle.plain_tables.specs.Lists.{Has}
use Rattle.plain_tables.specs.Tables.{Tables, NameRow}
use Rattle.plain_tables.proofs.Numbering.{numbers_more}
use Rattle.page_imports.specs.Names.{GetSmallNumbers}

front_of : (xs : List ℕ) (y : ℕ) → All (λ n. n < 2 ^ 32) (xs ++ y ∷ []) → All (λ n. n < 2 ^ 32) xs
front_of xs y all = λ k d low. subst (λ n. n < 2 ^ 32) (get_or-append xs (y ∷ []) d k low) (all k d (omega (arith, low, length-append xs (y ∷ []))))

last_of : (xs : List ℕ) (y : ℕ) → All (λ n. n < 2 ^ 32) (xs ++ y ∷ []) → y < 2 ^ 32
last_of xs y all = subst (λ n. n < 2 ^ 32) (get_or-append_seam xs y [] 0) (all (length xs) 0 (omega (arith, length-append xs (y ∷ []))))

-- the last of them has one
pub last_small : (t : Tables) (names : List (List ℕ)) (name : List ℕ) → GetSmallNumbers (names ++ name ∷ []) t → number_in (named name (all_named names t)).names name < 2 ^ 32
last_small t names name all = last_of (numbers_in (all_named names t) names) _ (subst (All (λ n. n < 2 ^ 32)) (numbers_more t names name) all)

-- so have the first ones
pub front_small : (t : Tables) (front rest : List (List ℕ)) → GetSmallNumbers (front ++ rest) t → GetSmallNumbers front t
front_small t front [] all = subst (λ l. GetSmallNumbers l t) (append-nil front) all
front_small t front (name ∷ rest) all =
    let more : GetSmallNumbers (front ++ name ∷ []) t = front_small t (front ++ name ∷ []) rest (subst (λ l. GetSmallNumbers l t) (sym (append_assoc front (name ∷ []) rest)) all) in
    front_of (numbers_in (all_named front t) front) _ (subst (All (λ n. n < 2 ^ 32)) (numbers_more t front name) more)

next_small : (lines : List NameRow) (n : ℕ) → n ≤ 2 ^ 32 → ((line : NameRow) → Has lines line → line.number < 2 ^ 32) → fold (λ _ (line : NameRow). suc line.number) n lines ≤ 2 ^ 32
next_small [] n low all = low
next_small (line ∷ lines) n low all = let small = all line (inl refl) in next_small lines (suc line.number) (omega (arith, small)) (λ other there. all other (inr there))

-- where no number is wide, the next one is not much above
pub next_is_small : (t : Tables) → ¬ (HasWideNumber t) → next_name t.names ≤ 2 ^ 32
next_is_small t narrow = next_small t.names 1 (omega arith) (λ line there. not_wide line there)
  where
    not_wide : (line : NameRow) → Has t.names line → line.number < 2 ^ 32
    not_wide line there = lt_of_not-le (λ wide. narrow (record { line = line; there = there; wide = wide }))
