-- Membership, and lists that are mapped and filtered.
use Rattle.std.proofs.Common.{◌≡◌, inl, inr, List, [], ◌∷◌, ◌++◌, map, filter, Bool, true, false, cond, refl, sym, ap, subst, ◌∙◌}
use Rattle.std.proofs.lemmas.Bool.{or_cases}
use Rattle.std.specs.List.{AllByRecursion, list_any}
use Rattle.plain_tables.specs.Lists.{Has}

pub map-append : {A B : Type 0} (f : A → B) (xs ys : List A) → map f (xs ++ ys) ≡ map f xs ++ map f ys
map-append f [] ys = refl
map-append f (x ∷ xs) ys = ap (λ l. f x ∷ l) (map-append f xs ys)

module _ {X : Type 0} where
  -- ---- of all of them

  pub all-append : (P : X → Type 0) (xs ys : List X) → AllByRecursion P xs → AllByRecursion P ys → AllByRecursion P (xs ++ ys)
  all-append P [] ys all more = more
  all-append P (x ∷ xs) ys all more = (all.0, all-append P xs ys all.1 more)

  pub all_has : (P : X → Type 0) (xs : List X) (x : X) → AllByRecursion P xs → Has xs x → P x
  all_has P [] x all there = absurd there
  all_has P (y ∷ ys) x all (inl same) = subst P (sym same) all.0
  all_has P (y ∷ ys) x all (inr later) = all_has P ys x all.1 later

  -- ---- of one of them

  pub some_has : (p : X → Bool) (xs : List X) → list_any p xs ≡ true → (x : X) × Has xs x × (p x ≡ true)
  some_has p [] is = absurd cc
  some_has p (y ∷ ys) is = elim (or_cases _ _ is) [ inl here ↦ (y, inl refl, here) | inr later ↦ let one = some_has p ys later in (one.0, inr one.1, one.2) ]

  -- ---- filtered

  pub has_kept : (p : X → Bool) (xs : List X) (x : X) → Has (filter p xs) x → Has xs x × (p x ≡ true)
  has_kept p [] x there = absurd there
  has_kept p (y ∷ ys) x there = go (p y) refl there (has_kept p ys x)
    where
      go : (b : Bool) → p y ≡ b → Has (cond b (y ∷ filter p ys) (filter p ys)) x → (Has (filter p ys) x → Has ys x × (p x ≡ true)) → Has (y ∷ ys) x × (p x ≡ true)
      go true is (inl same) more = (inl same, ap p same ∙ is)
      go true is (inr later) more = let it = more later in (inr it.0, it.1)
      go false is later more = let it = more later in (inr it.0, it.1)

  pub kept_has : (p : X → Bool) (xs : List X) (x : X) → Has xs x → p x ≡ true → Has (filter p xs) x
  kept_has p [] x there is = absurd there
  kept_has p (y ∷ ys) x (inl same) is = subst (λ b. Has (cond b (y ∷ filter p ys) (filter p ys)) x) (sym (ap p (sym same) ∙ is)) (inl same)
  kept_has p (y ∷ ys) x (inr later) is = go (p y) (kept_has p ys x later is)
    where
      go : (b : Bool) → Has (filter p ys) x → Has (cond b (y ∷ filter p ys) (filter p ys)) x
      go true more = inr more
      go false more = more

  pub filter_same_on : (p q : X → Bool) (xs : List X) → ((x : X) → Has xs x → p x ≡ q x) → filter p xs ≡ filter q xs
  filter_same_on p q [] same = refl
  filter_same_on p q (x ∷ xs) same =
      ap (λ b. cond b (x ∷ filter p xs) (filter p xs)) (same x (inl refl)) ∙ ap (λ l. cond (q x) (x ∷ l) l) (filter_same_on p q xs (λ y later. same y (inr later)))
