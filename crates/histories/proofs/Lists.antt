-- Lists that rise, and lists with the same elements.
use Rattle.std.proofs.Common.{◌≡◌, ℕ, suc, ◌+◌, Bool, true, false, ◌||◌, List, [], ◌∷◌, map, length, slice_index_or, refl, sym, ap, ap₂, subst, ◌∙◌, inl, inr, arith}
use Rattle.std.specs.List.{list_any, AllByRecursion, AllAdjacentBelow}
use Rattle.std.specs.Ordering.{nat_cmp, ordering_reverse}
use Rattle.std.specs.Cmp.Lexicographic.{slice_cmp}
use Rattle.std.specs.declared.cmp.Ordering.{Ordering}
use Rattle.std.specs.declared.cmp.Ordering.TheVariants.{Less, Equal, Greater}
use Rattle.std.specs.Str.{bytes_eq}
use Rattle.std.proofs.lemmas.Bool.{or_cases, cases_Bool}
use Rattle.std.proofs.lemmas.Cmp.{tied_itself}
use Rattle.std.proofs.lemmas.Map.Lookups.{exact_bytes}
use Rattle.cost_rows.proofs.NamingLemmas.{bytes-same}
use Rattle.cost_rows.proofs.StacksLemmas.{bytes_cmp-total}
use Rattle.histories.specs.Texts.{placed, among, rising}
use Rattle.histories.proofs.Tests.{Pairs, all_on, all_map}

-- ---- each element is before the next, so before each later one

module _ {X : Type 0} (R : X → X → Type 0) (trans : (x y z : X) → R x y → R y z → R x z) where
  next_of : (x : X) (xs : List X) → AllAdjacentBelow R (x ∷ xs) (length (x ∷ xs)) → AllAdjacentBelow R xs (length xs)
  next_of x xs up k d low =
      let e : suc k + 1 ≡ suc (k + 1) = omega arith in
      let h : R (slice_index_or (x ∷ xs) (suc k) d) (slice_index_or (x ∷ xs) (suc k + 1) d) = up (suc k) d (omega arith) in
      subst (λ j. R (slice_index_or xs k d) (slice_index_or (x ∷ xs) j d)) e h

  first_of : (x y : X) (xs : List X) → AllAdjacentBelow R (x ∷ y ∷ xs) (length (x ∷ y ∷ xs)) → R x y
  first_of x y xs up = up 0 x (omega arith)

  pub pairs_of : (xs : List X) → AllAdjacentBelow R xs (length xs) → Pairs R xs
  pairs_of [] up = tt
  pairs_of (x ∷ []) up = (tt, tt)
  pairs_of (x ∷ y ∷ xs) up =
      let rest = pairs_of (y ∷ xs) (next_of x (y ∷ xs) up) in
      let first = first_of x y xs up in
      ((first, all_on (R y) (R x) xs (λ z below. trans x y z first below) rest.0), rest)

pub pairs_map : {X Y : Type 0} (R : X → X → Type 0) (S : Y → Y → Type 0) (f : X → Y) (xs : List X) → ((x y : X) → R x y → S (f x) (f y)) → Pairs R xs → Pairs S (map f xs)
pairs_map R S f [] same up = tt
pairs_map R S f (x ∷ xs) same up = (all_map (R x) (S (f x)) f xs (same x) up.0, pairs_map R S f xs same up.1)

-- ---- lists that rise and have the same elements are equal

module _ {K : Type 0} (eq : K → K → Bool) (yes : (a b : K) → eq a b ≡ true → a ≡ b) (R : K → K → Type 0) (self : (a : K) → eq a a ≡ true) (irreflexive : (a : K) → R a a → ⊥) (trans : (a b c : K) → R a b → R b c → R a c) where
  abbrev has : K → List K → Bool
  has k ks = list_any (λ j. eq j k) ks

  has_all : (P : K → Type 0) (k : K) (ks : List K) → AllByRecursion P ks → has k ks ≡ true → P k
  has_all P k [] all there = absurd cc
  has_all P k (j ∷ ks) all there = elim (or_cases (eq j k) (has k ks) there) [ inl here ↦ subst P (yes j k here) all.0 | inr later ↦ has_all P k ks all.1 later ]

  none_below : (k : K) (ks : List K) → AllByRecursion (R k) ks → has k ks ≡ false
  none_below k ks above = elim (cases_Bool (has k ks)) [ inl there ↦ absurd (irreflexive k (has_all (R k) k ks above there)) | inr none ↦ none ]

  heads_same : (x y : K) (xs ys : List K) → AllByRecursion (R x) xs → AllByRecursion (R y) ys → ((k : K) → has k (x ∷ xs) ≡ has k (y ∷ ys)) → x ≡ y
  heads_same x y xs ys above_x above_y same =
      let x_there : eq y x || has x ys ≡ true = sym (same x) ∙ ap (λ b. b || has x xs) (self x) in
      let y_there : eq x y || has y xs ≡ true = same y ∙ ap (λ b. b || has y ys) (self y) in
      elim (or_cases (eq y x) (has x ys) x_there) [
        | inl e ↦ sym (yes y x e)
        | inr below ↦ elim (or_cases (eq x y) (has y xs) y_there) [
          | inl e ↦ yes x y e
          | inr above ↦ absurd (irreflexive x (trans x y x (has_all (R x) y xs above_x above) (has_all (R y) x ys above_y below)))
        ]
      ]

  rest_same : (x : K) (xs ys : List K) → AllByRecursion (R x) xs → AllByRecursion (R x) ys → ((k : K) → has k (x ∷ xs) ≡ has k (x ∷ ys)) → (k : K) → has k xs ≡ has k ys
  rest_same x xs ys above_x above_y same k = go (eq x k) refl (same k)
    where
      go : (b : Bool) → eq x k ≡ b → b || has k xs ≡ b || has k ys → has k xs ≡ has k ys
      go true e s = let is : x ≡ k = yes x k e in subst (λ j. has j xs ≡ has j ys) is (none_below x xs above_x ∙ sym (none_below x ys above_y))
      go false e s = s

  pub same_rising : (xs ys : List K) → Pairs R xs → Pairs R ys → ((k : K) → has k xs ≡ has k ys) → xs ≡ ys
  same_rising [] [] up_x up_y same = refl
  same_rising [] (y ∷ ys) up_x up_y same = absurd (let e : false ≡ (eq y y || has y ys) = same y in let s = self y in let t : (eq y y || has y ys) ≡ true = ap (λ b. b || has y ys) s in cc)
  same_rising (x ∷ xs) [] up_x up_y same = absurd (let e : (eq x x || has x xs) ≡ false = same x in let s = self x in let t : (eq x x || has x xs) ≡ true = ap (λ b. b || has x xs) s in cc)
  same_rising (x ∷ xs) (y ∷ ys) up_x up_y same =
      let head : x ≡ y = heads_same x y xs ys up_x.0 up_y.0 same in
      let above : AllByRecursion (R x) ys = subst (λ z. AllByRecursion (R z) ys) (sym head) up_y.0 in
      let both : (k : K) → has k (x ∷ xs) ≡ has k (x ∷ ys) = λ k. same k ∙ ap (λ z. eq z k || has k ys) (sym head) in
      ap₂ ◌∷◌ head (same_rising xs ys up_x.1 up_y.1 (rest_same x xs ys up_x.0 above both))

-- ---- names by their bytes

abbrev pub Before : List ℕ → List ℕ → Type 0
Before a b = slice_cmp nat_cmp a b ≡ Less

pub before_trans : (a b c : List ℕ) → Before a b → Before b c → Before a c
before_trans = bytes_cmp-total.trans

pub before_irreflexive : (a : List ℕ) → Before a a → ⊥
before_irreflexive a is = let e = tied_itself bytes_cmp-total a in cc

-- a name goes to its place
any_among : (p : List ℕ → Bool) (name : List ℕ) (names : List (List ℕ)) → list_any p (among name names) ≡ p name || list_any p names
any_among p name [] = refl
any_among p name (other ∷ names) = go (slice_cmp nat_cmp name other) (any_among p name names)
  where
    swap : (a b c : Bool) → a || (b || c) ≡ b || (a || c)
    swap true true c = refl
    swap true false c = refl
    swap false b c = refl

    go : (o : Ordering) → list_any p (among name names) ≡ p name || list_any p names → list_any p (placed o name other (among name names) names) ≡ p name || (p other || list_any p names)
    go Less rest = refl
    go Equal rest = refl
    go Greater rest = ap (λ b. p other || b) rest ∙ swap (p other) (p name) (list_any p names)

all_among : (P : List ℕ → Type 0) (name : List ℕ) (names : List (List ℕ)) → P name → AllByRecursion P names → AllByRecursion P (among name names)
all_among P name [] one all = (one, tt)
all_among P name (other ∷ names) one all = go (slice_cmp nat_cmp name other) (all_among P name names one all.1)
  where
    go : (o : Ordering) → AllByRecursion P (among name names) → AllByRecursion P (placed o name other (among name names) names)
    go Less rest = (one, all)
    go Equal rest = (one, all)
    go Greater rest = (all.0, rest)

up_among : (name : List ℕ) (names : List (List ℕ)) → Pairs Before names → AllByRecursion (λ other. bytes_eq name other ≡ false) names → Pairs Before (among name names)
up_among name [] up apart = (tt, tt)
up_among name (other ∷ names) up apart = go (slice_cmp nat_cmp name other) refl (up_among name names up.1 apart.1)
  where
    go : (o : Ordering) → slice_cmp nat_cmp name other ≡ o → Pairs Before (among name names) → Pairs Before (placed o name other (among name names) names)
    go Less is rest = ((is, all_on (Before other) (Before name) names (λ later below. before_trans name other later is below) up.0), up)
    go Equal is rest = absurd (let e : bytes_eq name other ≡ true = bytes-same name other (exact_bytes name other is) in let f : bytes_eq name other ≡ false = apart.0 in cc)
    go Greater is rest = (all_among (Before other) name names (bytes_cmp-total.antisymm other name ∙ ap ordering_reverse is) up.0, rest)

pub any_rising : (p : List ℕ → Bool) (names : List (List ℕ)) → list_any p (rising names) ≡ list_any p names
any_rising p [] = refl
any_rising p (name ∷ names) = any_among p name (rising names) ∙ ap (λ b. p name || b) (any_rising p names)

all_rising : (P : List ℕ → Type 0) (names : List (List ℕ)) → AllByRecursion P names → AllByRecursion P (rising names)
all_rising P [] all = tt
all_rising P (name ∷ names) all = all_among P name (rising names) all.0 (all_rising P names all.1)

pub up_rising : (names : List (List ℕ)) → Pairs (λ a b. bytes_eq a b ≡ false) names → Pairs Before (rising names)
up_rising [] apart = tt
up_rising (name ∷ names) apart = up_among name (rising names) (up_rising names apart.1) (all_rising (λ other. bytes_eq name other ≡ false) names apart.0)
