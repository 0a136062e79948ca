-- Facts on tests and filters.
use Rattle.std.proofs.Common.{◌≡◌, ◌≢◌, ℕ, Bool, true, false, ◌&&◌, ◌||◌, eqb, List, [], ◌∷◌, ◌++◌, map, filter, refl, sym, ap, ap₂, ◌∙◌, cond, inl, inr, arith}
use Rattle.std.specs.List.{list_any, AllByRecursion}
use Rattle.std.specs.Str.{bytes_eq}
use Rattle.std.proofs.lemmas.Bool.{cases_Bool}
use Rattle.std.proofs.lemmas.Bool.Decides.{nat_tests}
use Rattle.cost_rows.proofs.NamingLemmas.{same_bytes, bytes-same}

-- a test that passes all
pub filter_all : {X : Type 0} (p : X → Bool) (xs : List X) → ((x : X) → p x ≡ true) → filter p xs ≡ xs
filter_all p [] all = refl
filter_all p (x ∷ xs) all = ap (λ b. cond b (x ∷ filter p xs) (filter p xs)) (all x) ∙ ap (λ l. x ∷ l) (filter_all p xs all)

-- two tests that agree
pub filter_same : {X : Type 0} (p q : X → Bool) (xs : List X) → ((x : X) → p x ≡ q x) → filter p xs ≡ filter q xs
filter_same p q [] same = refl
filter_same p q (x ∷ xs) same = ap₂ (λ b l. cond b (x ∷ l) l) (same x) (filter_same p q xs same)

pub any-append : {X : Type 0} (p : X → Bool) (xs ys : List X) → list_any p (xs ++ ys) ≡ list_any p xs || list_any p ys
any-append p [] ys = refl
any-append p (x ∷ xs) ys = ap (λ b. p x || b) (any-append p xs ys) ∙ or-assoc (p x) (list_any p xs) (list_any p ys)
  where
    or-assoc : (a b c : Bool) → a || (b || c) ≡ (a || b) || c
    or-assoc true b c = refl
    or-assoc false b c = refl

pub or-false : (b : Bool) → b || false ≡ b
or-false true = refl
or-false false = refl

-- bytes and numbers are equal either way round
pub bytes-flip : (a b : List ℕ) → bytes_eq a b ≡ bytes_eq b a
bytes-flip a b = elim (cases_Bool (bytes_eq a b)) [
  | inl same ↦ same ∙ sym (bytes-same b a (sym (same_bytes a b same)))
  | inr other ↦ elim (cases_Bool (bytes_eq b a)) [
    | inl same ↦ absurd (let e : bytes_eq a b ≡ true = bytes-same a b (sym (same_bytes b a same)) in cc)
    | inr same ↦ other ∙ sym same
  ]
]

pub number-flip : (m n : ℕ) → eqb m n ≡ eqb n m
number-flip m n = grind (arith, nat_tests)

pub bytes-self : (a : List ℕ) → bytes_eq a a ≡ true
bytes-self a = bytes-same a a refl

pub bytes_apart : (a b : List ℕ) → a ≢ b → bytes_eq a b ≡ false
bytes_apart a b other = elim (cases_Bool (bytes_eq a b)) [ inl same ↦ absurd (other (same_bytes a b same)) | inr is ↦ is ]

-- ---- what holds of each element, and of each two

pub all_filter : {X : Type 0} (P : X → Type 0) (p : X → Bool) (xs : List X) → AllByRecursion P xs → AllByRecursion P (filter p xs)
all_filter P p [] all = tt
all_filter P p (x ∷ xs) all = go (p x) (all_filter P p xs all.1)
  where
    go : (b : Bool) → AllByRecursion P (filter p xs) → AllByRecursion P (cond b (x ∷ filter p xs) (filter p xs))
    go true rest = (all.0, rest)
    go false rest = rest

pub all_push : {X : Type 0} (P : X → Type 0) (xs ys : List X) → AllByRecursion P xs → AllByRecursion P ys → AllByRecursion P (xs ++ ys)
all_push P [] ys all last = last
all_push P (x ∷ xs) ys all last = (all.0, all_push P xs ys all.1 last)

pub all_on : {X : Type 0} (P Q : X → Type 0) (xs : List X) → ((x : X) → P x → Q x) → AllByRecursion P xs → AllByRecursion Q xs
all_on P Q [] weaker all = tt
all_on P Q (x ∷ xs) weaker all = (weaker x all.0, all_on P Q xs weaker all.1)

pub all_map : {X Y : Type 0} (P : X → Type 0) (Q : Y → Type 0) (f : X → Y) (xs : List X) → ((x : X) → P x → Q (f x)) → AllByRecursion P xs → AllByRecursion Q (map f xs)
all_map P Q f [] more all = tt
all_map P Q f (x ∷ xs) more all = (more x all.0, all_map P Q f xs more all.1)

-- what relates each element to each later one
abbrev pub Pairs : {X : Type 0} → (X → X → Type 0) → List X → Type 0
Pairs R [] = Unit {0}
Pairs R (x ∷ xs) = AllByRecursion (R x) xs × Pairs R xs

pub pairs_filter : {X : Type 0} (R : X → X → Type 0) (p : X → Bool) (xs : List X) → Pairs R xs → Pairs R (filter p xs)
pairs_filter R p [] all = tt
pairs_filter R p (x ∷ xs) all = go (p x) (pairs_filter R p xs all.1)
  where
    go : (b : Bool) → Pairs R (filter p xs) → Pairs R (cond b (x ∷ filter p xs) (filter p xs))
    go true rest = (all_filter (R x) p xs all.0, rest)
    go false rest = rest

pub pairs_push : {X : Type 0} (R : X → X → Type 0) (xs : List X) (y : X) → Pairs R xs → AllByRecursion (λ x. R x y) xs → Pairs R (xs ++ y ∷ [])
pairs_push R [] y all last = (tt, tt)
pairs_push R (x ∷ xs) y all last = (all_push (R x) xs (y ∷ []) all.0 (last.0, tt), pairs_push R xs y all.1 last.1)

-- a filter that keeps what the test finds, or none of it
pub any-filter : {X : Type 0} (test p : X → Bool) (b : Bool) (xs : List X) → ((x : X) → test x ≡ true → p x ≡ b) → list_any test (filter p xs) ≡ list_any test xs && b
any-filter test p b [] same = refl
any-filter test p b (x ∷ xs) same = go (p x) (test x) refl refl (any-filter test p b xs same)
  where
    none : (a : Bool) → a && false ≡ false
    none true = refl
    none false = refl

    go : (c d : Bool) → p x ≡ c → test x ≡ d → list_any test (filter p xs) ≡ list_any test xs && b → list_any test (cond c (x ∷ filter p xs) (filter p xs)) ≡ (d || list_any test xs) && b
    go true true kept found rest = ap (λ a. a || list_any test (filter p xs)) found ∙ (sym kept ∙ same x found)
    go true false kept found rest = ap (λ a. a || list_any test (filter p xs)) found ∙ rest
    go false true kept found rest = rest ∙ ap (λ a. list_any test xs && a) (sym (same x found) ∙ kept) ∙ none (list_any test xs) ∙ (sym kept ∙ same x found)
    go false false kept found rest = rest
