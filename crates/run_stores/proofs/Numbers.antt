-- A name is told by its number, where names are told apart.
use Rattle.std.proofs.Common.{◌≡◌, ◌≢◌, ℕ, ◌==◌, ◌||◌, Bool, true, false, List, [], ◌∷◌, Option, Some, None, bytes_eq, if◌then◌else◌, refl, sym, ap, ◌∙◌, arith, inl, inr}
use Rattle.std.specs.List.{list_any}
use Rattle.std.proofs.lemmas.Bool.{cases_Bool}
use Rattle.std.proofs.lemmas.Bool.Decides.{nat_tests}
use Rattle.std.proofs.lemmas.Slice.Eq.{bytes_eq-Decides}
use Rattle.plain_tables.specs.Tables.{NameRow}
use Rattle.run_stores.specs.Book.{name_of, no_name, IsHeld}
use Rattle.run_stores.specs.Names.{AreApart, IsNumberOf, is_number}

-- a number that is not held has no name
pub unnamed : (names : List NameRow) (n : ℕ) → list_any (λ (line : NameRow). line.number == n) names ≡ false → name_of names n ≡ no_name
unnamed [] n none = refl
unnamed (line ∷ lines) n none = go (line.number == n) none (unnamed lines n)
  where
    go : (b : Bool) → (b || list_any (λ (l : NameRow). l.number == n) lines) ≡ false → (list_any (λ (l : NameRow). l.number == n) lines ≡ false → name_of lines n ≡ no_name)
        → (if b then line.name else name_of lines n) ≡ no_name
    go true is rest = cc
    go false is rest = rest is

differ : (a b : List ℕ) → a ≢ b → bytes_eq a b ≡ false
differ a b other = elim (cases_Bool (bytes_eq a b)) [
  | inl same ↦ absurd (other ((bytes_eq-Decides a b).0 same))
  | inr not ↦ not
]

module _ (names : List NameRow) (apart : AreApart names) (name : List ℕ) (some : name ≢ no_name) where
  one_number : (n m : ℕ) → IsHeld names n → name_of names n ≡ name → (m == n) ≡ bytes_eq (name_of names m) name
  one_number n m held is = elim (cases_Bool (m == n)) [
    | inl same ↦
        let equal : m ≡ n = grind (arith, nat_tests, same) in
        same ∙ sym ((bytes_eq-Decides (name_of names m) name).1 (ap (name_of names) equal ∙ is))
    | inr other ↦ other ∙ sym (differ (name_of names m) name (λ e. elim (cases_Bool (list_any (λ (line : NameRow). line.number == m) names)) [
      | inl there ↦
          let equal = apart m n there held (e ∙ sym is) in
          let bad : (m == n) ≡ true = grind (arith, nat_tests, equal) in
          let no : true ≡ false = sym bad ∙ other in
          cc
      | inr none ↦ some (sym e ∙ unnamed names m none)
    ]))
  ]

  -- whether a number is that of the name is whether its name is this one
  pub number_tells : (number : Option ℕ) → IsNumberOf names name number → (m : ℕ) → is_number number m ≡ bytes_eq (name_of names m) name
  number_tells (Some n) is m = one_number n m is.0 is.1
  number_tells None none m = sym (differ (name_of names m) name (none m))
