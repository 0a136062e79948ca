-- Names and their numbers: a name's number is its place among the names, in the order in which they first came.
use Rattle.std.specs.Prelude.{◌≡◌, ◌↔◌, ℕ, suc, true, List, [], ◌∷◌, fold, if◌then◌else◌, Option, Some, None, Result, Ok, Err, slice_get}
use Rattle.std.specs.Str.{bytes_eq}
use Rattle.cg_text.specs.Distinct.{are_distinct}

-- one place further on
abbrev pub further : Option ℕ → Option ℕ
further None = None
further (Some n) = Some (suc n)

-- where a name stands among names
abbrev pub place_of : List ℕ → List (List ℕ) → Option ℕ
place_of name [] = None
place_of name (first ∷ names) = if bytes_eq name first then Some 0 else further (place_of name names)

-- names, and one more at their end unless it stands among them
abbrev pub with_name : List ℕ → List (List ℕ) → List (List ℕ)
with_name name [] = name ∷ []
with_name name (first ∷ names) = if bytes_eq name first then first ∷ names else first ∷ with_name name names

-- a name gets its number among names that hold it from now on, or is refused, and they are as they were
abbrev pub GivesNumber : {E : Type 0} → List ℕ → List (List ℕ) → Result ℕ E → List (List ℕ) → Type 0
GivesNumber name old (Ok n) new = (place_of name new ≡ Some n) × (new ≡ with_name name old)
GivesNumber name old (Err e) new = new ≡ old

-- the names of a list, each once, in the order in which they first came
abbrev pub names_among : List (List ℕ) → List (List ℕ)
names_among came = fold (λ names name. with_name name names) [] came

-- equal numbers are given exactly to equal names
pub record NumbersTell (names : List (List ℕ)) : Type 0 where
  -- a number's name has that number and no other
  pub place : (name : List ℕ) (n : ℕ) → are_distinct names ≡ true → (place_of name names ≡ Some n) ↔ (slice_get names n ≡ Some name)
  -- of two names that are held, the numbers are equal exactly where the names are
  pub apart : (name other : List ℕ) (n m : ℕ) → place_of name names ≡ Some n → place_of other names ≡ Some m → (n ≡ m) ↔ (name ≡ other)

-- among more names each has the number that it had, and none stands twice
pub record KeepsNumbers (names more : List (List ℕ)) : Type 0 where
  pub kept : (name : List ℕ) (n : ℕ) → place_of name names ≡ Some n → place_of name more ≡ Some n
  pub distinct : are_distinct names ≡ true → are_distinct more ≡ true
