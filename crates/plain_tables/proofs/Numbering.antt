-- A name that is held keeps its number while further names come.
use Rattle.std.proofs.Common.{◌≡◌, ℕ, List, [], ◌∷◌, ◌++◌, Bool, true, false, ◌||◌, bytes_eq, if◌then◌else◌, refl, ap, ap₂, ◌∙◌}
use Rattle.std.specs.List.{AllByRecursion, list_any}
use Rattle.std.proofs.lemmas.List.Sums.{fold-append}
use Rattle.std.proofs.lemmas.Slice.Eq.{bytes_eq-Decides}
use Rattle.plain_tables.proofs.Lists.{map-append}
use Rattle.plain_tables.specs.Tables.{Tables, NameRow}
use Rattle.plain_tables.specs.Changes.{has_name, named, with_new_name, next_name}
use Rattle.plain_tables.specs.Files.{number_in, all_named, numbers_in}

bytes_same : (name : List ℕ) → bytes_eq name name ≡ true
bytes_same name = (bytes_eq-Decides name name).1 refl

-- a row more
any_more : (name : List ℕ) (lines : List NameRow) (new : NameRow) → list_any (λ (line : NameRow). bytes_eq line.name name) lines ≡ true → list_any (λ (line : NameRow). bytes_eq line.name name) (lines ++ new ∷ []) ≡ true
any_more name [] new h = cc
any_more name (line ∷ lines) new h = go (bytes_eq line.name name) h (any_more name lines new)
  where
    go : (b : Bool) → (b || list_any (λ (l : NameRow). bytes_eq l.name name) lines) ≡ true → (list_any (λ (l : NameRow). bytes_eq l.name name) lines ≡ true → list_any (λ (l : NameRow). bytes_eq l.name name) (lines ++ new ∷ []) ≡ true)
        → (b || list_any (λ (l : NameRow). bytes_eq l.name name) (lines ++ new ∷ [])) ≡ true
    go true is more = refl
    go false is more = more is

any_last : (name : List ℕ) (lines : List NameRow) (new : NameRow) → bytes_eq new.name name ≡ true → list_any (λ (line : NameRow). bytes_eq line.name name) (lines ++ new ∷ []) ≡ true
any_last name [] new h = ap (λ b. b || false) h
any_last name (line ∷ lines) new h = go (bytes_eq line.name name) (any_last name lines new h)
  where
    go : (b : Bool) → list_any (λ (l : NameRow). bytes_eq l.name name) (lines ++ new ∷ []) ≡ true → (b || list_any (λ (l : NameRow). bytes_eq l.name name) (lines ++ new ∷ [])) ≡ true
    go true more = refl
    go false more = more

number_stays : (name : List ℕ) (lines : List NameRow) (new : NameRow) → list_any (λ (line : NameRow). bytes_eq line.name name) lines ≡ true → number_in (lines ++ new ∷ []) name ≡ number_in lines name
number_stays name [] new h = absurd (let bad : false ≡ true = h in cc)
number_stays name (line ∷ lines) new h = go (bytes_eq line.name name) h (number_stays name lines new)
  where
    go : (b : Bool) → (b || list_any (λ (l : NameRow). bytes_eq l.name name) lines) ≡ true → (list_any (λ (l : NameRow). bytes_eq l.name name) lines ≡ true → number_in (lines ++ new ∷ []) name ≡ number_in lines name)
        → (if b then line.number else number_in (lines ++ new ∷ []) name) ≡ (if b then line.number else number_in lines name)
    go true is more = refl
    go false is more = more is

-- ---- names are held from now on

pub named_held : (t : Tables) (name : List ℕ) → has_name t name ≡ true → named name t ≡ t
named_held t name h = ap (λ b. if b then t else with_new_name name t) h

pub named_new : (t : Tables) (name : List ℕ) → has_name t name ≡ false → named name t ≡ with_new_name name t
named_new t name h = ap (λ b. if b then t else with_new_name name t) h

pub has_new : (t : Tables) (name : List ℕ) → has_name (with_new_name name t) name ≡ true
has_new t name = any_last name t.names (record { number = next_name t.names; name = name }) (bytes_same name)

has_named : (t : Tables) (name : List ℕ) → has_name (named name t) name ≡ true
has_named t name = go (has_name t name) refl
  where
    go : (b : Bool) → has_name t name ≡ b → has_name (named name t) name ≡ true
    go true e = ap (λ (u : Tables). has_name u name) (named_held t name e) ∙ e
    go false e = ap (λ (u : Tables). has_name u name) (named_new t name e) ∙ has_new t name

still_has : (t : Tables) (name other : List ℕ) → has_name t name ≡ true → has_name (named other t) name ≡ true
still_has t name other h = go (has_name t other)
  where
    go : (b : Bool) → has_name (if b then t else with_new_name other t) name ≡ true
    go true = h
    go false = any_more name t.names (record { number = next_name t.names; name = other }) h

number_kept : (t : Tables) (name other : List ℕ) → has_name t name ≡ true → number_in (named other t).names name ≡ number_in t.names name
number_kept t name other h = go (has_name t other)
  where
    go : (b : Bool) → (let u : Tables = if b then t else with_new_name other t in number_in u.names name ≡ number_in t.names name)
    go true = refl
    go false = number_stays name t.names (record { number = next_name t.names; name = other }) h

-- each of these names is held
abbrev pub AllHeld : Tables → List (List ℕ) → Type 0
AllHeld t = AllByRecursion (λ name. has_name t name ≡ true)

still_all : (t : Tables) (name : List ℕ) (names : List (List ℕ)) → has_name t name ≡ true → has_name (all_named names t) name ≡ true
still_all t name [] h = h
still_all t name (other ∷ names) h = still_all (named other t) name names (still_has t name other h)

pub all_held : (t : Tables) (names : List (List ℕ)) → AllHeld (all_named names t) names
all_held t [] = tt
all_held t (name ∷ names) = (still_all (named name t) name names (has_named t name), all_held (named name t) names)

numbers_kept : (t : Tables) (names : List (List ℕ)) (other : List ℕ) → AllHeld t names → numbers_in (named other t) names ≡ numbers_in t names
numbers_kept t [] other h = refl
numbers_kept t (name ∷ names) other h = ap₂ ◌∷◌ (number_kept t name other h.0) (numbers_kept t names other h.1)

-- one name more
pub one_named : (t : Tables) (names : List (List ℕ)) (name : List ℕ) → all_named (names ++ name ∷ []) t ≡ named name (all_named names t)
one_named t names name = fold-append (λ known other. named other known) t names (name ∷ [])

pub numbers_more : (t : Tables) (names : List (List ℕ)) (name : List ℕ)
    → numbers_in (all_named (names ++ name ∷ []) t) (names ++ name ∷ []) ≡ numbers_in (all_named names t) names ++ number_in (named name (all_named names t)).names name ∷ []
numbers_more t names name =
    let next = named name (all_named names t) in
    ap (λ (u : Tables). numbers_in u (names ++ name ∷ [])) (one_named t names name) ∙ map-append (number_in next.names) names (name ∷ [])
    ∙ ap (λ l. l ++ number_in next.names name ∷ []) (numbers_kept (all_named names t) names name (all_held t names))
