-- Names found by their numbers, while further names come.
use Rattle.std.proofs.Common.{◌≡◌, inl, inr, ℕ, ◌<◌, List, [], ◌∷◌, ◌++◌, Bool, true, false, ◌||◌, ◌==◌, bytes_eq, if◌then◌else◌, refl, sym, ap, subst, ◌∙◌, arith, eqb, append_assoc, append-nil}
use Rattle.std.proofs.lemmas.Bool.Decides.{nat_tests}
use Rattle.std.proofs.lemmas.Slice.Eq.{bytes_eq-Decides}
use Rattle.std.specs.List.{list_any}
use Rattle.plain_tables.specs.Lists.{Has, IsAscending}
use Rattle.plain_tables.proofs.Lists.{all_has}
use Rattle.plain_tables.specs.Tables.{Tables, NameRow}
use Rattle.plain_tables.specs.Changes.{has_name, named, with_new_name, next_name}
use Rattle.plain_tables.specs.Files.{number_in, all_named}
use Rattle.run_stores.specs.Book.{name_of}

-- ---- numbers of names rise

abbrev pub Rising : List NameRow → Type 0
Rising = IsAscending (λ a b. a.number < b.number)

-- ---- a number's name

-- the number of a name is that of a row that stands there
has_number : (names : List NameRow) (name : List ℕ) → list_any (λ (line : NameRow). bytes_eq line.name name) names ≡ true → (line : NameRow) × Has names line × (line.number ≡ number_in names name)
has_number [] name h = absurd (let bad : false ≡ true = h in cc)
has_number (first ∷ names) name h = go (bytes_eq first.name name) h (has_number names name)
  where
    go : (b : Bool) → (b || list_any (λ (line : NameRow). bytes_eq line.name name) names) ≡ true
        → (list_any (λ (line : NameRow). bytes_eq line.name name) names ≡ true → (line : NameRow) × Has names line × (line.number ≡ number_in names name))
        → (line : NameRow) × Has (first ∷ names) line × (line.number ≡ (if b then first.number else number_in names name))
    go true is more = (first, inl refl, refl)
    go false is more = let it = more is in (it.0, inr it.1, it.2)

-- so it is held
pub number_held : (names : List NameRow) (name : List ℕ) → list_any (λ (line : NameRow). bytes_eq line.name name) names ≡ true → list_any (λ (line : NameRow). line.number == number_in names name) names ≡ true
number_held names name h = let it = has_number names name h in here names it.0 (number_in names name) it.1 it.2
  where
    same : (n m : ℕ) → n ≡ m → eqb n m ≡ true
    same n m e = grind (arith, nat_tests)

    here : (lines : List NameRow) (line : NameRow) (n : ℕ) → Has lines line → line.number ≡ n → list_any (λ (l : NameRow). l.number == n) lines ≡ true
    here [] line n there e = absurd there
    here (first ∷ lines) line n (inl is) e = ap (λ b. b || list_any (λ (l : NameRow). l.number == n) lines) (same first.number n (ap (λ (l : NameRow). l.number) (sym is) ∙ e))
    here (first ∷ lines) line n (inr later) e = go (eqb first.number n) (here lines line n later e)
      where
        go : (b : Bool) → list_any (λ (l : NameRow). l.number == n) lines ≡ true → (b || list_any (λ (l : NameRow). l.number == n) lines) ≡ true
        go true more = refl
        go false more = more

-- and leads back to the name
pub name_back : (names : List NameRow) (name : List ℕ) → Rising names → list_any (λ (line : NameRow). bytes_eq line.name name) names ≡ true → name_of names (number_in names name) ≡ name
name_back [] name up h = absurd (let bad : false ≡ true = h in cc)
name_back (first ∷ names) name up h = go (bytes_eq first.name name) refl h (name_back names name up.1)
  where
    self : (n : ℕ) → eqb n n ≡ true
    self n = grind (arith, nat_tests)

    apart : (n m : ℕ) → n < m → eqb n m ≡ false
    apart n m below = grind (arith, nat_tests)

    go : (b : Bool) → bytes_eq first.name name ≡ b → (b || list_any (λ (line : NameRow). bytes_eq line.name name) names) ≡ true
        → (list_any (λ (line : NameRow). bytes_eq line.name name) names ≡ true → name_of names (number_in names name) ≡ name)
        → (let n = if b then first.number else number_in names name in (if first.number == n then first.name else name_of names n) ≡ name)
    go true e is rest = ap (λ b. if b then first.name else name_of names first.number) (self first.number) ∙ (bytes_eq-Decides first.name name).0 e
    go false e is rest =
        let it = has_number names name is in
        let below = subst (λ m. first.number < m) it.2 (all_has (λ (l : NameRow). first.number < l.number) names it.0 up.0 it.1) in
        ap (λ b. if b then first.name else name_of names (number_in names name)) (apart first.number (number_in names name) below) ∙ rest is

-- ---- further names

pub held_more : (names more : List NameRow) (n : ℕ) → list_any (λ (line : NameRow). line.number == n) names ≡ true → list_any (λ (line : NameRow). line.number == n) (names ++ more) ≡ true
held_more [] more n h = absurd (let bad : false ≡ true = h in cc)
held_more (line ∷ names) more n h = go (eqb line.number n) h (held_more names more n)
  where
    go : (b : Bool) → (b || list_any (λ (l : NameRow). l.number == n) names) ≡ true → (list_any (λ (l : NameRow). l.number == n) names ≡ true → list_any (λ (l : NameRow). l.number == n) (names ++ more) ≡ true)
        → (b || list_any (λ (l : NameRow). l.number == n) (names ++ more)) ≡ true
    go true is rest = refl
    go false is rest = rest is

pub name_kept : (names more : List NameRow) (n : ℕ) → list_any (λ (line : NameRow). line.number == n) names ≡ true → name_of (names ++ more) n ≡ name_of names n
name_kept [] more n h = absurd (let bad : false ≡ true = h in cc)
name_kept (line ∷ names) more n h = go (eqb line.number n) h (name_kept names more n)
  where
    go : (b : Bool) → (b || list_any (λ (l : NameRow). l.number == n) names) ≡ true → (list_any (λ (l : NameRow). l.number == n) names ≡ true → name_of (names ++ more) n ≡ name_of names n)
        → (if b then line.name else name_of (names ++ more) n) ≡ (if b then line.name else name_of names n)
    go true is rest = refl
    go false is rest = rest is

-- names that are held from now on come after the others
abbrev Grown : Tables → Tables → Type 0
Grown t after = (more : List NameRow) × (after ≡ record t { names = t.names ++ more })

none_more : (t : Tables) → Grown t t
none_more t = ([], ap (λ l. let u : Tables = record t { names = l } in u) (sym (append-nil t.names)))

pub one_grown : (t : Tables) (name : List ℕ) → Grown t (named name t)
one_grown t name = go (has_name t name)
  where
    go : (b : Bool) → Grown t (if b then t else with_new_name name t)
    go true = none_more t
    go false = (record { number = next_name t.names; name = name } ∷ [], refl)

grown_then : (a b c : Tables) → Grown a b → Grown b c → Grown a c
grown_then a b c one two = (
  one.0 ++ two.0,
  two.1 ∙ ap (λ (u : Tables). let v : Tables = record u { names = u.names ++ two.0 } in v) one.1 ∙ ap (λ l. let u : Tables = record a { names = l } in u) (append_assoc a.names one.0 two.0),
)

pub all_grown : (names : List (List ℕ)) (t : Tables) → Grown t (all_named names t)
all_grown [] t = none_more t
all_grown (name ∷ names) t = grown_then t (named name t) (all_named names (named name t)) (one_grown t name) (all_grown names (named name t))
