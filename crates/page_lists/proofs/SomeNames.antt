-- The names of some numbers.
use Rattle.std.proofs.Common.{◌≡◌, ◌≤◌, ◌<◌, ◌^◌, ◌↔◌, ℕ, suc, ℤ, pos, negsuc, ◌<ℤ◌, Bool, true, false, ◌||◌, eqb, List, [], ◌∷◌, map, filter, take, get_or, refl, sym, ap, ap₂, subst, subst₂, ◌∙◌, inl, inr, arith, int_eq}
use Rattle.std.specs.List.{AllByRecursion, AllPairs, AllZip, list_all, list_any}
use Rattle.std.specs.List.Sorted.{IsNonDecreasing}
use Rattle.std.proofs.lemmas.Bool.{and_parts, and_from, cases_Bool, cases_lt, ne_eqb, true≢false}
use Rattle.std.proofs.lemmas.Int.{ints}
use Rattle.std.proofs.lemmas.List.Elements.{All-from_recursion}
use Rattle.std.proofs.lemmas.List.Kept.{AllPairs-cons}
use Rattle.sqlite_value.specs.declared.value.Value.TheVariants.{Int}
use Rattle.sqlite_value.specs.Order.{Row, column}
use Rattle.plain_tables.specs.Tables.{NameRow}
use Rattle.prof_store.specs.Names.{SaysName, SayNames, number_read}
use Rattle.prof_store.specs.Tables.{number}
use Rattle.run_stores.specs.Book.{name_of, IsHeld}
use Rattle.run_stores.specs.Names.{AreAmong}
use Rattle.page_lists.specs.Among.{Rise, id_of, integer, is_among}

-- the number is one of these, as a rowid
abbrev pub is_one_of : List ℕ → ℕ → Bool
is_one_of numbers m = list_any (λ n. int_eq (pos m) (pos n)) numbers

-- the names of these numbers
abbrev pub names_of : List ℕ → List NameRow → List NameRow
names_of numbers names = filter (λ (line : NameRow). is_one_of numbers line.number) names

-- the name has this number
abbrev has : ℕ → NameRow → Bool
has n line = eqb line.number n

-- ---- rows of these numbers

negative : (k n : ℕ) → int_eq (negsuc k) (pos n) ≡ false
negative k n = grind (arith, ints)

none_negative : (k : ℕ) (numbers : List ℕ) → list_any (λ n. int_eq (negsuc k) (pos n)) numbers ≡ false
none_negative k [] = refl
none_negative k (n ∷ numbers) = rw (negative k n) (none_negative k numbers)

apart : (m n : ℕ) → 2 ^ 64 ≤ m → n < 2 ^ 64 → int_eq (pos m) (pos n) ≡ false
apart m n high low = grind (arith, ints, high, low)

none_far : (m : ℕ) → 2 ^ 64 ≤ m → (numbers : List ℕ) → ((k : ℕ) → get_or numbers k 0 < 2 ^ 64) → is_one_of numbers m ≡ false
none_far m high [] low = refl
none_far m high (n ∷ numbers) low = rw (apart m n high (low 0)) (none_far m high numbers (λ k. low (suc k)))

module _ (numbers : List ℕ) (low : (k : ℕ) → get_or numbers k 0 < 2 ^ 64) where
  module _ (far : ℕ → ℕ) (is_far : (n : ℕ) → 2 ^ 64 ≤ far n) where
    -- a row is picked with its line: a negative number is none of these, and its line's number is too great
    with_line : (row : Row) (line : NameRow) → SaysName far row line → is_among numbers row ≡ is_one_of numbers line.number
    with_line row line says = ap (λ v. list_any (λ n. int_eq (integer v) (pos n)) numbers) says.has_id ∙ go says.id line.number says.number_is
      where
        go : (id : ℤ) (m : ℕ) → number_read far id ≡ m → list_any (λ n. int_eq id (pos n)) numbers ≡ is_one_of numbers m
        go (pos n) m is = ap (is_one_of numbers) is
        go (negsuc n) m is = none_negative n numbers ∙ sym (none_far m (subst (λ i. 2 ^ 64 ≤ i) is (is_far n)) numbers low)

    all_picked : (rows : List Row) (names : List NameRow) → AllZip (SaysName far) rows names → AllZip (SaysName far) (filter (is_among numbers) rows) (names_of numbers names)
    all_picked [] [] all = tt
    all_picked [] (line ∷ names) all = absurd all
    all_picked (row ∷ rows) [] all = absurd all
    all_picked (row ∷ rows) (line ∷ names) all = elim (cases_Bool (is_one_of numbers line.number)) [
      | inl one ↦ (let here : is_among numbers row ≡ true = with_line row line all.0 ∙ one in rw (here, one) (all.0, all_picked rows names all.1))
      | inr other ↦ (let here : is_among numbers row ≡ false = with_line row line all.0 ∙ other in rw (here, other) (all_picked rows names all.1))
    ]

  -- the rows that are picked say the names of these numbers
  pub names_picked : (rows : List Row) (names : List NameRow) → SayNames rows names → SayNames (filter (is_among numbers) rows) (names_of numbers names)
  names_picked rows names say = record { far = say.far; is_far = say.is_far; said = all_picked say.far say.is_far rows names say.said }

-- ---- the names that a test of numbers keeps

module _ (p : ℕ → Bool) where
  abbrev kept : List NameRow → List NameRow
  kept names = filter (λ (line : NameRow). p line.number) names

  other_number : (m n : ℕ) → p n ≡ true → p m ≡ false → eqb m n ≡ false
  other_number m n is other = ne_eqb m n (λ same. true≢false (sym is ∙ ap p (sym same) ∙ other))

  held_kept : (n : ℕ) → p n ≡ true → (names : List NameRow) → list_any (has n) (kept names) ≡ list_any (has n) names
  held_kept n is [] = refl
  held_kept n is (line ∷ names) = elim (cases_Bool (p line.number)) [
    | inl one ↦ rw one (ap (λ b. eqb line.number n || b) (held_kept n is names))
    | inr other ↦ rw (other, other_number line.number n is other) (held_kept n is names)
  ]

  name_kept : (n : ℕ) → p n ≡ true → (names : List NameRow) → name_of (kept names) n ≡ name_of names n
  name_kept n is [] = refl
  name_kept n is (line ∷ names) = elim (cases_Bool (p line.number)) [
    | inl one ↦ rw one (elim (cases_Bool (eqb line.number n)) [ inl here ↦ rw here refl | inr later ↦ rw later (name_kept n is names) ])
    | inr other ↦ rw (other, other_number line.number n is other) (name_kept n is names)
  ]

  none_kept : (n : ℕ) → p n ≡ false → (names : List NameRow) → list_any (has n) (kept names) ≡ false
  none_kept n not [] = refl
  none_kept n not (line ∷ names) = elim (cases_Bool (p line.number)) [
    | inl one ↦ rw (one, ne_eqb line.number n (λ same. true≢false (sym one ∙ ap p same ∙ not))) (none_kept n not names)
    | inr other ↦ rw other (none_kept n not names)
  ]

-- ---- of numbers

same_number : (n : ℕ) → int_eq (pos n) (pos n) ≡ true
same_number n = grind (arith, ints)

pub all_one_of : (numbers more : List ℕ) → ((n : ℕ) → is_one_of numbers n ≡ true → is_one_of more n ≡ true) → AllByRecursion (λ n. is_one_of more n ≡ true) numbers
all_one_of [] more has_more = tt
all_one_of (n ∷ numbers) more has_more =
    (has_more n (rw (same_number n) refl), all_one_of numbers more (λ m one. has_more m (rw one (or_true (int_eq (pos m) (pos n))))))
  where
    or_true : (b : Bool) → (b || true) ≡ true
    or_true true = refl
    or_true false = refl

pub each_one_of : (numbers : List ℕ) → AllByRecursion (λ n. is_one_of numbers n ≡ true) numbers
each_one_of numbers = all_one_of numbers numbers (λ n one. one)

pub are_among : (numbers : List ℕ) (names : List NameRow) → AreAmong numbers names (names_of numbers names)
are_among numbers names = record { same = same; whole = whole numbers (each_one_of numbers) }
  where
    same : (n : ℕ) → IsHeld (names_of numbers names) n → IsHeld names n × (name_of (names_of numbers names) n ≡ name_of names n)
    same n held = elim (cases_Bool (is_one_of numbers n)) [
      | inl one ↦ (sym (held_kept (is_one_of numbers) n one names) ∙ held, name_kept (is_one_of numbers) n one names)
      | inr other ↦ absurd (true≢false (sym held ∙ none_kept (is_one_of numbers) n other names))
    ]

    whole : (some : List ℕ) → AllByRecursion (λ n. is_one_of numbers n ≡ true) some → AllByRecursion (λ n. IsHeld names n → IsHeld (names_of numbers names) n) some
    whole [] one = tt
    whole (n ∷ some) one = ((λ held. held_kept (is_one_of numbers) n one.0 names ∙ held), whole some one.1)

-- ---- the numbers alone

abbrev pub number_of : NameRow → ℕ
number_of line = line.number

any_number : (n : ℕ) (names : List NameRow) → list_any (λ m. eqb m n) (map number_of names) ≡ list_any (has n) names
any_number n [] = refl
any_number n (line ∷ names) = ap (λ b. eqb line.number n || b) (any_number n names)

-- a row whose first column was read has this number as its rowid
id_read : (row : Row) (n : ℕ) → take 1 row ≡ number n ∷ [] → column row 0 ≡ Int (pos n)
id_read [] n is = absurd cc
id_read (v ∷ row) n is = ap (λ r. column r 0) is

-- numbers that were read of rows are those of the names that they say
pub numbers_are : (rows : List Row) (names : List NameRow) → SayNames rows names → (found : List ℕ) → map (λ n. number n ∷ []) found ≡ map (take 1) rows → found ≡ map number_of names
numbers_are rows names say found is = go rows names say.said found is
  where
    same : (row : Row) (line : NameRow) → SaysName say.far row line → (n : ℕ) → take 1 row ≡ number n ∷ [] → n ≡ line.number
    same row line says n is =
        let ids : Int (pos n) ≡ Int says.id = sym (id_read row n is) ∙ says.has_id in
        let id_is : pos n ≡ says.id = cc in
        ap (number_read say.far) id_is ∙ says.number_is

    go : (rows : List Row) (names : List NameRow) → AllZip (SaysName say.far) rows names → (found : List ℕ) → map (λ n. number n ∷ []) found ≡ map (take 1) rows → found ≡ map number_of names
    go [] [] all [] is = refl
    go [] [] all (n ∷ found) is = absurd cc
    go [] (line ∷ names) all found is = absurd all
    go (row ∷ rows) [] all found is = absurd all
    go (row ∷ rows) (line ∷ names) all [] is = absurd cc
    go (row ∷ rows) (line ∷ names) all (n ∷ found) is =
        let here : take 1 row ≡ number n ∷ [] = cc in
        let later : map (λ m. number m ∷ []) found ≡ map (take 1) rows = cc in
        ap₂ ◌∷◌ (same row line all.0 n here) (go rows names all.1 found later)

-- each number is among them just where its name is held
pub all_held : (numbers : List ℕ) (names : List NameRow) (found : List ℕ) → found ≡ map number_of (names_of numbers names)
    → (list_all (λ n. list_any (λ m. eqb m n) found) numbers ≡ true) ↔ AllByRecursion (IsHeld names) numbers
all_held numbers names found is = (to numbers (each_one_of numbers), back numbers (each_one_of numbers))
  where
    here : (n : ℕ) → is_one_of numbers n ≡ true → list_any (λ m. eqb m n) found ≡ list_any (has n) names
    here n one = ap (list_any (λ m. eqb m n)) is ∙ any_number n (names_of numbers names) ∙ held_kept (is_one_of numbers) n one names

    to : (some : List ℕ) → AllByRecursion (λ n. is_one_of numbers n ≡ true) some → list_all (λ n. list_any (λ m. eqb m n) found) some ≡ true → AllByRecursion (IsHeld names) some
    to [] one all = tt
    to (n ∷ some) one all = let parts = and_parts _ _ all in (sym (here n one.0) ∙ parts.0, to some one.1 parts.1)

    back : (some : List ℕ) → AllByRecursion (λ n. is_one_of numbers n ≡ true) some → AllByRecursion (IsHeld names) some → list_all (λ n. list_any (λ m. eqb m n) found) some ≡ true
    back [] one all = refl
    back (n ∷ some) one all = and_from _ _ (here n one.0 ∙ all.0) (back some one.1 all.1)

-- ---- in order

all_kept : (P : Row → Type 0) (p : Row → Bool) (rows : List Row) → AllByRecursion P rows → AllByRecursion P (filter p rows)
all_kept P p [] all = tt
all_kept P p (row ∷ rows) all = elim (cases_Bool (p row)) [ inl one ↦ rw one (all.0, all_kept P p rows all.1) | inr other ↦ rw other (all_kept P p rows all.1) ]

pub kept_rise : (p : Row → Bool) (rows : List Row) → Rise rows → Rise (filter p rows)
kept_rise p [] rise = tt
kept_rise p (row ∷ rows) rise = elim (cases_Bool (p row)) [ inl one ↦ rw one (all_kept (λ other. id_of row <ℤ id_of other) p rows rise.0, kept_rise p rows rise.1) | inr other ↦ rw other (kept_rise p rows rise.1) ]

less_of : (m n : ℕ) → pos m <ℤ pos n → m < n
less_of m n less = omega (arith, ints)

numbers_above : (n : ℕ) (row : Row) → id_of row ≡ pos n → (rows : List Row) (found : List ℕ) → map (λ m. number m ∷ []) found ≡ map (take 1) rows → AllByRecursion (λ other. id_of row <ℤ id_of other) rows
    → AllByRecursion (λ m. n < m) found
numbers_above n row first [] [] is above = tt
numbers_above n row first [] (m ∷ found) is above = absurd cc
numbers_above n row first (other ∷ rows) [] is above = tt
numbers_above n row first (other ∷ rows) (m ∷ found) is above =
    let here : take 1 other ≡ number m ∷ [] = cc in
    let later : map (λ k. number k ∷ []) found ≡ map (take 1) rows = cc in
    (less_of n m (subst₂ (λ a b. a <ℤ b) first (ap integer (id_read other m here)) above.0), numbers_above n row first rows found later above.1)

pairs_rise : (rows : List Row) (found : List ℕ) → map (λ n. number n ∷ []) found ≡ map (take 1) rows → Rise rows → AllPairs (λ m n. m < n) found
pairs_rise rows [] is rise = λ i j d less inside. absurd (omega (arith, inside))
pairs_rise [] (n ∷ found) is rise = absurd cc
pairs_rise (row ∷ rows) (n ∷ found) is rise =
    let here : take 1 row ≡ number n ∷ [] = cc in
    let later : map (λ k. number k ∷ []) found ≡ map (take 1) rows = cc in
    AllPairs-cons (λ m n. m < n) n found (All-from_recursion (λ m. n < m) found (numbers_above n row (ap integer (id_read row n here)) rows found later rise.0)) (pairs_rise rows found later rise.1)

not_falling : (xs : List ℕ) → AllPairs (λ m n. m < n) xs → IsNonDecreasing xs
not_falling xs up i j d le inside = elim (cases_lt i j) [
  | inl less ↦ (let below = up i j d less inside in omega (arith, below))
  | inr over ↦ (let same : i ≡ j = omega (arith, le, over) in let here : get_or xs i d ≡ get_or xs j d = ap (λ k. get_or xs k d) same in omega (arith, here))
]

-- so those that were found rise
pub found_rise : (numbers : List ℕ) (rows : List Row) (found : List ℕ) → map (λ n. number n ∷ []) found ≡ map (take 1) (filter (is_among numbers) rows) → Rise rows → IsNonDecreasing found
found_rise numbers rows found is rise = not_falling found (pairs_rise (filter (is_among numbers) rows) found is (kept_rise (is_among numbers) rows rise))
