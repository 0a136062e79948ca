-- The number that was found of a name, as the trait of stores says it.
use Rattle.std.proofs.Common.{◌≡◌, ◌≢◌, ◌≤◌, ◌<◌, ◌<ℤ◌, ◌^◌, ◌||◌, ℕ, ℤ, pos, negsuc, eqb, Bool, true, false, if◌then◌else◌, Some, None, Option, IfSome, List, [], ◌∷◌, bytes_eq, refl, sym, ap, subst, ◌∙◌, inl, inr, arith}
use Rattle.std.specs.List.{AllByRecursion, AllZip, list_any}
use Rattle.std.proofs.lemmas.Bool.{ne_eqb, or_parts}
use Rattle.std.proofs.lemmas.Bool.Decides.{nat_tests}
use Rattle.std.proofs.lemmas.Int.{ints}
use Rattle.std.proofs.lemmas.Slice.Eq.{bytes_eq-Decides}
use Rattle.plain_tables.specs.Files.{number_in}
use Rattle.plain_tables.specs.Tables.{Tables, NameRow}
use Rattle.run_stores.specs.Book.{name_of, no_name, IsHeld}
use Rattle.run_stores.specs.Names.{IsNumberOf}
use Rattle.plain_tables.specs.Lists.{Has}
use Rattle.plain_tables.proofs.Lists.{all_has}
use Rattle.sqlite_value.specs.Order.{Row}
use Rattle.prof_store.specs.Names.{SaysName, SayNames, number_if_held, number_read}
use Rattle.prof_store.proofs.Names.{is_held, not_held, row_of_name}
use Rattle.run_lists.proofs.NumbersOfNames.{IsOther, none_named}
use Rattle.page_lists.specs.Among.{Rise, id_of, integer}

module _ (far : ℕ → ℕ) (is_far : (n : ℕ) → 2 ^ 64 ≤ far n) (n : ℕ) (low : n < 2 ^ 64) where
  -- a row has the number itself that its line has, where a command has it
  id_is : (row : Row) (line : NameRow) → SaysName far row line → line.number ≡ n → id_of row ≡ pos n
  id_is row line says numbered = ap integer says.has_id ∙ go says.id (says.number_is ∙ numbered)
    where
      go : (id : ℤ) → number_read far id ≡ n → id ≡ pos n
      go (pos m) is = ap pos is
      go (negsuc m) is = let high : 2 ^ 64 ≤ n = subst (λ k. 2 ^ 64 ≤ k) is (is_far m) in absurd (omega (arith, high, low))

  -- rowids rise, and so it is the number of one line alone
  number_held : (rows : List Row) (names : List NameRow) → AllZip (SaysName far) rows names → Rise rows → (line : NameRow) → Has names line → line.number ≡ n → IsHeld names n × (name_of names n ≡ line.name)
  number_held [] [] all rise line there is = absurd there
  number_held [] (first ∷ names) all rise line there is = absurd all
  number_held (row ∷ rows) [] all rise line there is = absurd all
  number_held (row ∷ rows) (first ∷ names) all rise line (inl same) is =
      let here : eqb first.number n ≡ true = (let numbered : first.number ≡ n = ap (λ (l : NameRow). l.number) (sym same) ∙ is in grind (arith, nat_tests, numbered)) in
      rw here (refl, ap (λ (l : NameRow). l.name) (sym same))
  number_held (row ∷ rows) (first ∷ names) all rise line (inr later) is =
      let (other, has, says) = row_of_name far rows names all.1 line later in
      let above : id_of row <ℤ id_of other = all_has (λ r. id_of row <ℤ id_of r) rows other rise.0 has in
      let apart : eqb first.number n ≡ false = ne_eqb first.number n (λ same. not_above (id_of row) (id_of other) (id_is row first all.0 same ∙ sym (id_is other line says is)) above) in
      rw apart (number_held rows names all.1 rise.1 line later is)
    where
      not_above : (x y : ℤ) → x ≡ y → x <ℤ y → ⊥
      not_above x y same less = omega (arith, ints, same, less)

-- the first line of a name has its number
first_line : (name : List ℕ) (names : List NameRow) → list_any (λ (line : NameRow). bytes_eq line.name name) names ≡ true → (line : NameRow) × Has names line × (line.name ≡ name) × (line.number ≡ number_in names name)
first_line name [] held = absurd cc
first_line name (line ∷ names) held = go (bytes_eq line.name name) refl held (first_line name names)
  where
    go : (b : Bool) → bytes_eq line.name name ≡ b → (b || list_any (λ (l : NameRow). bytes_eq l.name name) names) ≡ true
        → (list_any (λ (l : NameRow). bytes_eq l.name name) names ≡ true → (found : NameRow) × Has names found × (found.name ≡ name) × (found.number ≡ number_in names name))
        → (found : NameRow) × Has (line ∷ names) found × (found.name ≡ name) × (found.number ≡ (if b then line.number else number_in names name))
    go true is here more = (line, inl refl, (bytes_eq-Decides line.name name).0 is, refl)
    go false is here more = let (found, has, named, numbered) = more here in (found, inr has, named, numbered)

others : (name : List ℕ) (names : List NameRow) → list_any (λ (line : NameRow). bytes_eq line.name name) names ≡ false → AllByRecursion (IsOther name) names
others name [] none = tt
others name (line ∷ names) none =
    let parts = or_parts (bytes_eq line.name name) (list_any (λ (l : NameRow). bytes_eq l.name name) names) none in
    ((λ same. let is = (bytes_eq-Decides line.name name).1 same in let no : false ≡ true = sym parts.0 ∙ is in cc), others name names parts.1)

-- the number of a name that is held has it, where a command has the number, and where none is held no number has it
pub is_number : (t : Tables) (name : List ℕ) → name ≢ no_name → (rows : List Row) → Rise rows → SayNames rows t.names → (found : Option ℕ) → IfSome found (λ n. n < 2 ^ 64) → found ≡ number_if_held t name → IsNumberOf t.names name found
is_number t name some rows rise say (Some n) low is =
    let held = is_held t name n is in
    let (line, has, named, numbered) = first_line name t.names held.0 in
    let (there, under) = number_held say.far say.is_far n low rows t.names say.said rise line has (numbered ∙ sym held.1) in
    (there, under ∙ named)
is_number t name some rows rise say None low is = none_named name some t.names (others name t.names (not_held t name is))
