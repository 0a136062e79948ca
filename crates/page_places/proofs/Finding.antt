-- The number of a name, found in the index of names.
use Rattle.std.proofs.Common.{◌≡◌, ◌≤◌, ◌<◌, ◌^◌, ℕ, ℤ, pos, negsuc, Bool, true, false, List, [], ◌∷◌, ◌++◌, map, filter, Option, Some, None, Ordering, Less, Equal, Greater, is_eq, is_lt, if◌then◌else◌, bytes_eq, refl, sym, ap, ap₂, subst, ◌∙◌, inl, inr, arith}
use Rattle.std.proofs.lemmas.Bool.{true≢false}
use Rattle.std.proofs.lemmas.Bool.Decides.{leb_tells}
use Rattle.std.proofs.lemmas.Map.Text.{is_eq-slice_cmp}
use Rattle.std.proofs.lemmas.Slice.Eq.{bytes_eq-Decides}
use Rattle.sqlite_value.specs.declared.value.Value.TheVariants.{Int, Blob}
use Rattle.sqlite_value.specs.Keys.{entry_cmp, first_key, plain}
use Rattle.sqlite_value.specs.Order.{Row}
use Rattle.sqlite_value.proofs.KeyLemmas.{tied_no_text}
use Rattle.sqlite_value.proofs.OrderLemmas.{then-Equal, value_cmp-Blob}
use Rattle.sqlite_trees.specs.Tree.{IsIndex, Trees}
use Rattle.sqlite_rules.specs.Lists.{Has}
use Rattle.sqlite_rules.proofs.ListLemmas.{some_has}
use Rattle.sqlite_rules.proofs.ProbeLemmas.{has_mapped, mapped_has}
use Rattle.sqlite_sql.specs.Catalog.{entry_of}
use Rattle.sql_tables.proofs.Queries.{has_permuted}
use Rattle.std.proofs.lemmas.List.Sorted.{IsPermutation-sym}
use Rattle.page_rows.specs.Indexes.{begins_with, from_entry}
use Rattle.page_rows.proofs.Prefixes.{begins_itself, first_begins, none_begins}
use Rattle.plain_tables.specs.Changes.{has_name}
use Rattle.plain_tables.specs.Files.{number_in}
use Rattle.plain_tables.specs.Tables.{Tables, NameRow}
use Rattle.plain_tables.specs.declared.errors.StoreError.{StoreError}
use Rattle.plain_tables.specs.declared.errors.StoreError.TheVariants.{Store}
use Rattle.prof_store.specs.Names.{SaysName, number_if_held, number_read}
use Rattle.prof_store.specs.Tables.{number}
use Rattle.prof_store.proofs.Names.{line_named, name_of_row, row_of_name}
use Rattle.page_rows.specs.Walks.{MayRefuse}
use Rattle.page_places.specs.Stores.{HoldsNames}
use Rattle.page_places.specs.Names.{EndsAt, HasWideNumber, IsRefused}

is_tied : (o : Ordering) → is_eq o ≡ true → o ≡ Equal
is_tied Less tie = absurd (true≢false (sym tie))
is_tied Equal tie = refl
is_tied Greater tie = absurd (true≢false (sym tie))

-- an entry that begins with some bytes has them in its first column
begins_with_bytes : (a b : List ℕ) (rest : Row) → begins_with plain (Blob b ∷ []) (Blob a ∷ rest) ≡ true → a ≡ b
begins_with_bytes a b rest begins =
    let tie = tied_no_text (first_key plain) (Blob a) (Blob b) (λ e. omega arith) (sym (then-Equal _) ∙ is_tied _ begins) in
    (bytes_eq-Decides a b).0 (sym (is_eq-slice_cmp a b) ∙ ap is_eq (sym (value_cmp-Blob a b) ∙ tie))

abbrev entry_under : ℤ → List ℕ → Row
entry_under id name = Blob name ∷ Int id ∷ []

-- an entry that stands for a row that says a line
record IsOfLine (far : ℕ → ℕ) (entry : Row) (line : NameRow) : Type 0 where
  pub id : ℤ
  pub number_is : number_read far id ≡ line.number
  pub entry_is : entry ≡ entry_under id line.name

-- a row that a test takes is left by the filter
kept_by : (p : Row → Bool) (rows : List Row) (row : Row) → Has rows row → p row ≡ true → filter p rows ≡ [] → ⊥
kept_by p [] row there is none = there
kept_by p (first ∷ rows) row (inl same) is none = step (p first) refl none
  where
    step : (b : Bool) → p first ≡ b → (if b then first ∷ filter p rows else filter p rows) ≡ [] → ⊥
    step true e empty = cc
    step false e empty = true≢false (sym is ∙ ap p same ∙ e)
kept_by p (first ∷ rows) row (inr later) is none = step (p first) none (kept_by p rows row later is)
  where
    step : (b : Bool) → (if b then first ∷ filter p rows else filter p rows) ≡ [] → (filter p rows ≡ [] → ⊥) → ⊥
    step true empty more = cc
    step false empty more = more empty

-- the entry that was refused
refused_one : (entries : List Row) (e : StoreError) → MayRefuse IsRefused entries e → (entry : Row) × Has entries entry × IsRefused entry e
refused_one [] e may = absurd may
refused_one (entry ∷ entries) e (inl here) = (entry, inl refl, here)
refused_one (entry ∷ entries) e (inr later) = let (one, there, is) = refused_one entries e later in (one, inr there, is)

from_has : (from : Row) (entries : List Row) (row : Row) → Has (from_entry plain from entries) row → Has entries row
from_has from [] row there = there
from_has from (e ∷ entries) row there = step (is_lt (entry_cmp plain e from)) there (from_has from entries row)
  where
    step : (b : Bool) → Has (if b then from_entry plain from entries else e ∷ entries) row → (Has (from_entry plain from entries) row → Has entries row) → Has (e ∷ entries) row
    step true h more = inr (more h)
    step false h more = h

module _ (t : Tables) (now : Trees) (holds : HoldsNames t now) (name : List ℕ) where
  abbrev far : ℕ → ℕ
  far = holds.names_are.far

  -- the entry of a row
  of_row : (row : Row) (line : NameRow) → SaysName far row line → IsOfLine far (entry_of (2 ∷ []) row) line
  of_row row line says = record { id = says.id; number_is = says.number_is; entry_is = ap₂ (λ v w. v ∷ w ∷ []) says.has_bytes says.has_id }

  -- each line has its entry
  entry_there : (line : NameRow) → Has t.names line → (entry : Row) × Has (now 12) entry × IsOfLine far entry line
  entry_there line there =
      let (row, has, says) = row_of_name far (now 11) t.names holds.names_are.said line there in
      (entry_of (2 ∷ []) row, has_permuted (now 12) (map (entry_of (2 ∷ [])) (now 11)) (entry_of (2 ∷ []) row) (IsPermutation-sym _ _ holds.sound.obeys.indexed.1.1.1.1.1.1.0) (mapped_has (entry_of (2 ∷ [])) (now 11) row has), of_row row line says)

  -- and each entry its line
  line_there : (entry : Row) → Has (now 12) entry → (line : NameRow) × Has t.names line × IsOfLine far entry line
  line_there entry there =
      let (row, has, is) = has_mapped (entry_of (2 ∷ [])) (now 11) entry (has_permuted (map (entry_of (2 ∷ [])) (now 11)) (now 12) entry holds.sound.obeys.indexed.1.1.1.1.1.1.0 there) in
      let (line, held, says) = name_of_row far (now 11) t.names holds.names_are.said row has in
      (line, held, subst (λ e. IsOfLine far e line) (sym is) (of_row row line says))

  -- where no entry begins with the name it is not held
  not_there : filter (begins_with plain (Blob name ∷ [])) (now 12) ≡ [] → None ≡ number_if_held t name
  not_there none = go (has_name t name) refl
    where
      go : (b : Bool) → has_name t name ≡ b → None ≡ (if b then Some (number_in t.names name) else None)
      go false e = refl
      go true e =
          let (line, there, same) = some_has (λ (l : NameRow). bytes_eq l.name name) t.names e in
          let (entry, has, of) = entry_there line there in
          let begins = ap (begins_with plain (Blob name ∷ [])) (of.entry_is ∙ ap (entry_under of.id) ((bytes_eq-Decides line.name name).0 same)) ∙ begins_itself plain (Blob name) (Int of.id ∷ []) in
          absurd (kept_by (begins_with plain (Blob name ∷ [])) (now 12) entry has begins none)

  -- an entry of the name has its number
  is_there : (n : ℕ) → Has (now 12) (Blob name ∷ number n ∷ []) → Some n ≡ number_if_held t name
  is_there n there =
      let (line, has, of) = line_there (Blob name ∷ number n ∷ []) there in
      let entry_is = of.entry_is in
      let named : name ≡ line.name = cc in
      let numbered : pos n ≡ of.id = cc in
      let held = line_named t now holds.sound holds.names_are line has in
      ap Some (ap (number_read far) numbered ∙ of.number_is ∙ sym held.1 ∙ ap (number_in t.names) (sym named)) ∙ sym (ap (λ b. if b then Some (number_in t.names name) else None) (ap (has_name t) named ∙ held.0))

  -- what a walk from the name on found
  pub found_is : IsIndex plain (now 12) → (front rest : List Row) (found : Option ℕ) → from_entry plain (Blob name ∷ []) (now 12) ≡ front ++ rest → EndsAt name front found → found ≡ number_if_held t name
  found_is up front rest None parts (entry, is, (other, n, differs, entry_is)) =
      elim (first_begins plain (Blob name ∷ []) (now 12) up entry rest (parts ∙ ap (λ l. l ++ rest) is)) [
        | inl begins ↦ absurd (differs (begins_with_bytes other name (number n ∷ []) (sym (ap (begins_with plain (Blob name ∷ [])) entry_is) ∙ begins)))
        | inr none ↦ not_there none
      ]
  found_is up front rest (Some n) parts (entry, is, entry_is) =
      is_there n (from_has (Blob name ∷ []) (now 12) (Blob name ∷ number n ∷ []) (subst (λ l. Has l (Blob name ∷ number n ∷ [])) (sym (parts ∙ ap (λ l. l ++ rest) is)) (inl (sym entry_is))))

  -- nothing is from the name on
  pub nothing_is : IsIndex plain (now 12) → from_entry plain (Blob name ∷ []) (now 12) ≡ [] → None ≡ number_if_held t name
  nothing_is up none = not_there (none_begins plain (Blob name ∷ []) (now 12) up none)

  -- only an entry whose line has a number of more than 32 bits is refused
  pub refused_is_wide : (from : Row) (e : StoreError) → MayRefuse IsRefused (from_entry plain from (now 12)) e → (e ≡ Store) × HasWideNumber t
  refused_is_wide from e may =
      let (entry, there, why) = refused_one (from_entry plain from (now 12)) e may in
      let (line, has, of) = line_there entry (from_has from (now 12) entry there) in
      (why.0, record { line = line; there = has; wide = too_wide line.number of.id of.number_is (λ n low is. why.1 line.name n low (of.entry_is ∙ ap (λ id. entry_under id line.name) is)) })
    where
      too_wide : (m : ℕ) (id : ℤ) → number_read far id ≡ m → ((n : ℕ) → n < 2 ^ 32 → id ≡ pos n → ⊥) → 2 ^ 32 ≤ m
      too_wide m (pos n) is refused = elim (leb_tells (2 ^ 32) m) [
        | inl wide ↦ wide.1
        | inr low ↦ absurd (refused n (subst (λ k. k < 2 ^ 32) (sym is) low.1) refl)
      ]
      too_wide m (negsuc n) is refused = let high : 2 ^ 64 ≤ m = subst (λ k. 2 ^ 64 ≤ k) is (holds.names_are.is_far n) in omega (arith, high)
