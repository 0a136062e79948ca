-- New names come behind those that are held, many at a time.
use Rattle.std.specs.Prelude.{◌≡◌, ◌<◌, ◌^◌, ℕ, suc, false, All, List, [], ◌∷◌, ◌++◌, map, Option, Result, MatchResult, bytes_eq}
use Rattle.std.specs.List.{AllByRecursion, list_any}
use Rattle.plain_tables.specs.Changes.{has_name, next_name}
use Rattle.plain_tables.specs.Files.{all_named, numbers_in}
use Rattle.plain_tables.specs.Tables.{Tables, NameRow}
use Rattle.plain_tables.specs.declared.errors.StoreError.{StoreError}
use Rattle.page_imports.specs.RowFits.{RefusesUnless}
use Rattle.prof_store.specs.Names.{number_if_held}
use Rattle.sqlite_value.specs.declared.value.Value.TheVariants.{Blob, Null}
use Rattle.sqlite_value.specs.Order.{Row}
use Rattle.page_imports.specs.declared.numbering.NewName.{NewName}
use Rattle.page_imports.specs.declared.numbering.Numbered.{Numbered}

-- the next name gets this number
abbrev pub IsNextName : ℕ → Tables → Type 0
IsNextName next t = next ≡ next_name t.names

-- lines of names, numbered from this number on
abbrev pub numbered_names : ℕ → List (List ℕ) → List NameRow
numbered_names first [] = []
numbered_names first (name ∷ names) = record { number = first; name = name } ∷ numbered_names (suc first) names

-- names come behind those that are held, and get the next numbers
abbrev pub with_names : List (List ℕ) → Tables → Tables
with_names names t = record t { names = t.names ++ numbered_names (next_name t.names) names }

-- the columns of a name's row behind the rowid, which is its number
abbrev pub name_line : List ℕ → Row
name_line name = Null ∷ Blob name ∷ []

-- none of the names is held
abbrev pub AreUnheld : List (List ℕ) → Tables → Type 0
AreUnheld names t = AllByRecursion (λ name. has_name t name ≡ false) names

-- the names that are listed
abbrev pub bytes_of : List NewName → List (List ℕ)
bytes_of news = map (λ (new : NewName). new.name.now) news

-- once the new names are inserted, these names are held and have these numbers
pub record AreNumbered (t : Tables) (names : List (List ℕ)) (it : Numbered) : Type 0 where
  pub unheld : AreUnheld (bytes_of it.news.items) t
  pub named : all_named names t ≡ with_names (bytes_of it.news.items) t
  pub numbers : it.numbers.items ≡ numbers_in (all_named names t) names
  pub next : IsNextName it.next (all_named names t)

-- once they are held, each of the names has a number of 32 bits
abbrev pub GetSmallNumbers : List (List ℕ) → Tables → Type 0
GetSmallNumbers names t = All (λ n. n < 2 ^ 32) (numbers_in (all_named names t) names)

-- one more name is numbered that is not among them, where this is told of whether it is held
abbrev pub NumbersOne : Numbered → Numbered → List ℕ → Option ℕ → {A : Type 0} → Result A StoreError → Type 0
NumbersOne old new name held result =
    (t : Tables) (names : List (List ℕ)) → AreNumbered t names old → list_any (λ other. bytes_eq other name) names ≡ false → held ≡ number_if_held t name
    → MatchResult result (λ _. AreNumbered t (names ++ name ∷ []) new) (RefusesUnless (GetSmallNumbers (names ++ name ∷ []) t))
