-- The rows of new lines, and their entries in an index.
use Rattle.std.specs.Prelude.{◌≡◌, ◌≢◌, ◌+◌, ◌<◌, ◌^◌, ℕ, ℤ, suc, pos, nat_abs, nat_lt, if◌then◌else◌, List, [], ◌∷◌, All, length, map, slice_index_or, IsSortedBy}
use Rattle.std.specs.Int.{int_max}
use Rattle.std.specs.Ordering.{is_lt}
use Rattle.std.specs.declared.cmp.Ordering.TheVariants.{Less}
use Rattle.sqlite_rules.specs.Edit.{next_rowid}
use Rattle.sqlite_sql.specs.Catalog.{entry_of}
use Rattle.plain_tables.specs.Lists.{IsAscending}
use Rattle.sqlite_value.specs.declared.value.Value.TheVariants.{Int, Null}
use Rattle.sqlite_value.specs.Order.{Row, column, row_cmp}

-- there are rowids for the lines, from this one on
abbrev pub HaveRowids : {X : Type 0} → ℕ → List X → Type 0
HaveRowids first lines = first + length lines < 2 ^ 63

-- each is the place of one of the lines
abbrev pub ArePlacesOf : {X : Type 0} → List X → List ℕ → Type 0
ArePlacesOf lines places = All (λ place. place < length lines) places

-- rows of these columns, numbered from a rowid on
abbrev pub numbered : ℕ → List Row → List Row
numbered first [] = []
numbered first (line ∷ lines) = (Int (pos first) ∷ line) ∷ numbered (suc first) lines

-- the first rowid that new rows get, where this one is above all: 1 at least
abbrev pub first_from : ℤ → ℕ
first_from free = nat_abs (int_max free (pos 1))

-- new rows of these columns, numbered from the next rowid of those that are there
abbrev pub rows_behind : List Row → List Row → List Row
rows_behind olds columns = numbered (first_from (next_rowid olds)) columns

-- the one at a place
abbrev pub row_at : ℕ → List Row → ℕ → Row
row_at first lines place = Int (pos (first + place)) ∷ slice_index_or lines place []

-- the entries of those at some places, in an index of these columns
abbrev pub entries_at : List ℕ → ℕ → List Row → List ℕ → List Row
entries_at columns first lines places = map (λ place. entry_of columns (row_at first lines place)) places

-- such an entry without its rowid
abbrev pub key_at : List ℕ → ℕ → List Row → ℕ → Row
key_at columns first lines place = map (column (row_at first lines place)) columns

-- from each place to each later one the keys rise
abbrev pub KeysRise : List ℕ → ℕ → List Row → List ℕ → Type 0
KeysRise columns first lines places = IsAscending (λ a b. row_cmp (key_at columns first lines a) (key_at columns first lines b) ≡ Less) places

-- at one place the key is not below the next
abbrev pub IsTied : List ℕ → ℕ → List Row → List ℕ → Type 0
IsTied columns first lines places =
    (i : ℕ) × (suc i < length places)
    × (row_cmp (key_at columns first lines (slice_index_or places i 0)) (key_at columns first lines (slice_index_or places (suc i) 0)) ≢ Less)

-- the key of the line at a place, with another rowid, behind a NULL; and nothing where there is no line
abbrev pub rank_at : List ℕ → List Row → ℕ → Row
rank_at columns lines place = if nat_lt place (length lines) then Null ∷ map (column (Int (pos 0) ∷ slice_index_or lines place [])) columns else []

-- the places stand in the order of these
abbrev pub SortsByRank : List ℕ → List Row → List ℕ → Type 0
SortsByRank columns lines = IsSortedBy (λ a b. is_lt (row_cmp (rank_at columns lines a) (rank_at columns lines b)))
