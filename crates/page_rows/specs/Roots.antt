-- The root page that sqlite_schema states for a table or an index. Its rows are a rowid, then type, name, table, root page and SQL text.
use Rattle.std.specs.Prelude.{◌≡◌, ℕ, Bool, ◌&&◌, if◌then◌else◌, List, [], ◌∷◌, Option, None, Some}
use Rattle.sqlite_value.specs.Order.{Row, column}
use Rattle.sqlite_trees.specs.Sound.{is_word}
use Rattle.sqlite_store.specs.Catalog.{page_number}

-- the entry is that of a tree of this kind with this name
abbrev pub names_tree : List ℕ → List ℕ → Row → Bool
names_tree kind name entry = is_word kind (column entry 1) && is_word name (column entry 2)

-- the root page in the first such entry
abbrev pub root_in_list : List ℕ → List ℕ → List Row → Option ℕ
root_in_list kind name [] = None
root_in_list kind name (entry ∷ entries) = if names_tree kind name entry then Some (page_number (column entry 4)) else root_in_list kind name entries

-- there is such an entry, and it states this root page
abbrev pub IsFoundIn : List ℕ → List ℕ → List Row → Option ℕ → Type 0
IsFoundIn kind name entries root = (page : ℕ) × (root_in_list kind name entries ≡ Some page) × (root ≡ Some page)
