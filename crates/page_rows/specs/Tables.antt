-- The tables and indexes of a database, by the names that its schema gives them.
use Rattle.std.specs.Prelude.{◌≡◌, ℕ, ◌^◌, ◌<◌, codes, List, [], map, slice_index, slice_index_or}
use Rattle.sqlite_pages.specs.PageMap.{PageMap}
use Rattle.sqlite_value.specs.declared.value.Value.TheVariants.{Text}
use Rattle.sqlite_value.specs.Order.{Row, column}
use Rattle.sqlite_trees.specs.declared.store.Shape.TheVariants.{Table, Index}
use Rattle.sqlite_value.specs.declared.keys.Order.{Order}
use Rattle.sqlite_store.specs.declared.catalog.Wanted.{Wanted}
use Rattle.sqlite_store.specs.Catalog.{shape_at, reals_at}
use Rattle.sqlite_store.specs.Db.{roots_of}

-- the type, name, table and SQL text of a tree
abbrev pub description_at : List Wanted → ℕ → Row
description_at wanted t = slice_index_or (map (λ w. w.row) wanted) t []

-- tree t is the table of this name
pub record IsNamed (wanted : List Wanted) (t : ℕ) (name : List ℕ) : Type 0 where
  pub shape : shape_at wanted t ≡ Table
  pub named : column (description_at wanted t) 1 ≡ Text name

-- tree t is the index of this name, with records in this order
pub record IsIndexNamed (wanted : List Wanted) (t : ℕ) (order : Order) (name : List ℕ) : Type 0 where
  pub shape : shape_at wanted t ≡ Index order
  pub kind : column (description_at wanted t) 0 ≡ Text (codes "index")
  pub named : column (description_at wanted t) 1 ≡ Text name

-- the root page of tree t in these pages
abbrev pub root_of_tree : ℕ → List Wanted → PageMap → ℕ → ℕ
root_of_tree size wanted pages t = slice_index (roots_of size wanted pages) t

-- tree t is a table under this root, with no REAL column
pub record IsRooted (size : ℕ) (wanted : List Wanted) (pages : PageMap) (t root : ℕ) : Type 0 where
  pub low : t < 2 ^ 32
  pub shape : shape_at wanted t ≡ Table
  pub plain : reals_at wanted t ≡ 0
  pub root_is : root ≡ root_of_tree size wanted pages t

-- tree t is an index of this order under this root, with no REAL column
pub record IsIndexRooted (size : ℕ) (wanted : List Wanted) (pages : PageMap) (t : ℕ) (order : Order) (root : ℕ) : Type 0 where
  pub low : t < 2 ^ 32
  pub shape : shape_at wanted t ≡ Index order
  pub plain : reals_at wanted t ≡ 0
  pub root_is : root ≡ root_of_tree size wanted pages t
