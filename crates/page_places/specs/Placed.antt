-- Where the tables and indexes of schema 2 stand in a file.
use Rattle.std.specs.Prelude.{◌≡◌, ◌<◌, ◌^◌, List}
use Rattle.sqlite_schema.specs.declared.schema.Index.{Index}
use Rattle.sqlite_schema.specs.declared.schema.Table.{Table}
use Rattle.sqlite_store.specs.declared.catalog.Wanted.{Wanted}
use Rattle.sqlite_store.specs.Catalog.{reals_at}
use Rattle.page_rows.specs.Tables.{IsIndexNamed, IsNamed}

-- the file has this table under its name, with no REAL column
pub record IsPlaced (wanted : List Wanted) (table : Table) : Type 0 where
  pub low : table.tree < 2 ^ 32
  pub named : IsNamed wanted table.tree table.name
  pub plain : reals_at wanted table.tree ≡ 0

-- the file has this index under its name, with no REAL column
pub record IsIndexPlaced (wanted : List Wanted) (index : Index) : Type 0 where
  pub low : index.tree < 2 ^ 32
  pub named : IsIndexNamed wanted index.tree index.order index.name
  pub plain : reals_at wanted index.tree ≡ 0
