-- The names that the rows of a store say, whoever wrote them.
use Rattle.sqlite_trees.specs.Tree.{Trees}
use Rattle.plain_tables.specs.Tables.{Tables}
use Rattle.prof_store.specs.Readings.{RowsSay}
use Rattle.prof_store.proofs.Readings.{names_said}
use Rattle.prof_store.proofs.Told.{said}
use Rattle.run_lists.proofs.Apart.{apart_named}
use Rattle.run_stores.specs.Names.{AreApart}
use Rattle.page_places.specs.Stores.{HoldsNames}

pub names_told : (t : Tables) (db : Trees) → RowsSay t db → HoldsNames t db
names_told t db says = let was = said t db says in record { sound = was.sound; names_are = names_said t db was }

-- each is under one number
pub apart_told : (t : Tables) (db : Trees) → RowsSay t db → AreApart t.names
apart_told t db says = let names = names_told t db says in apart_named t db names.sound names.names_are
