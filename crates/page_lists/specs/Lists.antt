-- The lists of the small tables.
use Rattle.sqlite_trees.specs.Tree.{Trees}
use Rattle.plain_tables.specs.Tables.{Tables}
use Rattle.prof_store.specs.Readings.{RowsSay}
use Rattle.run_lists.specs.Listed.{AreListed}
use Rattle.run_lists.specs.declared.listed.RunLists.{RunLists}

-- they are those of the lines that the rows say, whoever wrote these
abbrev pub AreListedFrom : Trees → RunLists → Type 0
AreListedFrom db lists = (t : Tables) → RowsSay t db → AreListed t lists
