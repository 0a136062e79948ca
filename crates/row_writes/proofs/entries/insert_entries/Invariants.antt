use Rattle.sqlite_trees.specs.Tree.{insert_entry}
use Rattle.page_places.proofs.Filling.{HasEdited}
use Rattle.row_writes.proofs.entries.insert_entries.Given as goal

abbrev pub invariant-loop-index : goal.invariant-loop-index
invariant-loop-index g l = HasEdited l.initial.file l.file l.indexes insert_entry l.row l.index-index
