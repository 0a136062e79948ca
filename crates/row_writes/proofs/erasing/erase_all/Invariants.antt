use Rattle.row_writes.proofs.Erased.{HasErased}
use Rattle.row_writes.proofs.erasing.erase_all.Given as goal

abbrev pub invariant-loop-rowid : goal.invariant-loop-rowid
invariant-loop-rowid g l = HasErased l.initial.file l.file l.place l.rowids l.rowid-index
