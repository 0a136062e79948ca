use Rattle.page_changes.proofs.Clearing.{HaveCleared}
use Rattle.page_changes.proofs.baselines.clear_all.Given as goal

abbrev pub invariant-loop-rowid : goal.invariant-loop-rowid
invariant-loop-rowid g l = HaveCleared l.initial.file l.file l.place l.rowids l.run l.rowid-index
