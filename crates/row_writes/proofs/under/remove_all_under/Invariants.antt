use Rattle.std.proofs.Common.{[]}
use Rattle.row_writes.specs.Under.{out_under}
use Rattle.page_places.proofs.Filling.{HasEdited}
use Rattle.row_writes.proofs.under.remove_all_under.Given as goal

abbrev pub invariant-loop-index : goal.invariant-loop-index
invariant-loop-index g l = HasEdited l.initial.file l.file l.indexes (out_under l.prefix) [] l.index-index
