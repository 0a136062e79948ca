use Rattle.page_imports.proofs.Named.{none_taken}
use Rattle.page_imports.proofs.numbering.Numbered.new.Goals as goal

pub returns : goal.returns
returns c = λ t next. none_taken t _ c.in_ok-with_capacity.ensures.items c.new.ensures.items next
