use Rattle.std.proofs.Common.{sym, ◌∙◌}
use Rattle.page_changes.proofs.Naming.{no_name_left, none_left}
use Rattle.page_changes.proofs.rows.OfNameRowTest.test.Goals as goal

pub returns-in-None : goal.returns-in-None
returns-in-None c = sym (no_name_left c.args.self.now.0.now c.args._rowid _ (sym c.new.ensures ∙ none_left _ _ c.next.result c.in-None.is c.next.ensures.steps))
