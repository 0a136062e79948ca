use Rattle.std.proofs.Common.{sym, ◌∙◌}
use Rattle.page_changes.proofs.Columns.{no_column, none_left, one_column}
use Rattle.page_changes.proofs.members.OfRunRowTest.test.Goals as goal

pub returns-in_default : goal.returns-in_default
returns-in_default c = sym (no_column c.args.self.now.0 c.args._rowid _ (sym c.new-fields.ensures ∙ none_left _ _ c.next.result c.in_default.is c.next.ensures.steps))

pub returns-in_default-next : goal.returns-in_default-next
returns-in_default-next c =
    sym (one_column c.args.self.now.0 c.args._rowid _ _ _ (sym c.new-fields.ensures ∙ c.in-Some.ensures.steps) (none_left _ _ c.next-2.result c.in_default-next.is c.next-2.ensures.steps))
