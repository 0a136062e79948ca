-- Rows of lists that are lent.
use Rattle.std.specs.Borrow.{Bor}
use Rattle.plain_tables.specs.Tables.{GroupRow, MemberRow}
use Rattle.run_lists.specs.Listed.{group_row, member_row}
use Rattle.run_lists.specs.declared.listed.ListedGroup.{ListedGroup}
use Rattle.run_lists.specs.declared.listed.ListedMember.{ListedMember}

abbrev pub lent_group : Bor ListedGroup → GroupRow
lent_group g = group_row g.now

abbrev pub lent_member : Bor ListedMember → MemberRow
lent_member m = member_row m.now
