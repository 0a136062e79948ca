-- Rows of groups and of members, in order.
use Rattle.std.specs.Prelude.{◌≡◌, ◌≢◌, ℕ, List, [], ◌∷◌, ◌++◌, map, flat_map, length, string_bytes, ⊤}
use Rattle.std.specs.List.{AllAdjacentBelow}
use Rattle.std.specs.Cmp.Lexicographic.{slice_cmp}
use Rattle.std.specs.Ordering.{nat_cmp, ordering_then}
use Rattle.std.specs.declared.cmp.Ordering.{Ordering}
use Rattle.plain_tables.specs.Tables.{GroupRow, MemberRow}
use Rattle.run_stores.specs.Entries.{IsBefore, entry_group, entry_members, members_in}
use Rattle.run_stores.specs.declared.entries.GroupEntry.{GroupEntry}

-- groups by name
abbrev pub group_cmp : GroupRow → GroupRow → Ordering
group_cmp a b = slice_cmp nat_cmp a.name b.name

-- members by group, and those of one group by run
abbrev pub member_cmp : MemberRow → MemberRow → Ordering
member_cmp a b = ordering_then (slice_cmp nat_cmp a.group b.group) (nat_cmp a.run b.run)

-- the first of these members, if there is one, is not of this group
abbrev pub BeginsWithout : List ℕ → List MemberRow → Type 0
BeginsWithout name [] = ⊤
BeginsWithout name (m ∷ lines) = m.group ≢ name

-- the members of this entry come first, and none of its group is behind them
pub record BeginsWith (entry : GroupEntry) (lines : List MemberRow) : Type 0 where
  pub rest : List MemberRow
  pub lines_are : lines ≡ entry_members entry ++ rest
  pub none_behind : members_in (string_bytes entry.name) rest ≡ []

-- these are the rows of groups and of members that entries show, one entry after another, and the names of the entries rise
pub record AreRowsOf (entries : List GroupEntry) (groups : List GroupRow) (members : List MemberRow) : Type 0 where
  pub groups_are : groups ≡ map entry_group entries
  pub members_are : members ≡ flat_map entry_members entries
  pub rising : AllAdjacentBelow IsBefore entries (length entries)
