-- The entries of lists, beside the rows that they show.
use Rattle.std.specs.Prelude.{◌≡◌, ℕ, List, bytes_eq, filter, map, flat_map, length, string_bytes, IsPermutation}
use Rattle.std.specs.List.{AllAdjacentBelow, AllByRecursion}
use Rattle.std.specs.Ordering.{nat_cmp}
use Rattle.std.specs.Cmp.Lexicographic.{slice_cmp}
use Rattle.std.specs.declared.cmp.Ordering.TheVariants.{Less}
use Rattle.plain_tables.specs.Tables.{Tables, GroupRow, MemberRow}
use Rattle.run_stores.specs.BookEntries.{HeldRun}
use Rattle.profile_records.specs.Kinds.{kind_number}
use Rattle.run_stores.specs.declared.entries.GroupEntry.{GroupEntry}
use Rattle.run_stores.specs.declared.entries.RunEntry.{RunEntry}

abbrev pub entry_run : RunEntry → HeldRun
entry_run e = record { number = e.number; kind = kind_number e.kind; digest = e.digest; label = string_bytes e.label }

-- ---- groups

abbrev pub member_of : List ℕ → ℕ → MemberRow
member_of name run = record { group = name; run = run }

abbrev pub entry_group : GroupEntry → GroupRow
entry_group e = record { name = string_bytes e.name; baseline = e.baseline }

-- the members of an entry, one row for each
abbrev pub entry_members : GroupEntry → List MemberRow
entry_members e = map (member_of (string_bytes e.name)) e.members

-- the members of a group
abbrev pub members_in : List ℕ → List MemberRow → List MemberRow
members_in name lines = filter (λ (m : MemberRow). bytes_eq m.group name) lines

-- the groups, each with its members
pub record AreGroups (t : Tables) (entries : List GroupEntry) : Type 0 where
  pub groups : IsPermutation t.groups (map entry_group entries)
  pub members : IsPermutation t.members (flat_map entry_members entries)
  pub each : AllByRecursion (λ (e : GroupEntry). IsPermutation (members_in (string_bytes e.name) t.members) (entry_members e)) entries

-- by the bytes of the names
abbrev pub IsBefore : GroupEntry → GroupEntry → Type 0
IsBefore a b = slice_cmp nat_cmp (string_bytes a.name) (string_bytes b.name) ≡ Less

-- by rising names there are such entries
pub record HasGroups (t : Tables) : Type 0 where
  pub entries : List GroupEntry
  pub are : AreGroups t entries
  pub rising : AllAdjacentBelow IsBefore entries (length entries)
