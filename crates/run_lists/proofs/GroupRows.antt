-- The rows that entries show, where the names of the entries rise.
use Rattle.std.proofs.Common.{◌≡◌, ◌∙◌, ◌+◌, ◌<◌, ◌++◌, ◌∷◌, [], ℕ, List, string_bytes, map, flat_map, length, get_or, sym, ap, ap₂, subst, arith, Bor, IsPermutation}
use Rattle.std.specs.Cmp.{nat_cmp_is}
use Rattle.std.specs.Cmp.Lexicographic.{slice_cmp}
use Rattle.std.specs.List.{AllAdjacentBelow, AllByRecursion}
use Rattle.std.specs.List.Sorted.{IsSortedByKey}
use Rattle.std.specs.Ordering.{nat_cmp, ordering_then}
use Rattle.std.specs.declared.cmp.Ordering.TheVariants.{Less}
use Rattle.std.proofs.lemmas.Cmp.{nat_list_cmp_total, tied_itself}
use Rattle.std.proofs.lemmas.List.{get_or-map, length-map}
use Rattle.std.proofs.lemmas.List.Sorted.{IsPermutation-sym, IsPermutation-trans}
use Rattle.plain_tables.specs.Lists.{IsAscending}
use Rattle.plain_tables.specs.Tables.{Tables, MemberRow}
use Rattle.plain_tables.proofs.Lists.{all-append}
use Rattle.run_stores.specs.Entries.{AreGroups, IsBefore, entry_group, entry_members, member_of}
use Rattle.run_stores.specs.declared.entries.GroupEntry.{GroupEntry}
use Rattle.run_lists.specs.InOrder.{AreRowsOf, group_cmp, member_cmp}
use Rattle.run_lists.specs.Lent.{lent_group, lent_member}
use Rattle.run_lists.specs.Listed.{AreListed, group_row, member_row}
use Rattle.run_lists.specs.declared.listed.ListedGroup.{ListedGroup}
use Rattle.run_lists.specs.declared.listed.ListedMember.{ListedMember}
use Rattle.run_lists.specs.declared.listed.RunLists.{RunLists}
use Rattle.run_lists.proofs.GroupMembers.{rising}
use Rattle.run_lists.proofs.HeldRuns.{ascends}
use Rattle.run_lists.proofs.SortedRows.{groups_are, members_are}

-- ---- they rise

abbrev IsMemberBefore : MemberRow → MemberRow → Type 0
IsMemberBefore a b = member_cmp a b ≡ Less

groups_later : (e : GroupEntry) (entries : List GroupEntry) → AllByRecursion (IsBefore e) entries → AllByRecursion (λ g. group_cmp (entry_group e) g ≡ Less) (map entry_group entries)
groups_later e [] all = tt
groups_later e (x ∷ entries) all = (all.0, groups_later e entries all.1)

pub groups_rise : (entries : List GroupEntry) → IsAscending IsBefore entries → IsAscending (λ a b. group_cmp a b ≡ Less) (map entry_group entries)
groups_rise [] up = tt
groups_rise (e ∷ entries) up = (groups_later e entries up.0, groups_rise entries up.1)

runs_later : (name : List ℕ) (run : ℕ) (runs : List ℕ) → AllByRecursion (λ n. run < n) runs → AllByRecursion (IsMemberBefore (member_of name run)) (map (member_of name) runs)
runs_later name run [] all = tt
runs_later name run (n ∷ runs) all = (ap₂ ordering_then (tied_itself nat_list_cmp_total name) (sym (nat_cmp_is run n Less all.0)), runs_later name run runs all.1)

-- those of a later group
abbrev AreBehind : List ℕ → List MemberRow → Type 0
AreBehind name = AllByRecursion (λ (m : MemberRow). slice_cmp nat_cmp name m.group ≡ Less)

behind : (name : List ℕ) (run : ℕ) (lines : List MemberRow) → AreBehind name lines → AllByRecursion (IsMemberBefore (member_of name run)) lines
behind name run [] all = tt
behind name run (m ∷ lines) all = (ap (λ o. ordering_then o (nat_cmp run m.run)) all.0, behind name run lines all.1)

own_behind : (name other : List ℕ) (runs : List ℕ) → slice_cmp nat_cmp name other ≡ Less → AreBehind name (map (member_of other) runs)
own_behind name other [] less = tt
own_behind name other (run ∷ runs) less = (less, own_behind name other runs less)

members_behind : (e : GroupEntry) (entries : List GroupEntry) → AllByRecursion (IsBefore e) entries → AreBehind (string_bytes e.name) (flat_map entry_members entries)
members_behind e [] all = tt
members_behind e (x ∷ entries) all =
    all-append (λ (m : MemberRow). slice_cmp nat_cmp (string_bytes e.name) m.group ≡ Less) (entry_members x) (flat_map entry_members entries)
    (own_behind (string_bytes e.name) (string_bytes x.name) x.members all.0) (members_behind e entries all.1)

runs_rise : (name : List ℕ) (runs : List ℕ) (lines : List MemberRow) → IsAscending (λ a b. a < b) runs → AreBehind name lines → IsAscending IsMemberBefore lines → IsAscending IsMemberBefore (map (member_of name) runs ++ lines)
runs_rise name [] lines up later more = more
runs_rise name (run ∷ runs) lines up later more =
    (all-append (IsMemberBefore (member_of name run)) (map (member_of name) runs) lines (runs_later name run runs up.0) (behind name run lines later), runs_rise name runs lines up.1 later more)

pub members_rise : (entries : List GroupEntry) → IsAscending IsBefore entries → IsAscending IsMemberBefore (flat_map entry_members entries)
members_rise [] up = tt
members_rise (e ∷ entries) up = runs_rise (string_bytes e.name) e.members (flat_map entry_members entries) (ascends e.members e.rising) (members_behind e entries up.0) (members_rise entries up.1)

-- ---- lists of the rows, sorted

module _ (t : Tables) (lists : RunLists) (was : AreListed t lists) (groups : List (Bor ListedGroup)) (members : List (Bor ListedMember)) where
  -- they have the lines of the tables
  group_lines : (read : List ListedGroup) → read ≡ lists.groups.items → IsPermutation (map group_row read) (map lent_group groups) → IsPermutation t.groups (map lent_group groups)
  group_lines read is same = subst (λ l. IsPermutation l (map lent_group groups)) (ap (map group_row) is ∙ was.groups) same

  member_lines : (read : List ListedMember) → read ≡ lists.members.items → IsPermutation (map member_row read) (map lent_member members) → IsPermutation t.members (map lent_member members)
  member_lines read is same = subst (λ l. IsPermutation l (map lent_member members)) (ap (map member_row) is ∙ was.members) same

  -- so entries that are the groups of the tables show them as they stand
  pub rows_shown : (read : List ListedGroup) (read_members : List ListedMember) → read ≡ lists.groups.items → read_members ≡ lists.members.items → IsPermutation (map group_row read) (map lent_group groups)
      → IsPermutation (map member_row read_members) (map lent_member members) → IsSortedByKey lent_group group_cmp groups → IsSortedByKey lent_member member_cmp members
      → (entries : List GroupEntry) → AreGroups t entries → AllAdjacentBelow IsBefore entries (length entries) → AreRowsOf entries (map lent_group groups) (map lent_member members)
  rows_shown read read_members is are same same_members by_name by_group entries told up =
      let shown = map entry_group entries in
      let all = flat_map entry_members entries in
      let ascend = rising entries up in
      record {
        groups_are =
            groups_are lent_group groups shown by_name (groups_rise entries ascend)
            (IsPermutation-trans (map lent_group groups) t.groups shown (IsPermutation-sym t.groups (map lent_group groups) (group_lines read is same)) told.groups);
        members_are =
            members_are lent_member members all by_group (members_rise entries ascend)
            (IsPermutation-trans (map lent_member members) t.members all (IsPermutation-sym t.members (map lent_member members) (member_lines read_members are same_members)) told.members);
        rising = up;
      }

-- ---- the names of entries that show the same groups

pub rise_too : (made entries : List GroupEntry) → map entry_group made ≡ map entry_group entries → AllAdjacentBelow IsBefore entries (length entries) → AllAdjacentBelow IsBefore made (length made)
rise_too made entries same up k d low =
    let many : length made ≡ length entries = sym (length-map made entry_group) ∙ ap length same ∙ length-map entries entry_group in
    let at : (j : ℕ) → j < length made → entry_group (get_or made j d) ≡ entry_group (get_or entries j d) = λ j inside.
    sym (get_or-map entry_group made j d (entry_group d) inside) ∙ ap (λ l. get_or l j (entry_group d)) same ∙ get_or-map entry_group entries j d (entry_group d) (omega (arith, inside, many)) in
    ap₂ group_cmp (at k (omega (arith, low))) (at (k + 1) low) ∙ up k d (omega (arith, low, many))
