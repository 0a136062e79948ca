-- Entries that show the lines of tables, and their texts.
use Rattle.std.specs.Prelude.{◌≡◌, ℕ, ◌<◌, List, Option, map, filter, flat_map, length, bytes_eq, IsPermutation}
use Rattle.std.specs.Cmp.Lexicographic.{slice_cmp}
use Rattle.std.specs.List.{AllAdjacentBelow, AllByRecursion}
use Rattle.std.specs.Ordering.{nat_cmp}
use Rattle.std.specs.declared.cmp.Ordering.TheVariants.{Less}
use Rattle.plain_tables.specs.Tables.{Tables, GroupRow, MemberRow}
use Rattle.run_stores.specs.BookEntries.{HeldRun, held_run}
use Rattle.profile_records.specs.Kinds.{kind_number}
use Rattle.profile_records.specs.declared.kinds.Kind.{Kind}
use Rattle.histories.specs.History.{History}
use Rattle.histories.specs.Texts.{run_text, runs_text, group_line, groups_text}

-- what an entry shows of a run
pub record RunShown : Type 0 where
  pub number : ℕ
  pub kind : Kind
  pub digest : List ℕ
  pub label : List ℕ

abbrev pub run_shown : RunShown → HeldRun
run_shown r = record { number = r.number; kind = kind_number r.kind; digest = r.digest; label = r.label }

-- what an entry shows of a group: its name, its baseline and its members
pub record GroupShown : Type 0 where
  pub name : List ℕ
  pub base : Option ℕ
  pub numbers : List ℕ

abbrev pub group_shown : GroupShown → GroupRow
group_shown g = record { name = g.name; baseline = g.base }

abbrev pub member_shown : GroupShown → ℕ → MemberRow
member_shown g n = record { group = g.name; run = n }

-- those among these lines that are of this group, and no others
abbrev pub AreItsMembers : List MemberRow → GroupShown → Type 0
AreItsMembers lines g = IsPermutation (filter (λ (m : MemberRow). bytes_eq m.group g.name) lines) (map (member_shown g) g.numbers)

-- ---- entries of any type

module _ {E : Type 0} where
  -- each run, in order
  abbrev pub ShowRuns : (E → RunShown) → Tables → List E → Type 0
  ShowRuns shows t entries = map (λ e. run_shown (shows e)) entries ≡ map held_run t.runs

  -- such entries have the text of the list of runs
  abbrev pub ListsRuns : (E → RunShown) → History → Tables → Type 0
  ListsRuns shows h t =
      (entries : List E) → ShowRuns shows t entries
      → runs_text h ≡ flat_map (λ e. run_text (shows e).number (shows e).kind (shows e).digest (shows e).label) entries

  -- each group, by name, with its members by number
  pub record ShowGroups (shows : E → GroupShown) (t : Tables) (entries : List E) : Type 0 where
    pub lines : IsPermutation t.groups (map (λ e. group_shown (shows e)) entries)
    pub rising : AllAdjacentBelow (λ a b. slice_cmp nat_cmp (shows a).name (shows b).name ≡ Less) entries (length entries)
    pub members : AllByRecursion (λ e. AreItsMembers t.members (shows e)) entries
    pub numbered : (e : E) → AllAdjacentBelow (λ a b. a < b) (shows e).numbers (length (shows e).numbers)

  -- such entries have the text of the list of groups
  abbrev pub ListsGroups : (E → GroupShown) → History → Tables → Type 0
  ListsGroups shows h t =
      (entries : List E) → ShowGroups shows t entries
      → groups_text h ≡ flat_map (λ e. group_line (shows e).name (shows e).base (shows e).numbers) entries
