-- The lines of what a store tells of its runs and groups.
use Rattle.std.specs.Prelude.{◌≡◌, ℕ, List, map, flat_map, length, string_bytes}
use Rattle.std.specs.List.{AllAdjacentBelow}
use Rattle.plain_tables.specs.Tables.{Tables}
use Rattle.run_stores.specs.BookEntries.{held_run}
use Rattle.run_stores.specs.Entries.{entry_run, AreGroups, IsBefore}
use Rattle.run_stores.specs.declared.entries.RunEntry.{RunEntry}
use Rattle.run_stores.specs.declared.entries.GroupEntry.{GroupEntry}
use Rattle.histories.specs.Texts.{run_text, group_line}

abbrev pub entry_line : RunEntry → List ℕ
entry_line e = run_text e.number e.kind e.digest (string_bytes e.label)

abbrev pub group_entry_line : GroupEntry → List ℕ
group_entry_line e = group_line (string_bytes e.name) e.baseline e.members

-- ---- what is listed of tables, whatever they represent

-- the runs, a line for each
pub record IsListOfRuns (t : Tables) (text : List ℕ) : Type 0 where
  pub entries : List RunEntry
  pub are_held : map entry_run entries ≡ map held_run t.runs
  pub text_is : text ≡ flat_map entry_line entries

-- the groups with their members, a line for each, by their names
pub record IsListOfGroups (t : Tables) (text : List ℕ) : Type 0 where
  pub entries : List GroupEntry
  pub are_groups : AreGroups t entries
  pub rising : AllAdjacentBelow IsBefore entries (length entries)
  pub text_is : text ≡ flat_map group_entry_line entries
