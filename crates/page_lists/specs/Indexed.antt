-- The keys in the entries of an index, and those that the indexes of the small tables have for the rows of lists.
use Rattle.std.specs.Prelude.{ℕ, List, [], ◌∷◌, map, string_bytes, IsPermutation}
use Rattle.sqlite_disk.specs.declared.Disk.{Ghosts}
use Rattle.sqlite_store.specs.declared.catalog.Wanted.{Wanted}
use Rattle.sqlite_value.specs.Keys.{plain}
use Rattle.sqlite_value.specs.Order.{Row}
use Rattle.sqlite_value.specs.declared.value.Value.TheVariants.{Blob, Text}
use Rattle.page_files.specs.declared.files.PageFile.{PageFile}
use Rattle.page_files.specs.Trees.{ShowsIndex, trees_of}
use Rattle.page_places.specs.declared.roots.StoreRoots.{StoreRoots}
use Rattle.run_lists.specs.declared.listed.ListedRun.{ListedRun}
use Rattle.run_lists.specs.declared.listed.ListedEvent.{ListedEvent}
use Rattle.run_lists.specs.declared.listed.ListedDerived.{ListedDerived}
use Rattle.run_lists.specs.declared.listed.ListedCoef.{ListedCoef}
use Rattle.run_lists.specs.declared.listed.ListedGroup.{ListedGroup}
use Rattle.run_lists.specs.declared.listed.ListedMember.{ListedMember}
use Rattle.run_lists.specs.declared.listed.RunLists.{RunLists}
use Rattle.prof_store.specs.Tables.{number}

-- all columns of an entry but the last, which is the rowid of its row
abbrev pub key_of : Row → Row
key_of [] = []
key_of (value ∷ []) = []
key_of (value ∷ next ∷ row) = value ∷ key_of (next ∷ row)

-- the keys that rows have in the indexes of their tables
abbrev pub digest_key : ListedRun → Row
digest_key r = Blob r.entry.digest ∷ []

abbrev pub event_place_key : ListedEvent → Row
event_place_key e = number e.run ∷ number e.place ∷ []

abbrev pub event_name_key : ListedEvent → Row
event_name_key e = number e.run ∷ Blob e.name.items ∷ []

abbrev pub derived_place_key : ListedDerived → Row
derived_place_key d = number d.run ∷ number d.place ∷ []

abbrev pub derived_name_key : ListedDerived → Row
derived_name_key d = number d.run ∷ Blob d.name.items ∷ []

abbrev pub coef_key : ListedCoef → Row
coef_key c = number c.run ∷ number c.place ∷ number c.event ∷ []

abbrev pub group_key : ListedGroup → Row
group_key g = Text (string_bytes g.name) ∷ []

abbrev pub member_key : ListedMember → Row
member_key m = Text (string_bytes m.group) ∷ number m.run ∷ []

module _ {D : Type 0} {g : Ghosts D} where
  -- the index under a root has an entry for each of these keys, and no other
  abbrev pub HasKeys : PageFile D g → ℕ → List Row → Type 0
  HasKeys file root keys = (wanted : List Wanted) (t : ℕ) → ShowsIndex wanted t plain root file → IsPermutation keys (map key_of (trees_of wanted file t))

  -- the indexes of runs and events
  pub record AreEventsIndexed (roots : StoreRoots) (lists : RunLists) (file : PageFile D g) : Type 0 where
    pub digests : HasKeys file roots.run_digests (map digest_key lists.runs.items)
    pub places : HasKeys file roots.event_places (map event_place_key lists.events)
    pub names : HasKeys file roots.event_names (map event_name_key lists.events)

  -- those of derived events
  pub record AreDerivedIndexed (roots : StoreRoots) (lists : RunLists) (file : PageFile D g) : Type 0 where
    pub places : HasKeys file roots.derived_places (map derived_place_key lists.derived)
    pub names : HasKeys file roots.derived_names (map derived_name_key lists.derived)
    pub coefs : HasKeys file roots.coef_keys (map coef_key lists.coefs)

  -- those of groups and members
  pub record AreGroupsIndexed (roots : StoreRoots) (lists : RunLists) (file : PageFile D g) : Type 0 where
    pub names : HasKeys file roots.group_names (map group_key lists.groups.items)
    pub members : HasKeys file roots.member_keys (map member_key lists.members.items)

  -- each index of a small table has the keys of the rows that the lists have
  pub record AreIndexed (roots : StoreRoots) (lists : RunLists) (file : PageFile D g) : Type 0 where
    pub events : AreEventsIndexed roots lists file
    pub derived : AreDerivedIndexed roots lists file
    pub groups : AreGroupsIndexed roots lists file
