-- Rows whose first column is a number, and their entries in an index that begins with that column.
use Rattle.std.specs.Prelude.{◌≡◌, ℤ, ℕ, pos, Bool, if◌then◌else◌, List, [], ◌∷◌, map, filter, fold, IsPermutation, Vec, Result, MatchResult}
use Rattle.std.specs.List.{AllByRecursion}
use Rattle.std.specs.Ordering.{is_eq}
use Rattle.std.specs.declared.alloc.Global.{Global}
use Rattle.sqlite_disk.specs.declared.Disk.{Ghosts}
use Rattle.sqlite_rules.specs.Edit.{id_in}
use Rattle.sqlite_schema.specs.declared.schema.Index.{Index}
use Rattle.sqlite_store.specs.declared.catalog.Wanted.{Wanted}
use Rattle.sqlite_value.specs.declared.value.Value.TheVariants.{Int}
use Rattle.sqlite_value.specs.Keys.{plain}
use Rattle.sqlite_value.specs.Order.{Row, column, value_cmp}
use Rattle.page_files.specs.Removals.{has_prefix, without}
use Rattle.page_files.specs.declared.files.PageFile.{PageFile}
use Rattle.page_files.specs.Files.{IsFaithful}
use Rattle.page_files.specs.Trees.{ShowsIndex, trees_of}
use Rattle.page_rows.specs.Indexes.{begins_with}
use Rattle.page_places.specs.declared.errors.RowError.{RowError}
use Rattle.page_places.specs.Causes.{FailsToFind}
use Rattle.page_places.specs.Entries.{EntryEdit}

-- whether the first column of a row is this number
abbrev pub is_under : ℤ → Row → Bool
is_under n row = is_eq (value_cmp (column row 1) (Int n))

-- the key of an index begins with the first column
abbrev pub IsLed : Index → Type 0
IsLed i = (more : List ℕ) × (i.columns ≡ 1 ∷ more)

-- there is an index, and each begins with the first column
abbrev pub AreLed : List Row → List Index → Type 0
AreLed rows [] = ⊥
AreLed rows (index ∷ indexes) = AllByRecursion IsLed (index ∷ indexes)

-- the rowid of an entry's row is its last value
abbrev pub entry_id : Row → ℤ
entry_id = fold (λ _ value. id_in value) (pos 0)

-- those of the entries up to the first that does not begin with a row
abbrev pub ids_under : Row → List Row → List ℤ
ids_under prefix [] = []
ids_under prefix (entry ∷ entries) = if begins_with plain prefix entry then entry_id entry ∷ ids_under prefix entries else []

-- the entries of an index that begin with a row are taken out, whatever the entry of the edit is
abbrev pub out_under : Row → EntryEdit
out_under prefix order entry = without (has_prefix order prefix)

module _ {D : Type 0} {g : Ghosts D} (old new : PageFile D g) where
  -- the rowids of the entries that begin with a row, in the index under this root
  abbrev pub FindsUnder : ℕ → Row → Result (Vec ℤ Global) RowError → Type 0
  FindsUnder root prefix result =
      IsFaithful new → (wanted : List Wanted) (t : ℕ) → ShowsIndex wanted t plain root old
      → MatchResult result (λ ids. IsPermutation (map entry_id (filter (begins_with plain prefix) (trees_of wanted old t))) ids.items) (FailsToFind old new)
