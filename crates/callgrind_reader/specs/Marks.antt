-- Marks of names: when a name comes with its mark, and when what was told of a mark still holds.
use Rattle.std.specs.Prelude.{◌≡◌, ℕ, ◌≤◌, List, Option, Some, unwrap_or}
use Rattle.cg_text.specs.Names.{unknown}
use Rattle.cg_text.specs.declared.words.Namespace.{Namespace}
use Rattle.cg_text.specs.declared.words.Namespace.TheVariants.{Object, File, Function}
use Rattle.profile_records.specs.Marks.{names_tell}
use Rattle.profile_records.specs.declared.marks.LentNames.{LentNames}
use Rattle.profile_records.specs.declared.marks.Mark.{Mark}
use Rattle.profile_records.specs.declared.marks.Mark.TheVariants.{Held, Own, Called, Unnamed}
use Rattle.callgrind_reader.specs.Current.{text_of}
use Rattle.callgrind_reader.specs.Space.{called_name}
use Rattle.callgrind_reader.specs.Table.{name_at}
use Rattle.callgrind_reader.specs.declared.names.Names.{Names}
use Rattle.callgrind_reader.specs.declared.spaces.Current.{Current}
use Rattle.callgrind_reader.specs.declared.spaces.Space.{Space}

abbrev pub space_of : Names → Namespace → Space
space_of n Object = n.objects
space_of n File = n.files
space_of n Function = n.functions

-- ---- a name comes with its mark

-- the last name without an identifier, by how many came
abbrev pub IsPlain : Current → ℕ → List ℕ → Type 0
IsPlain c count text = (count ≡ c.count) × (c.plain.items ≡ text)

abbrev pub IsLent : Space → Mark → List ℕ → Type 0
IsLent s (Held place) text = name_at s.table (Some place) ≡ Some text
IsLent s (Own count) text = IsPlain s.own count text
IsLent s (Called count) text = IsPlain s.called count text
IsLent s Unnamed text = text ≡ unknown

-- each of three names does, of its name space
abbrev pub AreLent : Names → LentNames → Type 0
AreLent n names = (space : Namespace) (mark : Mark) (text : List ℕ) → names_tell names space mark text → IsLent (space_of n space) mark text

-- ---- what was told of a mark still holds

-- of a count that is past, anything was told
abbrev pub StillPlain : Current → ℕ → List ℕ → Type 0
StillPlain c count text = (count ≤ c.count) × (count ≡ c.count → c.plain.items ≡ text)

abbrev pub StillIs : Space → Mark → List ℕ → Type 0
StillIs s (Held place) text = name_at s.table (Some place) ≡ Some text
StillIs s (Own count) text = StillPlain s.own count text
StillIs s (Called count) text = StillPlain s.called count text
StillIs s Unnamed text = text ≡ unknown

-- all that is known of marks
pub record KnownHolds (n : Names) (known : Namespace → Mark → Option (List ℕ)) : Type 0 where
  pub still : (space : Namespace) (mark : Mark) (text : List ℕ) → known space mark ≡ Some text → StillIs (space_of n space) mark text

-- and it holds on, in a name space
abbrev pub SpaceStays : Space → Space → Type 0
SpaceStays old new = (mark : Mark) (text : List ℕ) → StillIs old mark text → StillIs new mark text

-- in all of them
pub record MarksStay (old new : Names) : Type 0 where
  pub objects : SpaceStays old.objects new.objects
  pub files : SpaceStays old.files new.files
  pub functions : SpaceStays old.functions new.functions

-- ---- the texts of names

-- the name in force
abbrev pub own_text : Space → List ℕ
own_text s = unwrap_or (text_of s.table s.own) unknown

pub record AreOwn (n : Names) (names : LentNames) : Type 0 where
  pub object : names.object.text.now ≡ own_text n.objects
  pub file : names.file.text.now ≡ own_text n.files
  pub function : names.function.text.now ≡ own_text n.functions

-- what is called: where no object or file was given, in those in force, and where no function was given, `???`
pub record AreCalled (n : Names) (names : LentNames) : Type 0 where
  pub object : names.object.text.now ≡ unwrap_or (called_name n.objects) (own_text n.objects)
  pub file : names.file.text.now ≡ unwrap_or (called_name n.files) (own_text n.files)
  pub function : names.function.text.now ≡ unwrap_or (called_name n.functions) unknown
