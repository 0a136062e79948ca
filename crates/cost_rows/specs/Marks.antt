-- The numbers of names by the marks that the names came with.
use Rattle.std.specs.Prelude.{◌≡◌, ◌⊎◌, ℕ, ◌<◌, ◌==◌, if◌then◌else◌, List, length, Option, Some, None, slice_get}
use Rattle.cg_text.specs.declared.words.Namespace.{Namespace}
use Rattle.cg_text.specs.declared.words.Namespace.TheVariants.{Object, File, Function}
use Rattle.profile_records.specs.Marks.{Learns, name_tells}
use Rattle.profile_records.specs.declared.marks.LentName.{LentName}
use Rattle.profile_records.specs.declared.marks.Mark.{Mark}
use Rattle.profile_records.specs.declared.marks.Mark.TheVariants.{Held, Own, Called, Unnamed}
use Rattle.cost_rows.specs.declared.marks.Marks.{Marks}
use Rattle.cost_rows.specs.declared.marks.PlainNumber.{PlainNumber}
use Rattle.cost_rows.specs.declared.marks.SpaceMarks.{SpaceMarks}

-- ---- in a name space

abbrev pub kept_in : Option (Option ℕ) → Option ℕ
kept_in None = None
kept_in (Some number) = number

-- the number that is kept of a place
abbrev pub number_held : List (Option ℕ) → ℕ → Option ℕ
number_held numbers place = kept_in (slice_get numbers place)

-- the number that is kept of a name without an identifier, by how many of them had come
abbrev pub number_counted : Option PlainNumber → ℕ → Option ℕ
number_counted None count = None
number_counted (Some plain) count = if plain.count == count then Some plain.number else None

-- the number that is kept of a mark
abbrev pub number_at : SpaceMarks → Mark → Option ℕ
number_at s (Held place) = number_held s.held.items place
number_at s (Own count) = number_counted s.own count
number_at s (Called count) = number_counted s.called count
number_at s Unnamed = None

-- no other mark has a new number
abbrev pub KeepsMark : Mark → ℕ → SpaceMarks → SpaceMarks → Type 0
KeepsMark mark number old new = (m : Mark) (n : ℕ) → number_at new m ≡ Some n → (number_at old m ≡ Some n) ⊎ ((m ≡ mark) × (n ≡ number))

-- each number is that of a name
abbrev pub AreNamed : List (List ℕ) → SpaceMarks → Type 0
AreNamed names s = (mark : Mark) (n : ℕ) → number_at s mark ≡ Some n → n < length names

abbrev pub name_numbered : List (List ℕ) → Option ℕ → Option (List ℕ)
name_numbered names None = None
name_numbered names (Some n) = slice_get names n

-- the name whose number is kept of a mark
abbrev pub known_at : List (List ℕ) → SpaceMarks → Mark → Option (List ℕ)
known_at names s mark = name_numbered names (number_at s mark)

-- a name that was lent got its number, among these names: its mark may be kept with it
pub record LearnsName (old : List (List ℕ)) (before : SpaceMarks) (name : LentName) (new : List (List ℕ)) (after : SpaceMarks) : Type 0 where
  pub named : AreNamed new after
  pub learns : (mark : Mark) (text : List ℕ) → known_at new after mark ≡ Some text → (known_at old before mark ≡ Some text) ⊎ name_tells name mark text

-- ---- in all name spaces

abbrev pub marks_in : Marks → Namespace → SpaceMarks
marks_in m Object = m.objects
marks_in m File = m.files
marks_in m Function = m.functions

abbrev pub HaveNames : List (List ℕ) → Marks → Type 0
HaveNames names m = (space : Namespace) → AreNamed names (marks_in m space)

abbrev pub known_by : List (List ℕ) → Marks → Namespace → Mark → Option (List ℕ)
known_by names m space mark = known_at names (marks_in m space) mark

-- names that were lent got their numbers: what was told of their marks may be known
pub record LearnsNames (old : List (List ℕ)) (before : Marks) (told : Namespace → Mark → List ℕ → Type 0) (new : List (List ℕ)) (after : Marks) : Type 0 where
  pub named : HaveNames new after
  pub learns : Learns (known_by old before) told (known_by new after)
