-- The marks of names: what a record tells of them, and what a sink may know of them afterwards.
use Rattle.std.specs.Prelude.{◌≡◌, ◌⊎◌, ℕ, List, Option, Some}
use Rattle.cg_text.specs.declared.words.Namespace.{Namespace}
use Rattle.cg_text.specs.declared.words.Namespace.TheVariants.{Object, File, Function}
use Rattle.profile_records.specs.declared.marks.LentName.{LentName}
use Rattle.profile_records.specs.declared.marks.LentNames.{LentNames}
use Rattle.profile_records.specs.declared.marks.Mark.{Mark}
use Rattle.profile_records.specs.declared.sink.CallCost.{CallCost}

-- the name of a name space
abbrev pub name_in : LentNames → Namespace → LentName
name_in names Object = names.object
name_in names File = names.file
name_in names Function = names.function

-- a name tells its text of its mark
abbrev pub name_tells : LentName → Mark → List ℕ → Type 0
name_tells name mark text = (name.mark ≡ mark) × (name.text.now ≡ text)

-- names tell their texts of the marks of their name spaces
abbrev pub names_tell : LentNames → Namespace → Mark → List ℕ → Type 0
names_tell names space = name_tells (name_in names space)

-- and so does a call, by the names of its place or of what is called
abbrev pub call_tells : CallCost → Namespace → Mark → List ℕ → Type 0
call_tells r space mark text = names_tell r.names space mark text ⊎ names_tell r.called space mark text

-- one text is told of a mark, which is the one that was known
pub record Agrees (known : Namespace → Mark → Option (List ℕ)) (told : Namespace → Mark → List ℕ → Type 0) : Type 0 where
  pub before : (space : Namespace) (mark : Mark) (text other : List ℕ) → known space mark ≡ Some text → told space mark other → text ≡ other
  pub alike : (space : Namespace) (mark : Mark) (text other : List ℕ) → told space mark text → told space mark other → text ≡ other

-- what is known afterwards was known before or was told
abbrev pub Learns : (Namespace → Mark → Option (List ℕ)) → (Namespace → Mark → List ℕ → Type 0) → (Namespace → Mark → Option (List ℕ)) → Type 0
Learns known told after = (space : Namespace) (mark : Mark) (text : List ℕ) → after space mark ≡ Some text → (known space mark ≡ Some text) ⊎ told space mark text

-- nothing is known
abbrev pub KnowsNothing : (Namespace → Mark → Option (List ℕ)) → Type 0
KnowsNothing known = (space : Namespace) (mark : Mark) (text : List ℕ) → known space mark ≡ Some text → ⊥
