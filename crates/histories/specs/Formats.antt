-- The formats in which files are read.
use Rattle.callgrind_reader.specs.Grammars.{Grammar, Second}
use Rattle.profile_records.specs.declared.kinds.Kind.{Kind}
use Rattle.profile_records.specs.declared.kinds.Kind.TheVariants as kinds

-- that of Callgrind, by one of its grammars, or folded stacks
pub data Format : Type 0 where
  Callgrind : Grammar → Format
  Folded : Format

abbrev pub kind_in : Format → Kind
kind_in (Callgrind g) = kinds.Callgrind
kind_in Folded = kinds.Folded

-- how a file of a kind is read now
abbrev pub today : Kind → Format
today kinds.Callgrind = Callgrind Second
today kinds.Folded = Folded
