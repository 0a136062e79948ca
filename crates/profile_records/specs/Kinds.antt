-- The kinds of runs by number.
use Rattle.std.specs.Prelude.{ℕ}
use Rattle.profile_records.specs.declared.kinds.Kind.{Kind}
use Rattle.profile_records.specs.declared.kinds.Kind.TheVariants.{Callgrind, Folded}

abbrev pub kind_number : Kind → ℕ
kind_number Callgrind = 1
kind_number Folded = 2
