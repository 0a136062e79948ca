-- A file that is as it was found.
use Rattle.std.specs.Prelude.{◌≡◌, ℕ, List, Option, Some, None, IsTrue}
use Rattle.std.specs.declared.vec.Vec.{Vec}
use Rattle.sqlite_disk.specs.declared.Disk.{Ghosts}
use Rattle.sqlite_disk.specs.declared.start.Start as start
use Rattle.sqlite_disk.specs.Disk.{Only}

-- it shows what it held first, a crash leaves just that, and no sync of it has failed
abbrev pub IsUntouched : {D : Type 0} → Ghosts D → List ℕ → D → Type 0
IsUntouched g first file = (g.seen file ≡ first) × Only first (g.may_leave file) × IsTrue (g.is_usable file)

-- what a file held first: a log, where its bytes are held, or else a database file
abbrev pub first_of : {S A : Type 0} → start.Ghosts S → Option (Vec ℕ A) → List ℕ
first_of first None = first.db
first_of first (Some held) = first.log
