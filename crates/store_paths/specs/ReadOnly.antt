-- A disk of which the one below is only read.
use Rattle.std.specs.Prelude.{◌≡◌, ℕ, Option}
use Rattle.std.specs.declared.vec.Vec.{Vec}
use Rattle.std.specs.declared.alloc.Global.{Global}
use Rattle.sqlite_disk.specs.declared.Disk.{Ghosts}
use Rattle.sqlite_disk.specs.declared.start.Start as start
use Rattle.store_paths.specs.declared.disk.ReadOnly.{ReadOnly}

module _ {D S : Type 0} {g : Ghosts D} {first : start.Ghosts S} where
  -- the disk below
  abbrev pub below_of : ReadOnly D S g first → D
  below_of it = it.below

  -- the bytes that are held of a log
  abbrev pub held_of : ReadOnly D S g first → Option (Vec ℕ Global)
  held_of it = it.held

  -- it has failed no call
  abbrev pub IsFresh : ReadOnly D S g first → Type 0
  IsFresh it = (it.faults ≡ 0) × (it.caught ≡ 0)
