-- What a `File` shows.
use Rattle.std.specs.Prelude.{◌≡◌, Bool, [], ◌∷◌}
use Rattle.sqlite_disk.specs.declared.modelled.Modelled.{Modelled}
use Rattle.sqlite_disk.specs.declared.calls.Calls as calls
use Rattle.sqlite_disk.specs.declared.start.Start.{Ghosts}
use Rattle.sqlite_disk.specs.Modelled.{start_of}
use Rattle.sqlite_disk.specs.Events.{settled, replay}
use Rattle.store_paths.specs.declared.host.FileToRead.{FileToRead}

module _ {S : Type 0} {g : calls.Ghosts FileToRead} where
  -- its member `is_usable`
  abbrev pub file_is_usable : (start : Ghosts S) → Modelled FileToRead S g start → Bool
  file_is_usable start f = (replay (start_of start f) f.calls.log.events).is_usable

  -- it is the log or the database file, was settled, and nothing has happened since
  abbrev pub IsFresh : {start : Ghosts S} → Bool → Modelled FileToRead S g start → Type 0
  IsFresh is_log f = (f.is_log ≡ is_log) × (f.calls.log.events ≡ settled f.key ∷ [])
