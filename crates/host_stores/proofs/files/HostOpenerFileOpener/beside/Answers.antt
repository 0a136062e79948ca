use Rattle.sqlite_wal.specs.Files.{image_at}
use Rattle.host_stores.proofs.files.HostOpenerFileOpener.beside.Goals as goal

pub returns-in-Ok : goal.returns-in-Ok
returns-in-Ok g c = c.held_beside.ensures (image_at g.H.Start.Start) c.read_as_third.ensures
