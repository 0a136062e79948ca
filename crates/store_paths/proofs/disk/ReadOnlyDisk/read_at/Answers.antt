use Rattle.store_paths.proofs.disk.ReadOnlyDisk.read_at.Goals as goal

pub returns-in-None-clause-read : goal.returns-in-None-clause-read
returns-in-None-clause-read g c = rw c.in-None.is c.read_at.ensures.read
