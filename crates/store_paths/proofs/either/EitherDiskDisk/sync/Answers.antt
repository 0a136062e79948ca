use Rattle.store_paths.proofs.EitherLemmas.{frozen_one, frozen_other}
use Rattle.store_paths.proofs.either.EitherDiskDisk.sync.Goals as goal

pub returns-in-One : goal.returns-in-One
returns-in-One g c =
    let said = c.sync.ensures in
    rw c.in-One.is (record {
      durable = said.durable;
      faults = said.faults;
      clean = said.clean;
      calm = said.calm;
      fair = said.fair;
      frozen = frozen_one g.A.Disk g.B.Disk _ said.frozen;
      seen = said.seen;
      tally = said.tally;
      key = said.key;
      rot = said.rot;
      usable = said.usable;
      crash = said.crash;
    })

pub returns-in-Other : goal.returns-in-Other
returns-in-Other g c =
    let said = c.sync-in-Other.ensures in
    rw c.in-Other.is (record {
      durable = said.durable;
      faults = said.faults;
      clean = said.clean;
      calm = said.calm;
      fair = said.fair;
      frozen = frozen_other g.A.Disk g.B.Disk _ said.frozen;
      seen = said.seen;
      tally = said.tally;
      key = said.key;
      rot = said.rot;
      usable = said.usable;
      crash = said.crash;
    })
