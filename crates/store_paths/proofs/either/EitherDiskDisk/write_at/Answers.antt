use Rattle.store_paths.proofs.EitherLemmas.{frozen_one, frozen_other}
use Rattle.store_paths.proofs.either.EitherDiskDisk.write_at.Goals as goal

pub returns-in-One : goal.returns-in-One
returns-in-One g c =
    let said = c.write_at.ensures in
    rw c.in-One.is (record {
      written = said.written;
      faults = said.faults;
      clean = said.clean;
      calm = said.calm;
      fair = said.fair;
      frozen = frozen_one g.A.Disk g.B.Disk _ said.frozen;
      others = said.others;
      tally = said.tally;
      key = said.key;
      usable = said.usable;
      mixing = said.mixing;
      mixed = said.mixed;
      crash = said.crash;
    })

pub returns-in-Other : goal.returns-in-Other
returns-in-Other g c =
    let said = c.write_at-in-Other.ensures in
    rw c.in-Other.is (record {
      written = said.written;
      faults = said.faults;
      clean = said.clean;
      calm = said.calm;
      fair = said.fair;
      frozen = frozen_other g.A.Disk g.B.Disk _ said.frozen;
      others = said.others;
      tally = said.tally;
      key = said.key;
      usable = said.usable;
      mixing = said.mixing;
      mixed = said.mixed;
      crash = said.crash;
    })
