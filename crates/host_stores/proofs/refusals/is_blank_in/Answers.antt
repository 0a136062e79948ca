use Rattle.std.proofs.Common.{rules, ◌≡◌}
use Rattle.sqlite_wal.specs.PageSize.{bytes_of}
use Rattle.host_stores.proofs.refusals.is_blank_in.Goals as goal

pub returns-in-Ok-clause-blank : goal.returns-in-Ok-clause-blank
returns-in-Ok-clause-blank g c clean =
    let size : bytes_of c.unwrap-size.result ≡ 4096 = search rules in
    rw size at (c.in-Ok.ensures.ok clean)
