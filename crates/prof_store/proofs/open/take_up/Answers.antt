use Rattle.prof_store.proofs.Opening.{clean_before}
use Rattle.prof_store.proofs.open.take_up.Goals as goal

pub returns : goal.returns
returns g c clean =
    let version = c.version_of-version.result in
    let opens = c.take_up_as.ensures clean in
    record {
      mid = c.version_of-version.new.conn;
      version = version;
      asked = c.version_of-version.ensures (clean_before g.S.Store version _ _ _ opens clean);
      opens = opens;
    }
