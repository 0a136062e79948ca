use Rattle.std.proofs.Common.{sym, subst}
use Rattle.sqlite_wal.proofs.CleanLemmas.{both_clean}
use Rattle.sqlite_wal.specs.PageSize.{bytes_of}
use Rattle.sqlite_wal.specs.Recovery as raw
use Rattle.page_lists.proofs.Probing as probing
use Rattle.page_lists.proofs.files.plain_size.Goals as goal

pub returns-clause-size : goal.returns-clause-size
returns-clause-size g c clean = record {
  allowed = (c.in-Ok-Some.size.smallest, c.in-Ok-Some.size.largest, c.in-Ok-Some.size.power, c.in-Ok-Some.size.aligned);
  only = λ size pages valid adopts sound.
      let probe = c.probe_page_size.ensures in
      let head = c.probe_first_page.ensures in
      let chosen = c.in-Ok-Some.size in
      let earlier = both_clean _ _ _ _ head.log.clean head.db.clean clean in
      let named =
      probing.size_named _ size pages valid adopts sound (bytes_of chosen)
      (λ seen. (rw c.in-Ok-Some.field-0-is at (c.in-Ok-Some.ensures.by_log earlier seen)).1)
      (λ ignored. (rw c.in-Ok-Some.field-0-is at (c.in-Ok-Some.ensures.by_file earlier ignored)).1) in
      probing.plain_size _ size pages valid adopts sound (bytes_of chosen) c.in-Ok.head.1 named c.if-head-eq-WITH_SUMS.false
      (λ stored first there is len. (c.in-Ok.ensures.value clean stored first (subst (λ image. raw.Recovers (bytes_of chosen) image stored) (sym (probing.same_image probe.log probe.db)) there) is len).1);
}
