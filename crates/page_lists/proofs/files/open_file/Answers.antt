use Rattle.std.proofs.Common.{ap, subst, sym, ◌∙◌}
use Rattle.sqlite_pool.specs.Stored.{Recovers, RecoversAs}
use Rattle.sqlite_wal.proofs.CleanLemmas.{both_clean}
use Rattle.sqlite_wal.specs.Files.{outcomes, seen_image}
use Rattle.sqlite_wal.specs.Reads.{AreClean}
use Rattle.page_files.specs.Files.{page_size}
use Rattle.page_lists.specs.Sizes.{IsSizeOf}
use Rattle.page_lists.proofs.Probing.{clean_files, left_before, left_files, same_image}
use Rattle.page_lists.proofs.files.open_file.Goals as goal

pub returns-in-Ok-open : goal.returns-in-Ok-open
returns-in-Ok-open g c = record {
  size = λ faithful.
      let there = c.in-Ok-new-2.ensures.files ∙ c.in-Ok-new.ensures.files in
      let clean = subst (λ fs. AreClean g.D.Disk fs.0 fs.1) there (clean_files _ (c.in-Ok-open.ensures.honest faithful)) in
      let size = c.in-Ok-open.ensures.size ∙ c.in-Ok-new-2.ensures.size ∙ c.in-Ok-new.ensures.size in
      subst (IsSizeOf (seen_image g.D.Disk c.args.files.log c.args.files.db)) (sym size) (c.in-Ok.ensures.size clean);
  rests = λ faithful wanted db pages found has.
      let there = ap (λ fs. seen_image g.D.Disk fs.0 fs.1) (c.in-Ok-new-2.ensures.files ∙ c.in-Ok-new.ensures.files) in
      let before = same_image c.plain_size.ensures.log c.plain_size.ensures.db in
      c.in-Ok-open.ensures.rests faithful wanted db pages (subst (λ image. Recovers (page_size c.in-Ok-open.file) image pages) (sym (there ∙ before)) found) has;
  honest = λ faithful.
      let there = c.in-Ok-new-2.ensures.files ∙ c.in-Ok-new.ensures.files in
      let clean = subst (λ fs. AreClean g.D.Disk fs.0 fs.1) there (clean_files _ (c.in-Ok-open.ensures.honest faithful)) in
      both_clean _ _ _ _ c.plain_size.ensures.log.clean c.plain_size.ensures.db.clean clean;
  crash = λ image may.
      let there = c.in-Ok-new-2.ensures.files ∙ c.in-Ok-new.ensures.files in
      let (before, might, same) = c.in-Ok-open.ensures.crash image may in
      (before, left_before c.plain_size.ensures.log c.plain_size.ensures.db before (subst (λ fs. outcomes g.D.Disk fs.0 fs.1 before) there (left_files _ before might)), subst (λ n. RecoversAs n before image) (sym c.in-Ok-open.ensures.size) same);
}
