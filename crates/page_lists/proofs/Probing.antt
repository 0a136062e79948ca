-- What is read of files before they are opened tells the size of their pages.
use Rattle.std.proofs.Common.{◌≡◌, ◌≢◌, ℕ, ◌+◌, ◌*◌, ◌%◌, ◌≤◌, List, length, Some, refl, sym, ap₂, subst, ◌∙◌, inl, inr, arith, IsTrue, eq-eqb, ne_eqb}
use Rattle.std.proofs.lemmas.Bool.{cases_eq}
use Rattle.sqlite_disk.specs.declared.Disk.{Ghosts}
use Rattle.sqlite_pages.specs.PageMap.{PageMap}
use Rattle.sqlite_pool.specs.File.{IsSoundFile}
use Rattle.sqlite_pool.specs.Stored.{Adopts, reserved, stored_size}
use Rattle.sqlite_pool.specs.Pool.{files, state}
use Rattle.sqlite_pool.specs.declared.pool.Pool.{Pool}
use Rattle.sqlite_pool.proofs.ProbeLemmas.{reserved_word, size_by_file, size_by_log}
use Rattle.sqlite_wal.specs.Files.{outcomes, seen_image}
use Rattle.sqlite_wal.specs.Format.{be32}
use Rattle.sqlite_wal.specs.PageSize.{IsPageSize, size_in_file}
use Rattle.sqlite_wal.specs.Reads.{AreClean, OnlyReads}
use Rattle.sqlite_wal.specs.Recovery as raw
use Rattle.sqlite_wal.specs.Recovery.{Image, IsIgnored}

module _ (image : Image) (size : ℕ) (pages : PageMap) (valid : IsPageSize (stored_size size)) (adopts : Adopts size image pages) (sound : IsSoundFile size pages) where
  large : 504 ≤ size
  large = let few : reserved size ≤ 8 = grind arith in omega (arith, valid.0)

  -- the size that is named is the one of the pages as they are stored
  pub size_named : (n : ℕ) → (¬ IsIgnored image.log → n ≡ be32 image.log 8) → (IsIgnored image.log → n ≡ size_in_file image.db) → stored_size size ≡ n
  size_named n by_log by_file =
      elim (cases_eq (stored_size size) n) [
        | inl same ↦ same
        | inr other ↦
            (let read = λ (seen : ¬ IsIgnored image.log). other (sym (by_log seen ∙ size_by_log size image pages adopts seen)) in
            absurd (read (λ ignored. other (sym (by_file ignored ∙ size_by_file size image pages adopts large sound ignored)))))
      ]

  -- where the first page does not say that they end in sums, it is that of the pages
  pub plain_size : (n word : ℕ) → stored_size size ≡ n → word ≢ 0x0840_2020
      → ((stored : PageMap) (first : List ℕ) → raw.Recovers n image stored → stored 1 ≡ Some first → length first ≡ n → word ≡ be32 first 20) → size ≡ n
  plain_size n word is other says =
      let (first, there, len, reads, begins) = reserved_word size image pages adopts large sound in
      let same : word ≡ reserved size * 0x100_0000 + 0x0040_2020 = says adopts.stored first (subst (λ m. raw.Recovers m image adopts.stored) is adopts.found) there (len ∙ is) ∙ reads in
      elim (cases_eq (size % 16) 8) [
        | inl on ↦ (let eight : reserved size ≡ 8 = rw (eq-eqb _ 8 on) refl in absurd (other (omega (arith, eight, same))))
        | inr off ↦ (let none : reserved size ≡ 0 = rw (ne_eqb _ 8 off) refl in omega (arith, is, none))
      ]

module _ {D : Type 0} {g : Ghosts D} where
  -- reads leave what the files hold
  pub same_image : {log log' db db' : D} → OnlyReads g log log' → OnlyReads g db db' → seen_image g log' db' ≡ seen_image g log db
  same_image logs dbs = ap₂ (λ a b. let it : Image = record { log = a; db = b } in it) logs.seen dbs.seen

  -- a pool that took no wrong answer has files that gave none
  pub clean_files : (it : Pool D g) → IsTrue (state it).is_clean → AreClean g (files it).0 (files it).1
  unfolding state files
  clean_files it clean = clean

  -- and a crash leaves of its pages what it may leave of the files
  pub left_files : (it : Pool D g) (image : Image) → (state it).may_leave image → outcomes g (files it).0 (files it).1 image
  unfolding state files
  left_files it image may = may.1

  -- of files that were read a crash leaves no more
  pub left_before : {log log' db db' : D} → OnlyReads g log log' → OnlyReads g db db' → (image : Image) → outcomes g log' db' image → outcomes g log db image
  left_before logs dbs image may = (logs.crash image.log may.0, dbs.crash image.db may.1)
