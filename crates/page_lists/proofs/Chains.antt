-- Calls that read, one after another.
use Rattle.sqlite_disk.specs.declared.Disk.{Ghosts}
use Rattle.page_files.specs.declared.files.PageFile.{PageFile}
use Rattle.page_files.specs.Files.{OnlyReads}
use Rattle.page_files.proofs.Reading.{OnlyReads-trans}

infixl 30 ◌⊳◌
module _ {D : Type 0} {g : Ghosts D} where
  pub ◌⊳◌ : {a b c : PageFile D g} → OnlyReads a b → OnlyReads b c → OnlyReads a c
  ◌⊳◌ {a} {b} {c} first next = OnlyReads-trans a b c first next
