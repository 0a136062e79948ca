-- The size of the pages of files.
use Rattle.std.specs.Prelude.{◌≡◌, ℕ}
use Rattle.sqlite_pages.specs.PageMap.{PageMap}
use Rattle.sqlite_pool.specs.File.{IsSoundFile}
use Rattle.sqlite_pool.specs.Stored.{Adopts, stored_size}
use Rattle.sqlite_wal.specs.PageSize.{IsPageSize}
use Rattle.sqlite_wal.specs.Recovery.{Image}

-- a page may be so long, and each sound file to which this image recovers has pages of this size, which end in no sums
pub record IsSizeOf (image : Image) (n : ℕ) : Type 0 where
  pub allowed : IsPageSize n
  pub only : (size : ℕ) (pages : PageMap) → IsPageSize (stored_size size) → Adopts size image pages → IsSoundFile size pages → size ≡ n
