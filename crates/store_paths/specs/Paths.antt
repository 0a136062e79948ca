-- Paths of no file, and how the pages of a file are kept.
use Rattle.std.specs.Prelude.{◌≡◌, ◌⊎◌, ◌++◌, ℕ, List, codes}
use Rattle.sqlite_pager.specs.declared.pager.Options.{Options}

-- a path that SQLite takes for something else than a file: that of a database in memory, or one that begins as a URI
abbrev pub IsNoFile : List ℕ → Type 0
IsNoFile path = (path ≡ codes ":memory:") ⊎ ((rest : List ℕ) × (path ≡ codes "file:" ++ rest))

-- so many pages that were read are kept, and so many that were written before they go to the log
abbrev pub KeepsPages : ℕ → Options → Type 0
KeepsPages pages options = (options.cache_pages ≡ pages) × (options.spill_pages ≡ pages)
