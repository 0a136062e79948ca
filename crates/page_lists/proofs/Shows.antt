-- Files that show rows.
use Rattle.std.proofs.Common.{◌≡◌, ℕ, ℤ, negsuc, ◌-◌, ◌^◌, pos, ◌+ℤ◌, List, ◌∷◌, sym, ap, ap₂, subst, subst₂, ◌∙◌}
use Rattle.sqlite_disk.specs.declared.Disk.{Ghosts}
use Rattle.sqlite_value.specs.declared.value.Value.TheVariants.{Int}
use Rattle.sqlite_value.specs.Order.{Row}
use Rattle.sqlite_trees.specs.Tree.{Trees, rowid}
use Rattle.page_files.specs.declared.files.PageFile.{PageFile}
use Rattle.page_files.specs.Files.{OnlyReads, page_size, pages_of}
use Rattle.page_rows.specs.Rows.{from_rowid}
use Rattle.page_files.proofs.Reading.{same_table, same_trees}
use Rattle.page_rows.proofs.FileTables.{all_shown_from_least, shown_behind}
use Rattle.page_files.specs.Trees.{StandsIn}
use Rattle.sqlite_store.specs.declared.catalog.Wanted.{Wanted}
use Rattle.sqlite_store.specs.Db.{roots_of, IsDb}
use Rattle.sqlite_store.specs.Listing.{all_trees}
use Rattle.sqlite_trees.specs.Objects.{with_version}
use Rattle.page_lists.specs.Shown.{ShowsRows}

module _ {D : Type 0} {g : Ghosts D} where
  -- files that show the same pages show the same rows
  module _ (old new : PageFile D g) (size : page_size new ≡ page_size old) (pages : pages_of new ≡ pages_of old) where
    pub same_rows : (root : ℕ) (rows : List Row) → ShowsRows old root rows → ShowsRows new root rows
    same_rows root rows is = record {
      wanted = is.wanted;
      t = is.t;
      shows = same_table old new size pages is.shows;
      rows_are = ap (λ (trees : Trees). trees is.t) (same_trees old new size pages is.wanted) ∙ is.rows_are;
    }

    -- and the same trees
    pub same_stands : {wanted : List Wanted} {known : List ℕ} {db : Trees} → StandsIn wanted known db old → StandsIn wanted known db new
    same_stands {wanted} stands = record {
      is_db = subst₂ (λ n p. IsDb n wanted p) (sym size) (sym pages) stands.is_db;
      known_are = stands.known_are ∙ ap₂ (λ n p. roots_of n wanted p) (sym size) (sym pages);
      version = stands.version;
      reads = stands.reads ∙ ap₂ (λ n p. with_version (all_trees n wanted p) stands.version) (sym size) (sym pages);
    }

  -- calls that read leave the rows
  pub shows_after : (old new : PageFile D g) (root : ℕ) (rows : List Row) → OnlyReads old new → ShowsRows old root rows → ShowsRows new root rows
  shows_after old new root rows reads is = same_rows old new reads.keeps.stays.size reads.pages root rows is

  module _ (file : PageFile D g) (root : ℕ) (rows : List Row) (is : ShowsRows file root rows) where
    pub all_from_least : from_rowid (negsuc (2 ^ 63 - 1)) rows ≡ rows
    all_from_least = subst (λ list. from_rowid (negsuc (2 ^ 63 - 1)) list ≡ list) is.rows_are (all_shown_from_least is.shows.is_db is.shows.rooted)

    pub rows_behind : (at id : ℤ) (row : Row) (rest : List Row) → rowid row ≡ Int id → from_rowid at rows ≡ row ∷ rest → from_rowid (id +ℤ pos 1) rows ≡ rest
    rows_behind at id row rest numbered =
        subst (λ list. from_rowid at list ≡ row ∷ rest → from_rowid (id +ℤ pos 1) list ≡ rest) is.rows_are (shown_behind is.shows.is_db is.shows.rooted at id row rest numbered)
