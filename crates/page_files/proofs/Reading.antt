-- What calls that read leave.
use Rattle.std.proofs.Common.{◌≡◌, ◌≤◌, ℕ, List, refl, sym, ap₂, subst, subst₂, ◌∙◌}
use Rattle.sqlite_pages.specs.declared.error.Error.{Error}
use Rattle.sqlite_store.proofs.Causes.{since}
use Rattle.sqlite_disk.specs.declared.Disk.{Ghosts}
use Rattle.sqlite_pool.specs.Pool as pools
use Rattle.sqlite_pool.specs.File.{in_use, IsSoundFile}
use Rattle.sqlite_pool.specs.Stored.{Keeps, LeavesOnly}
use Rattle.sqlite_pool.specs.StoredLaws.{Keeps-refl, Keeps-trans, LeavesOnly-keeps}
use Rattle.sqlite_wal.proofs.StateLemmas.{open_from}
use Rattle.sqlite_store.specs.declared.catalog.Wanted.{Wanted}
use Rattle.sqlite_store.specs.Db.{IsDb, roots_of, trees_in}
use Rattle.sqlite_trees.specs.Tree.{Trees}
use Rattle.sqlite_value.specs.declared.keys.Order.{Order}
use Rattle.page_rows.specs.Tables.{IsIndexRooted, IsRooted}
use Rattle.page_files.specs.declared.files.PageFile.{PageFile}
use Rattle.page_files.specs.Files.{faults, page_size, pages_of, FailsToRead, IsFaithful, IsUsable, OnlyReads}
use Rattle.page_files.specs.Held.{Has, IsBehind, Rests}
use Rattle.page_files.specs.Trees.{ShowsIndex, ShowsTable, trees_of}

module _ {D : Type 0} {g : Ghosts D} where
  pub OnlyReads-refl : (it : PageFile D g) → OnlyReads it it
  OnlyReads-refl it = record { keeps = Keeps-refl _; marks = λ is_open. refl; pages = refl }

  pub OnlyReads-trans : (a b c : PageFile D g) → OnlyReads a b → OnlyReads b c → OnlyReads a c
  OnlyReads-trans a b c first next = record {
    keeps = Keeps-trans _ _ _ first.keeps next.keeps;
    marks = λ is_open. next.marks is_open ∙ first.marks (next.keeps.stays.was_open is_open);
    pages = next.pages ∙ first.pages;
  }

  -- what is committed and what a crash leaves stay, also where pages were written since
  pub behind_after : (old new : PageFile D g) {wanted : List Wanted} {was : Trees} → Keeps (pools.state old.pool) (pools.state new.pool) → IsBehind wanted was old → IsBehind wanted was new
  behind_after old new {wanted} {was} k b = record {
    has = λ is_open. subst₂ (λ n p. Has n wanted was p) (sym k.stays.size) (sym (k.committed is_open)) (b.has (k.stays.was_open is_open));
    left = subst (λ n. LeavesOnly (pools.state new.pool) (Has n wanted was)) (sym k.stays.size) (LeavesOnly-keeps (pools.state old.pool) (pools.state new.pool) (Has (page_size old) wanted was) k b.left);
  }

  -- files that show the same pages show the same trees
  module _ (old new : PageFile D g) (size : page_size new ≡ page_size old) (pages : pages_of new ≡ pages_of old) where
    pub same_trees : (wanted : List Wanted) → trees_of wanted new ≡ trees_of wanted old
    same_trees wanted = ap₂ (λ n p. trees_in n wanted p) size pages

    pub same_table : {wanted : List Wanted} {t root : ℕ} → ShowsTable wanted t root old → ShowsTable wanted t root new
    same_table {wanted} {t} {root} is = record {
      is_db = subst₂ (λ n p. IsDb n wanted p) (sym size) (sym pages) is.is_db;
      rooted = subst₂ (λ n p. IsRooted n wanted p t root) (sym size) (sym pages) is.rooted;
    }

    pub same_index : {wanted : List Wanted} {t root : ℕ} {order : Order} → ShowsIndex wanted t order root old → ShowsIndex wanted t order root new
    same_index {wanted} {t} {root} {order} is = record {
      is_db = subst₂ (λ n p. IsDb n wanted p) (sym size) (sym pages) is.is_db;
      rooted = subst₂ (λ n p. IsIndexRooted n wanted p t order root) (sym size) (sym pages) is.rooted;
    }

  module _ (old new : PageFile D g) (reads : OnlyReads old new) where
    sized : page_size new ≡ page_size old
    sized = reads.keeps.stays.size

    -- the trees that are shown
    pub trees_after : (wanted : List Wanted) → trees_of wanted new ≡ trees_of wanted old
    trees_after wanted = same_trees old new sized reads.pages wanted

    pub index_after : {wanted : List Wanted} {t root : ℕ} {order : Order} → ShowsIndex wanted t order root old → ShowsIndex wanted t order root new
    index_after is = same_index old new sized reads.pages is

    -- what is held between transactions
    pub rests_after : {wanted : List Wanted} {roots : List ℕ} {db : Trees} → IsFaithful new → IsUsable new → Rests wanted roots db old → Rests wanted roots db new
    rests_after {wanted} {roots} {db} faithful usable was =
        let is_open = open_from (pools.state new.pool) usable faithful in
        let same = reads.keeps.committed is_open in
        record {
          clean = record {
            is_open = is_open;
            sound = subst₂ (λ n p. ∥ IsSoundFile n p ∥₁) (sym sized) (sym same) was.clean.sound;
            fresh = reads.pages ∙ was.clean.fresh ∙ ap₂ in_use (sym sized) (sym same);
            unmarked = reads.marks is_open ∙ was.clean.unmarked;
          };
          behind = behind_after old new reads.keeps was.behind;
          known = was.known ∙ ap₂ (λ n p. roots_of n wanted (in_use n p)) (sym sized) (sym same);
        }

  -- a later call fails for a cause
  pub fails_later : (a b c : PageFile D g) (e : Error) → faults a ≤ faults b → faults b ≤ faults c → FailsToRead b c e → FailsToRead a c e
  fails_later a b c e early late = since (faults a) (faults b) (pools.ending c.pool) ⊥ e early late
