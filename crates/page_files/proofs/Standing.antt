-- The database that an opened file stands for, between transactions and within one.
use Rattle.std.proofs.Common.{◌≡◌, ℕ, ◌^◌, ◌<◌, Bool, true, false, cond, List, slice_index, Option, Some, None, IsSome, refl, sym, ap, ap₂, subst, subst₂, ◌∙◌, arith}
use Rattle.sqlite_disk.specs.declared.Disk.{Ghosts}
use Rattle.sqlite_pages.specs.PageMap.{PageMap}
use Rattle.sqlite_pool.specs.Pool as pools
use Rattle.sqlite_pool.specs.File.{in_use, unlocked, version_in}
use Rattle.sqlite_pool.specs.FreeList.{live}
use Rattle.sqlite_store.specs.declared.catalog.Wanted.{Wanted}
use Rattle.sqlite_store.specs.Catalog.{shape_at, reals_at}
use Rattle.sqlite_store.specs.Db.{roots_of, IsDb, IsFile}
use Rattle.sqlite_store.specs.Listing.{all_trees, listed_from}
use Rattle.sqlite_store.proofs.DbLemmas.{ordered}
use Rattle.sqlite_store.proofs.ListingLemmas.{named_tree, past_version}
use Rattle.sqlite_trees.specs.declared.store.Shape.{Shape}
use Rattle.sqlite_trees.specs.declared.store.Shape.TheVariants.{Index, Table}
use Rattle.sqlite_trees.specs.Objects.{catalog_tree, with_version}
use Rattle.sqlite_trees.specs.Tree.{IsIndex, Trees}
use Rattle.sqlite_trees.specs.View.{IsShaped}
use Rattle.sqlite_value.specs.declared.keys.Order.{Order}
use Rattle.page_files.specs.declared.files.PageFile.{PageFile}
use Rattle.page_files.specs.Files.{page_size, pages_of, OnlyReads}
use Rattle.page_files.specs.Held.{Rests, Writes}
use Rattle.page_files.specs.Trees.{ShowsDb, ShowsIndex, ShowsTable, StandsIn, trees_of}
use Rattle.page_files.specs.Writes.{IsTreeAt}

none_kept : (a b : Bool) (page : Option (List ℕ)) → page ≡ None → cond a (cond b None page) None ≡ None
none_kept true true page none = refl
none_kept true false page none = none
none_kept false b page none = refl

absent : (o : Option (List ℕ)) → ¬ (IsSome o) → o ≡ None
absent None none = refl
absent (Some x) none = absurd (none refl)

-- no tree has page 0
no_page_zero : {size : ℕ} {wanted : List Wanted} {pages : PageMap} → IsFile size wanted pages → in_use size pages 0 ≡ None
unfolding in_use live unlocked
no_page_zero {size} {wanted} {pages} file =
    none_kept _ _ (pages 0) (absent (pages 0) (λ some. (let low = ((file.sound.counted 0).0 some).0 in omega arith)))

module _ {D : Type 0} {g : Ghosts D} where
  module _ (it : PageFile D g) {wanted : List Wanted} {known : List ℕ} {db : Trees} (rests : Rests wanted known db it) where
    -- between transactions
    pub stands_resting : StandsIn wanted known db it
    stands_resting =
        let has = rests.behind.has rests.clean.is_open in
        record {
          is_db = subst (IsDb (page_size it) wanted) (sym rests.clean.fresh) has.ours.file.db;
          known_are = rests.known ∙ ap (roots_of (page_size it) wanted) (sym rests.clean.fresh);
          version = version_in (pools.state it.pool).committed;
          reads = has.reads ∙ ap (λ p. with_version (all_trees (page_size it) wanted p) (version_in (pools.state it.pool).committed)) (sym rests.clean.fresh);
        }

    pub shows_resting : ShowsDb wanted it
    shows_resting =
        let has = rests.behind.has rests.clean.is_open in
        record { is_db = stands_resting.is_db; no_zero = ap (λ (p : PageMap). p 0) rests.clean.fresh ∙ no_page_zero has.ours.file }

  -- within one
  pub stands_writing : (it : PageFile D g) {wanted : List Wanted} {known : List ℕ} {was now : Trees} → Writes wanted known was now it → StandsIn wanted known now it
  stands_writing it writes = record { is_db = writes.numbered.db; known_are = writes.numbered.known; version = version_in (pools.state it.pool).committed; reads = writes.reads }

  -- the list of its trees
  pub catalog_shown : (it : PageFile D g) {wanted : List Wanted} {known : List ℕ} {db : Trees} → StandsIn wanted known db it → db catalog_tree ≡ listed_from 0 wanted
  unfolding all_trees
  catalog_shown it stands = ap (λ (trees : Trees). trees catalog_tree) stands.reads

  -- calls that read leave it
  pub stands_after : (old new : PageFile D g) {wanted : List Wanted} {known : List ℕ} {db : Trees} → OnlyReads old new → StandsIn wanted known db old → StandsIn wanted known db new
  stands_after old new {wanted} {known} {db} reads is =
      let size = sym reads.keeps.stays.size in
      let pages = sym reads.pages in
      record {
        is_db = subst₂ (λ n p. IsDb n wanted p) size pages is.is_db;
        known_are = is.known_are ∙ ap₂ (λ n p. roots_of n wanted p) size pages;
        version = is.version;
        reads = is.reads ∙ ap₂ (λ n p. with_version (all_trees n wanted p) is.version) size pages;
      }

  module _ (it : PageFile D g) {wanted : List Wanted} {known : List ℕ} {db : Trees} (stands : StandsIn wanted known db it) (t : ℕ) (low : t < 2 ^ 32) where
    -- its trees are shown
    pub tree_shown : trees_of wanted it t ≡ db t
    tree_shown =
        sym (ap (λ (trees : Trees). trees t) stands.reads ∙ past_version t low (all_trees (page_size it) wanted (pages_of it)) stands.version ∙ named_tree t low (page_size it) wanted (pages_of it))

    -- a table under its root
    pub table_stands : (root : ℕ) → shape_at wanted t ≡ Table → reals_at wanted t ≡ 0 → root ≡ slice_index known t → ShowsTable wanted t root it
    table_stands root shape plain root_is =
        record { is_db = stands.is_db; rooted = record { low = low; shape = shape; plain = plain; root_is = root_is ∙ ap (λ l. slice_index l t) stands.known_are } }

    -- an index under its root
    pub index_stands : (root : ℕ) {order : Order} → shape_at wanted t ≡ Index order → reals_at wanted t ≡ 0 → root ≡ slice_index known t → ShowsIndex wanted t order root it
    index_stands root shape plain root_is =
        record { is_db = stands.is_db; rooted = record { low = low; shape = shape; plain = plain; root_is = root_is ∙ ap (λ l. slice_index l t) stands.known_are } }

  module _ (it : PageFile D g) {wanted : List Wanted} {known : List ℕ} {was now : Trees} (writes : Writes wanted known was now it) {t root : ℕ} where
    -- one of the shape of an index is one
    pub index_in : {order : Order} → IsTreeAt wanted known t (Index order) root → reals_at wanted t ≡ 0 → ShowsIndex wanted t order root it
    index_in is plain = index_stands it (stands_writing it writes) t is.low root is.shape_is plain (sym is.root_is)

    -- and what they show is seen
    pub tree_in : {shape : Shape} → IsTreeAt wanted known t shape root → trees_of wanted it t ≡ now t
    tree_in is = tree_shown it (stands_writing it writes) t is.low

-- the entries of an index stand in its order
pub entries_in_order : {D : Type 0} {g : Ghosts D} (it : PageFile D g) {wanted : List Wanted} {t root : ℕ} {order : Order} → ShowsIndex wanted t order root it → IsIndex order (trees_of wanted it t)
entries_in_order it {wanted} {t} shows = subst (λ shape. IsShaped shape (trees_of wanted it t)) shows.rooted.shape (ordered shows.is_db t)
