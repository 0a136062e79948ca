-- What each step of a transaction keeps.
use Rattle.std.proofs.Common.{◌≡◌, ℕ, ◌^◌, ◌<◌, List, IsTrue, refl, sym, ap, ap₂, subst, subst₂, ◌∙◌, inl, inr, arith, eq-eqb, ne_eqb}
use Rattle.std.proofs.lemmas.Bool.{cases_eq}
use Rattle.std.proofs.Math.Path.{fun_ext}
use Rattle.sqlite_disk.specs.declared.Disk.{Ghosts}
use Rattle.sqlite_pages.specs.PageMap.{PageMap}
use Rattle.sqlite_pool.specs.declared.pool.Pool.{Pool}
use Rattle.sqlite_pool.specs.File.{version_in, in_use, IsSoundFile, SameButHeader}
use Rattle.sqlite_pool.specs.Pool.{state, usable, version_of, IsClean}
use Rattle.sqlite_pool.proofs.StateLemmas.{settled}
use Rattle.sqlite_wal.proofs.LogLemmas.{SeenMayStay}
use Rattle.sqlite_wal.proofs.StateLemmas.{open_from}
use Rattle.sqlite_pool.specs.Stored.{Keeps, Recovers, RecoversAs}
use Rattle.sqlite_pool.specs.StoredLaws.{carried}
use Rattle.sqlite_pool.specs.Commit.{MayCommitUsable}
use Rattle.sqlite_wal.specs.Recovery.{AreWhole}
use Rattle.sqlite_value.specs.Order.{Row}
use Rattle.sqlite_store.specs.declared.catalog.Wanted.{Wanted}
use Rattle.sqlite_store.specs.Db.{rows_at, roots_of, Edits, Names}
use Rattle.sqlite_store.specs.Exact.{IsExact, IsNumberedDb}
use Rattle.sqlite_store.specs.Listing.{all_trees}
use Rattle.sqlite_store.proofs.DbLemmas.{resealed}
use Rattle.sqlite_store.proofs.ListingLemmas.{edited_all, past_version, same_trees}
use Rattle.sqlite_trees.specs.declared.store.Shape.{Shape}
use Rattle.sqlite_trees.specs.declared.store.Shape.TheVariants.{Table}
use Rattle.sqlite_trees.specs.Objects.{with_version, version_tree}
use Rattle.sqlite_trees.specs.Tree.{Trees, with_tree}
use Rattle.page_files.specs.declared.files.PageFile.{PageFile}
use Rattle.page_files.specs.Files.{page_size, pages_of, IsFaithful, IsUsable, OnlyReads}
use Rattle.page_files.specs.Held.{Has, IsBehind, Rests, StandsOn, Writes}
use Rattle.page_files.specs.Writes.{CommitsAtMost, Forgets, IsTreeAt}
use Rattle.page_files.proofs.Props.{sound_of, file_of}
use Rattle.page_files.proofs.Reading.{behind_after}

-- a tree below the version's is set beside it
past : (trees : Trees) (version t : ℕ) (rows : List Row) → t < 2 ^ 32 → with_version (with_tree trees t rows) version ≡ with_tree (with_version trees version) t rows
past trees version t rows low = fun_ext (λ u. elim (cases_eq u t) [
  | inl e ↦ rw (e, ne_eqb t version_tree (omega arith), eq-eqb t t refl)
  | inr other ↦ rw (ne_eqb u t other)
])

-- pages under a new header are a file of the same trees
pub sealed : {size : ℕ} {wanted : List Wanted} {roots : List ℕ} {used : PageMap} (pages : PageMap) (version : ℕ) → IsNumberedDb size wanted roots used
    → AreWhole size pages → IsSoundFile size pages → SameButHeader used (in_use size pages) → version_in pages ≡ version
    → Has size wanted (with_version (all_trees size wanted used) version) pages
sealed {size} {wanted} {roots} {used} pages version n whole sound same is =
    let r = resealed n.db (in_use size pages) same in
    record {
      ours = record {
        file = record { whole = whole; sound = sound; db = r.0 };
        numbered = λ _. subst₂ (IsExact wanted) (n.known ∙ sym r.1) (sym r.3) n.exact;
      };
      reads = ap₂ with_version (sym (same_trees size wanted used (in_use size pages) r.2)) (sym is);
    }

module _ {D : Type 0} {g : Ghosts D} where
  -- what is below a transaction stays
  pub stands_on_along : (old new : PageFile D g) {wanted : List Wanted} {roots : List ℕ} {was : Trees} → Keeps (state old.pool) (state new.pool) → StandsOn wanted roots was old → StandsOn wanted roots was new
  stands_on_along old new {wanted} k s = record {
    behind = behind_after old new k s.behind;
    known = λ is_open. s.known (k.stays.was_open is_open) ∙ ap₂ (λ n p. roots_of n wanted (in_use n p)) (sym k.stays.size) (sym (k.committed is_open));
  }

  -- between transactions the file stands on what it holds
  pub stands_on : (it : PageFile D g) {wanted : List Wanted} {roots : List ℕ} {db : Trees} → Rests wanted roots db it → StandsOn wanted roots db it
  stands_on it r = record { behind = r.behind; known = λ _. r.known }

  -- a transaction begins
  pub begins : (it : PageFile D g) {wanted : List Wanted} {roots : List ℕ} {db : Trees} → Rests wanted roots db it → Writes wanted roots db db it
  begins it {wanted} {roots} {db} r =
      let size = page_size it in
      let pages = (state it.pool).committed in
      let has = r.behind.has r.clean.is_open in
      let used = in_use size pages in
      let fresh = r.clean.fresh in
      let numbered : IsNumberedDb size wanted roots used = record { db = has.ours.file.db; known = r.known; exact = subst (λ l. IsExact wanted l (rows_at size used Table 1)) (sym r.known) (has.ours.numbered refl) } in
      record {
        is_open = r.clean.is_open;
        below = stands_on it r;
        numbered = subst (IsNumberedDb size wanted roots) (sym fresh) numbered;
        reads = has.reads ∙ ap (λ u. with_version (all_trees size wanted u) (version_in pages)) (sym fresh);
      }

  -- a call that reads stands in the middle of it
  pub writes_after : (old new : PageFile D g) {wanted : List Wanted} {roots : List ℕ} {was now : Trees} → OnlyReads old new → IsFaithful new → IsUsable new → Writes wanted roots was now old → Writes wanted roots was now new
  writes_after old new {wanted} {roots} {was} {now} reads faithful ready w =
      let is_open = open_from (state new.pool) ready faithful in
      let size = sym reads.keeps.stays.size in
      let pages = sym reads.pages in
      record {
        is_open = is_open;
        below = stands_on_along old new reads.keeps w.below;
        numbered = subst₂ (λ n p. IsNumberedDb n wanted roots p) size pages w.numbered;
        reads = w.reads ∙ ap₂ (λ n p. with_version (all_trees n wanted p) (version_in (state old.pool).committed)) size pages
            ∙ ap (λ p. with_version (all_trees (page_size new) wanted (pages_of new)) (version_in p)) (sym (reads.keeps.committed is_open));
      }

  module _ (old new : PageFile D g) {wanted : List Wanted} {roots : List ℕ} {was now : Trees} {t : ℕ} where
    -- the tree is named to the calls below
    pub names : {shape : Shape} {root : ℕ} → Writes wanted roots was now old → IsTreeAt wanted roots t shape root → Names (page_size old) wanted (pages_of old) t shape root
    names {shape} {root} w is = record { shape_is = is.shape_is; root_is = subst (λ l. Rattle.std.specs.Prelude.slice_index l t ≡ root) w.numbered.known is.root_is }

    -- one tree was edited
    pub edited : (edit : List Row → List Row) → Keeps (state old.pool) (state new.pool) → IsTrue (state new.pool).is_open → Writes wanted roots was now old → t < 2 ^ 32
        → Edits (page_size old) wanted (pages_of old) (pages_of new) t edit → Writes wanted roots was (with_tree now t (edit (now t))) new
    edited edit k is_open w low e =
        let size = page_size old in
        let trees = all_trees size wanted (pages_of old) in
        let version = version_in (state old.pool).committed in
        let here : now t ≡ trees t = ap (λ f. f t) w.reads ∙ past_version t low trees version in
        let after = edited_all t low size wanted (pages_of old) (pages_of new) edit e.trees in
        let numbered : IsNumberedDb size wanted roots (pages_of new) = record { db = e.db; known = w.numbered.known ∙ sym e.roots; exact = subst (IsExact wanted roots) (sym e.listed) w.numbered.exact } in
        record {
          is_open = is_open;
          below = stands_on_along old new k w.below;
          numbered = subst (λ n. IsNumberedDb n wanted roots (pages_of new)) (sym k.stays.size) numbered;
          reads = ap₂ (λ f rows. with_tree f t (edit rows)) w.reads here ∙ sym (past trees version t (edit (trees t)) low) ∙ ap (λ f. with_version f version) (sym after)
              ∙ ap₂ (λ n p. with_version (all_trees n wanted (pages_of new)) (version_in p)) (sym k.stays.size) (sym (k.committed is_open));
        }

  -- it was opened on files of these trees, or has committed them
  held : (new : PageFile D g) {wanted : List Wanted} {db : Trees} → SeenMayStay g → IsTrue (state new.pool).is_open → Has (page_size new) wanted db (state new.pool).committed → IsBehind wanted db new
  held new stays is_open here = record { has = λ _. here; left = λ left may. ((state new.pool).committed, (settled new.pool stays is_open).durable left may, here) }

  -- what was written is forgotten
  pub rests_again : (old new : PageFile D g) {wanted : List Wanted} {roots : List ℕ} {was : Trees} → SeenMayStay g → IsTrue (state old.pool).is_open → page_size new ≡ page_size old → Forgets old new
      → StandsOn wanted roots was old → Rests wanted roots was new
  rests_again old new {wanted} {roots} {was} stays was_open sized f s =
      let size = sym sized in
      let same = sym f.committed in
      record {
        clean = f.clean;
        behind = held new stays f.clean.is_open (subst₂ (λ n p. Has n wanted was p) size same (s.behind.has was_open));
        known = s.known was_open ∙ ap₂ (λ n p. roots_of n wanted (in_use n p)) size same;
      }

  module _ (old new : PageFile D g) (stays : SeenMayStay g) {wanted : List Wanted} {roots : List ℕ} {was now : Trees} (w : Writes wanted roots was now old) where
    -- what was seen is committed
    pub committed : page_size new ≡ page_size old → IsClean new.pool → SameButHeader (pages_of old) (pages_of new) → version_in (state new.pool).committed ≡ version_in (state old.pool).committed
        → Rests wanted roots now new
    committed sized tidy same version =
        let size = page_size old in
        let calm = settled new.pool stays tidy.is_open in
        let pages = (state new.pool).committed in
        let whole = subst (λ n. AreWhole n pages) sized calm.whole in
        let sound = subst (λ n. IsSoundFile n pages) sized (sound_of tidy.sound) in
        let fresh : pages_of new ≡ in_use size pages = tidy.fresh ∙ ap (λ n. in_use n pages) sized in
        let under = subst (SameButHeader (pages_of old)) fresh same in
        let has = sealed pages (version_in (state old.pool).committed) w.numbered whole sound under version in
        let here = subst₂ (λ n db. Has n wanted db pages) (sym sized) (sym w.reads) has in
        record {
          clean = tidy;
          behind = held new stays tidy.is_open here;
          known = w.numbered.known ∙ sym (resealed w.numbered.db (in_use size pages) under).1 ∙ ap (λ n. roots_of n wanted (in_use n pages)) (sym sized);
        }

  -- a crash leaves what was there, or what was seen
  pub may_commit : (old new : PageFile D g) (mid : Pool D g) → Keeps (state old.pool) (state mid) → usable mid ≡ pages_of old
      → (IsTrue (state old.pool).is_open → version_of mid ≡ version_in (state old.pool).committed) → MayCommitUsable mid new.pool → CommitsAtMost old new
  may_commit old new mid k same version m image may =
      let size = page_size old in
      let sized : (state mid).page_size ≡ size = k.stays.size in
      elim (m.crash image may) [
        | inl kept ↦
            let first = k.crash kept.0 kept.1 in
            inl (first.0, first.1, λ stored found. subst (λ n. RecoversAs n kept.0 image) sized kept.2 stored (first.2 stored found))
        | inr made ↦
            let pages = made.1.0 in
            inr (
              pages,
              subst (λ n. Recovers n image pages) sized made.1.1,
              λ wanted roots was now w.
                  let file = file_of made.1.2 in
                  let has = sealed pages (version_in (state old.pool).committed) w.numbered (subst (λ n. AreWhole n pages) sized file.whole) (subst (λ n. IsSoundFile n pages) sized file.sound)
                  (subst₂ (λ u n. SameButHeader u (in_use n pages)) same sized file.same) (made.1.4 ∙ version w.is_open) in
                  subst (λ db. Has size wanted db pages) (sym w.reads) has,
            )
      ]

  -- the same, once what is left to write was forgotten
  pub may_commit_then : (old mid new : PageFile D g) → Keeps (state mid.pool) (state new.pool) → page_size mid ≡ page_size old → CommitsAtMost old mid → CommitsAtMost old new
  may_commit_then old mid new k sized c image may =
      let (middle, in_mid, later) = k.crash image may in
      let along = subst (λ n. RecoversAs n middle image) sized later in
      elim (c middle in_mid) [
        | inl was ↦ inl (was.0, was.1, λ stored found. along stored (was.2 stored found))
        | inr made ↦ inr (made.0, carried (page_size old) middle image along made.0 made.1, made.2)
      ]
