-- What the files of a store in pages hold, and what a database over them does.
use Rattle.std.proofs.Common.{◌≡◌, ◌&&◌, ◌+◌, true, IsTrue, Result, Ok, Err, IfOk, refl, sym, ap, subst, ◌∙◌, inl, inr, eqb}
use Rattle.std.proofs.lemmas.Bool.{and_from, cases_Bool}
use Rattle.sqlite_disk.specs.Disk.{MoreFaults}
use Rattle.sqlite_disk.specs.declared.Disk.{Ghosts}
use Rattle.sqlite_disk.specs.declared.Files.{Files}
use Rattle.sqlite_disk.specs.declared.tally.Tally.{Tally}
use Rattle.sqlite_wal.proofs.LogLemmas.{SeenMayStay}
use Rattle.sqlite_wal.specs.Files.{outcomes}
use Rattle.sqlite_wal.specs.Recovery.{Image}
use Rattle.sqlite_wal.specs.Reads.{tally_of_files}
use Rattle.sqlite_pool.proofs.StateLemmas.{clean_is, may_leave_is, open_usable}
use Rattle.sqlite_pool.specs.Pool as pools
use Rattle.sqlite_pool.specs.declared.pool.Pool.{Pool}
use Rattle.sqlite_wal.proofs.StateLemmas.{clean_of}
use Rattle.sqlite_catalog.proofs.ReadLemmas.{lists_once}
use Rattle.sqlite_trees.specs.Objects.{catalog_tree}
use Rattle.sqlite_store.specs.Report.{named}
use Rattle.sqlite_store.specs.Unopened.{state_of}
use Rattle.sqlite_store.specs.declared.store.FileStore.{FileStore}
use Rattle.sqlite.specs.Effect.{Database}
use Rattle.sqlite.specs.Files.{file_state, image_of, faults_left, faults_of, tally_left, FailsToOpenFiles, Finds, IsOpened, LeavesFiles}
use Rattle.sqlite.proofs.FileLemmas.{is_something}
use Rattle.sqlite.specs.Held.{Held}
use Rattle.sqlite.specs.State.{store_error}
use Rattle.sqlite.specs.declared.error.Error.{Error}
use Rattle.sqlite.specs.declared.file.Leftover.{Leftover}
use Rattle.sqlite.specs.declared.file.Leftover.TheVariants as left
use Rattle.plain_tables.specs.Tables.{Tables}
use Rattle.sql_tables.specs.States.{Rests}
use Rattle.prof_store.specs.Schema.{schema_two}
use Rattle.prof_store.specs.Tables.{Holds}
use Rattle.page_files.specs.Files.{files_of, page_size}
use Rattle.page_runs.specs.States.{faults, survives, HoldsTables, Represents}
use Rattle.page_runs.specs.declared.store.PageRuns.{PageRuns}
use Rattle.store_paths.specs.Shown.{HoldsRows}
use Rattle.store_openers.proofs.Plain.{held_rows, size_allowed}
use Rattle.store_laws.specs.Databases.{HasCause, IsOfDisk, LeavesRows}
use Rattle.store_laws.proofs.Keeping.{stands_holding}

-- its failures are those of its files
failures_of : {D : Type 0} {g : Ghosts D} (it : Pool D g) → (pools.state it).faults ≡ g.faults (pools.files it).0 + g.faults (pools.files it).1
unfolding pools.state pools.files
failures_of it = refl

pub named_of_disk : (old new : Tally) → IsOfDisk (store_error (named old new))
named_of_disk old new = elim (cases_Bool (eqb new.caught old.caught)) [
  | inl same ↦ elim (cases_Bool (eqb new.refused old.refused)) [ inl still ↦ rw (same, still) (inl refl) | inr more ↦ rw (same, more) (inr (inr refl)) ]
  | inr more ↦ rw more (inr (inl refl))
]

-- two facts of what was answered
pub both_ok : {T E : Type 0} {P Q R : T → Type 0} (r : Result T E) → ((x : T) → P x → Q x → R x) → IfOk r P → IfOk r Q → IfOk r R
both_ok (Ok x) so one other = so x one other
both_ok (Err e) so one other = tt

module _ {D : Type 0} {g : Ghosts D} (store : PageRuns D g) (files : Files D) (same : (files.log, files.db) ≡ files_of store.file) where
  -- no failure is counted by closing
  pub faults_kept : faults_of g files ≡ faults store
  faults_kept = ap (λ (fs : D × D). g.faults fs.0 + g.faults fs.1) same ∙ sym (failures_of store.file.pool)

  module _ (t : Tables) (was : Represents t store) where
    -- they can be used
    pub files_usable : (g.is_usable files.log && g.is_usable files.db) ≡ true
    files_usable = let both = open_usable store.file.pool was.reads.usable in ap (λ (fs : D × D). g.is_usable fs.0 && g.is_usable fs.1) same ∙ and_from _ _ both.0 both.1

    -- what a crash leaves of them holds the rows that it represents
    pub rows_left : (left : Image) → outcomes g files.log files.db left → HoldsTables t (page_size store.file, left)
    rows_left left may =
        let pool = store.file.pool in
        let clean = subst (λ b. IsTrue b) (clean_is pool) (clean_of (pools.state pool) was.rests.clean.is_open) in
        let here = subst (λ (fs : D × D). outcomes g fs.0 fs.1 left) same may in
        survives t store (page_size store.file, left) was (refl, (left, may_leave_is pool left clean here, λ pages found. found))

    pub holds_rows : (left : Image) → HoldsTables t (page_size store.file, left) → HoldsRows left t
    holds_rows left is = held_rows t (page_size store.file) left (size_allowed store.file.pool) is

    -- and so do they as they are read
    pub rows_held : SeenMayStay g → HoldsRows (image_of g files) t
    rows_held stays = holds_rows _ (rows_left _ (stays files.log, stays files.db))

  -- a database that was opened in files that hold rows stands with them
  pub rests_opened : (t : Tables) (conn : Held (FileStore D g)) → IsOpened conn → Finds files conn → HoldsRows (image_of g files) t → Rests schema_two (Holds t) (file_state conn)
  rests_opened t conn opened finds held =
      let s = file_state conn in
      let trees : s.now.trees ≡ held.0 = ap (λ (d : Database). d.trees) opened.0.clean ∙ finds.holds held.0 held.1 in
      let holds : Holds t s.now.trees = subst (Holds t) (sym trees) held.2 in
      record {
        schema_is = lists_once (s.now.trees catalog_tree) s.now.schema schema_two (opened.1 opened.0.is_open).0.lists holds.contain.sound.lists;
        holds = holds;
        settled = sym opened.0.clean;
        autocommit = opened.0.autocommit;
        usable = opened.0.is_open;
      }

  -- and none is refused for what it holds
  pub has_cause : (rest : Leftover D g) (e : Error) (t : Tables) → HoldsRows (image_of g files) t → FailsToOpenFiles files rest e → HasCause store rest e
  has_cause rest e t held (inl memory) = inl memory
  has_cause rest e t held (inr (inl refused)) = absurd (refused.1 (inl (held.0, held.1)))
  has_cause rest e t held (inr (inr (inl fault))) =
      inr (inl (subst IsOfDisk (sym fault.0) (named_of_disk (tally_of_files g (files.log, files.db)) (tally_left rest)), subst (λ n. MoreFaults n (faults_left rest)) faults_kept fault.1))
  has_cause rest e t held (inr (inr (inr full))) = inr (inr full)

  -- and loses nothing
  pub leaves_rows : (t : Tables) → Represents t store → SeenMayStay g → (rest : Leftover D g) → LeavesFiles files rest → LeavesRows t rest
  leaves_rows t was stays (left.Files now) leaves = λ image may. holds_rows t was image (rows_left t was image (leaves image may))
  leaves_rows t was stays (left.Unopened now) leaves = λ image may.
      let is = rows_left t was _ (stays files.log, stays files.db) in
      let held = rows_held t was stays in
      elim leaves [
        | inl nothing ↦ absurd (is_something _ held.0 held.1 nothing.0)
        | inr (there, named, begins, says, kept) ↦ elim ((kept image may).same) [
          | inl before ↦ holds_rows t was image (rows_left t was image before)
          | inr stands ↦ stands_holding t (page_size store.file) _ (size_allowed store.file.pool) is (state_of now).page_size image named says stands
        ]
      ]
  leaves_rows t was stays (left.Store now) leaves = λ db found.
      let held = rows_held t was stays in
      subst (Holds t) (sym ((leaves db found).1 held.0 held.1)) held.2
