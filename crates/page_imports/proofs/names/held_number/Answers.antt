use Rattle.std.proofs.Common.{Some, None, Result, Ok, Err, MatchResult, IsTrue, if◌then◌else◌, sym, ap, inl, inr}
use Rattle.sqlite_disk.specs.declared.Disk.{Ghosts}
use Rattle.sqlite_pool.specs.Pool.{state}
use Rattle.sqlite_pool.specs.Stored.{Keeps}
use Rattle.page_files.specs.declared.files.PageFile.{PageFile}
use Rattle.page_files.specs.Files.{IsFaithful}
use Rattle.page_files.proofs.Reading.{OnlyReads-refl}
use Rattle.page_places.specs.Failures.{FailsToStore}
use Rattle.page_places.specs.Names.{FailsToFind}
use Rattle.page_places.proofs.Failing.{reading_fails}
use Rattle.page_places.proofs.Stores.{names_writing}
use Rattle.plain_tables.specs.Files.{number_in}
use Rattle.plain_tables.specs.Tables.{Tables}
use Rattle.plain_tables.specs.declared.errors.StoreError.{StoreError}
use Rattle.page_imports.specs.Causes.{AreNarrow}
use Rattle.page_imports.proofs.names.held_number.Goals as goal

-- what was found
found_in : {T E : Type 0} (r : Result T E) (P : T → Type 0) (F G : E → Type 0) (A : Type 0) → ((e : E) → F e → G e) → MatchResult r P F → MatchResult r (λ found. A → P found) G
found_in (Ok found) P F G A so told = λ _. told
found_in (Err e) P F G A so fails = so e fails

module _ {D : Type 0} {g : Ghosts D} (old new : PageFile D g) (keeps : Keeps (state old.pool) (state new.pool)) (is_open : IsTrue (state old.pool).is_open) (clean : IsFaithful new) (t : Tables) where
  not_found : (e : StoreError) → FailsToFind old new t e → FailsToStore old new (AreNarrow t) e
  not_found e (inl (error, fails, is)) = reading_fails old new error e is keeps is_open clean fails
  not_found e (inr (is, wide)) = inr (is, λ narrow. narrow wide)

pub returns-then-is_new-clause-told : goal.returns-then-is_new-clause-told
returns-then-is_new-clause-told g c clean = λ wanted known was t shows are new.
    sym (ap (λ b. if b then Some (number_in t.names c.args.name.now) else None) (new c.if-is_new.true))

pub returns-then-is_new-clause-reads : goal.returns-then-is_new-clause-reads
returns-then-is_new-clause-reads g c = OnlyReads-refl _

pub returns-clause-told : goal.returns-clause-told
returns-clause-told g c clean = λ wanted known was t shows are.
    let file = c.args.file.now in
    let new = c.find_name.new.file in
    found_in c.find_name.result _ _ _ _ (not_found file new c.find_name.ensures.reads.keeps shows.writes.is_open clean t)
    (c.find_name.ensures.told clean t known (names_writing file shows.writes shows.holds) are.name_bytes)
