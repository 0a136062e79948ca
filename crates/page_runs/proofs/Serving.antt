-- Why calls over rows that a store represents are refused.
use Rattle.std.proofs.Common.{◌≡◌, ◌<◌, ◌^◌, List, [], ◌∷◌, Option, ℕ, map, Result, Ok, Err, IfErr, MatchResult, refl, subst, inl, inr, arith}
use Rattle.std.specs.List.{AllByRecursion}
use Rattle.sqlite_disk.specs.declared.Disk.{Ghosts}
use Rattle.sqlite_pages.specs.declared.error.Error.{Error}
use Rattle.sqlite_pages.specs.declared.error.Error.TheVariants.{Corrupt, Io, Full, OutOfMemory}
use Rattle.sqlite_pool.specs.Pool as pools
use Rattle.sqlite_value.specs.Order.{Row}
use Rattle.sqlite_wal.proofs.StateLemmas.{open_from}
use Rattle.sql_tables.proofs.Contents.{content_there}
use Rattle.plain_tables.specs.Tables.{Tables, NameRow}
use Rattle.plain_tables.proofs.Lists.{all_has}
use Rattle.plain_tables.specs.declared.errors.StoreError.{StoreError}
use Rattle.prof_store.specs.Schema.{schema_two, name_at}
use Rattle.prof_store.specs.Tables.{contents_of, name_columns}
use Rattle.run_stores.specs.Calls.{FailsToAsk}
use Rattle.run_stores.specs.Names.{AreNarrow}
use Rattle.page_files.specs.Files.{FailsToRead, IsUsable, OnlyReads}
use Rattle.page_files.proofs.Standing.{stands_resting}
use Rattle.page_places.specs.Failures.{IsFailureOf}
use Rattle.page_places.specs.Names.{FailsToFind}
use Rattle.page_lists.specs.Refusals.{IsNameRow}
use Rattle.page_lists.specs.Shown.{ShowsRows}
use Rattle.page_lists.proofs.Rooting.{tables_show}
use Rattle.page_runs.specs.States.{IsFaithful, Represents, state_of}
use Rattle.page_runs.specs.declared.store.PageRuns.{PageRuns}
use Rattle.page_runs.proofs.States.{still_or_failed}

-- rows of names whose numbers have 32 bits are read
all_read : (names : List NameRow) → AreNarrow names → AllByRecursion IsNameRow (map name_columns names)
all_read [] all = tt
all_read (n ∷ names) all = ((n.number, n.name, all.0, refl), all_read names all.1)

module _ {D : Type 0} {g : Ghosts D} where
  names_stand : (t : Tables) (store : PageRuns D g) → Represents t store → ShowsRows store.file store.roots.names (map name_columns t.names)
  names_stand t store was =
      let roots = tables_show store.file was.db was.known (stands_resting store.file was.rests) was.holds.contain.sound store.roots was.roots in
      subst (ShowsRows store.file store.roots.names) (content_there schema_two.tables (contents_of t) was.db 5 name_at refl was.holds.contain.contents_are).rows_are roots.names

  module _ (old new : PageRuns D g) (reads : OnlyReads old.file new.file) where
    -- a failure of the pages is one of the store
    pages_failed : (error : Error) (e : StoreError) → IsFaithful new → IsUsable old.file → FailsToRead old.file new.file error → e ≡ Rattle.page_places.specs.Failures.failure_of error
        → FailsToAsk state_of old new e
    pages_failed Corrupt e faithful usable cause is = absurd cause
    pages_failed Io e faithful usable cause is =
        let was_open = open_from (pools.state old.file.pool) usable (reads.keeps.stays.clean faithful) in
        inr (inl (elim cause [ inl more ↦ more | inr shut ↦ reads.keeps.stays.closes was_open shut faithful ]))
    pages_failed Full e faithful usable cause is = inr (inr (elim cause [ inl full ↦ full | inr none ↦ absurd none ]))
    pages_failed OutOfMemory e faithful usable cause is = inl is

    -- so is one after which the store cannot be used
    pub shut_failed : (e : StoreError) (t : Tables) → Represents t old → ¬ (IsUsable new.file) → FailsToAsk state_of old new e
    shut_failed e t was shut = inr (inl (elim (still_or_failed old.file new.file reads.keeps.stays was.reads.usable) [ inl still ↦ absurd (shut still) | inr more ↦ more ]))

    -- names are not read
    pub names_failed : (e : StoreError) → IsFaithful new → (t : Tables) → Represents t old → AreNarrow t.names
        → ((rows : List Row) → ShowsRows old.file old.roots.names rows → AllByRecursion IsNameRow rows → IsFailureOf (FailsToRead old.file new.file) e) → FailsToAsk state_of old new e
    names_failed e faithful t was narrow fails =
        let why = fails _ (names_stand t old was) (all_read t.names narrow) in
        pages_failed why.0 e faithful was.reads.usable why.1 why.2

    -- the number of a name is not found
    pub number_failed : (result : Result (Option ℕ) StoreError) (P : Option ℕ → Type 0) → IsFaithful new → (t : Tables) → Represents t old → AreNarrow t.names
        → MatchResult result P (FailsToFind old.file new.file t) → IfErr result (FailsToAsk state_of old new)
    number_failed (Ok found) P faithful t was narrow told = tt
    number_failed (Err e) P faithful t was narrow (inl why) = pages_failed why.0 e faithful was.reads.usable why.1 why.2
    number_failed (Err e) P faithful t was narrow (inr wide) =
        let low = all_has (λ (n : NameRow). n.number < 2 ^ 32) t.names wide.1.line narrow wide.1.there in
        let high = wide.1.wide in
        absurd (omega (arith, low, high))
