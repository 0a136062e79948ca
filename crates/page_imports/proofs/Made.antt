-- What several steps of an import make, one after another.
use Rattle.std.proofs.Common.{◌≡◌, ℕ, List, ◌++◌, Result, MatchResult, subst}
use Rattle.sqlite_disk.specs.declared.Disk.{Ghosts}
use Rattle.sqlite_pool.specs.Pool.{state}
use Rattle.sqlite_pool.specs.Stored.{Keeps}
use Rattle.sqlite_schema.specs.declared.schema.Table.{Table}
use Rattle.sqlite_store.specs.declared.catalog.Wanted.{Wanted}
use Rattle.sqlite_trees.specs.Tree.{Trees}
use Rattle.page_files.specs.declared.files.PageFile.{PageFile}
use Rattle.page_files.specs.Files.{IsFaithful}
use Rattle.page_places.specs.declared.roots.StoreRoots.{StoreRoots}
use Rattle.page_places.specs.Failures.{FailsToStore}
use Rattle.page_places.specs.Roots.{AreRoots}
use Rattle.page_places.proofs.Failing.{store_fails_later}
use Rattle.plain_tables.specs.Tables.{Tables}
use Rattle.plain_tables.specs.declared.errors.StoreError.{StoreError}
use Rattle.page_places.proofs.Outcomes.{match_result}
use Rattle.prof_store.specs.Tables.{Holds}
use Rattle.page_imports.specs.Steps.{HasMade, KeepsOthers, Makes, ShowsTables}
use Rattle.page_imports.proofs.Kept.{kept_then}

module _ {D : Type 0} {g : Ghosts D} where
  -- a step that was made
  abbrev pub IsMade : PageFile D g → PageFile D g → StoreRoots → List Table → (Tables → Type 0) → (Tables → Tables) → Type 0
  IsMade old new roots changed Needs change =
      IsFaithful new → (wanted : List Wanted) (known : List ℕ) (was : Trees) (t : Tables) (shows : ShowsTables wanted known was t old) → AreRoots known roots
      → Needs t → HasMade changed wanted known was shows.next (change t) new

  joined : (first second : List Table) (wanted : List Wanted) (known : List ℕ) (was now : Trees) (t u : Tables) (mid new : PageFile D g) (a : HasMade first wanted known was now t mid) → HasMade second wanted known was a.shows.next u new
      → HasMade (first ++ second) wanted known was now u new
  joined first second wanted known was now t u mid new a b = record { shows = b.shows; kept = kept_then first second now a.shows.next b.shows.next a.kept b.kept }

  -- the same tables, written otherwise
  pub makes_as : (old new : PageFile D g) (roots : StoreRoots) (changed : List Table) (Needs : Tables → Type 0) (change other : Tables → Tables) (Can : Tables → Trees → Type 0) {B : Type 0} (r : Result B StoreError)
      → ((t : Tables) → change t ≡ other t) → Makes old new roots changed Needs change Can r → Makes old new roots changed Needs other Can r
  makes_as old new roots changed Needs change other Can r same makes clean wanted known was t shows are need =
      subst (λ u. MatchResult r (λ _. HasMade changed wanted known was shows.next u new) (FailsToStore old new (Can t shows.next))) (same t) (makes clean wanted known was t shows are need)

  module _ (old mid new : PageFile D g) (roots : StoreRoots) (first second : List Table) (Needs₁ Needs₂ Needs : Tables → Type 0) (change₁ change₂ : Tables → Tables)
      (before : IsFaithful new → IsFaithful mid) (needs : (t : Tables) (now : Trees) → Holds t now → Needs t → Needs₁ t × Needs₂ (change₁ t)) (one : IsMade old mid roots first Needs₁ change₁) where
    -- two steps that were made
    pub made_then : IsMade mid new roots second Needs₂ change₂ → IsMade old new roots (first ++ second) Needs (λ t. change₂ (change₁ t))
    made_then two clean wanted known was t shows are need =
        let both = needs t shows.next shows.holds need in
        let a = one (before clean) wanted known was t shows are both.0 in
        joined first second wanted known was shows.next (change₁ t) (change₂ (change₁ t)) mid new a (two clean wanted known was (change₁ t) a.shows are both.1)

    -- one that was made, and one that may fail
    pub makes_then : (Can₂ Can : Tables → Trees → Type 0) {B : Type 0} (r : Result B StoreError) → Keeps (state old.pool) (state mid.pool)
        → ((t : Tables) (now next : Trees) → Can t now → KeepsOthers first now next → Can₂ (change₁ t) next) → Makes mid new roots second Needs₂ change₂ Can₂ r
        → Makes old new roots (first ++ second) Needs (λ t. change₂ (change₁ t)) Can r
    makes_then Can₂ Can r keeps can two clean wanted known was t shows are need =
        let both = needs t shows.next shows.holds need in
        go both.1 (one (before clean) wanted known was t shows are both.0)
      where
        go : Needs₂ (change₁ t) → HasMade first wanted known was shows.next (change₁ t) mid
            → MatchResult r (λ _. HasMade (first ++ second) wanted known was shows.next (change₂ (change₁ t)) new) (FailsToStore old new (Can t shows.next))
        go later a =
            match_result r (joined first second wanted known was shows.next (change₁ t) (change₂ (change₁ t)) mid new a)
            (λ e. store_fails_later old mid new e keeps (λ all. can t shows.next a.shows.next all a.kept)) (two clean wanted known was (change₁ t) a.shows are later)
