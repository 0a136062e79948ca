-- A run that is new, and one that was added.
use Rattle.std.proofs.Common.{◌≡◌, ◌≢◌, ℕ, ◌<◌, List, [], ◌∷◌, ◌++◌, Bool, true, false, not, ◌||◌, ◌==◌, bytes_eq, lt-ltb, map, refl, sym, ap, subst, ◌∙◌, arith}
use Rattle.std.specs.List.{AllByRecursion, list_any}
use Rattle.std.proofs.lemmas.Bool.{true≢false}
use Rattle.std.proofs.lemmas.Bool.Decides.{nat_tests}
use Rattle.std.proofs.lemmas.Slice.Eq.{bytes_eq-Decides}
use Rattle.plain_tables.specs.Changes.{has_run}
use Rattle.plain_tables.specs.Lists.{Has}
use Rattle.plain_tables.specs.Sound.{AreOfRuns}
use Rattle.plain_tables.specs.Tables.{Tables, RunRow, EventRow, DerivedRow, CoefRow, StoredCell, StoredCall, StoredStack}
use Rattle.plain_tables.proofs.Lists.{all_has, some_has}
use Rattle.run_lists.specs.Listed.{AreListed, run_row}
use Rattle.run_lists.specs.declared.listed.ListedRun.{ListedRun}
use Rattle.run_lists.specs.declared.listed.RunLists.{RunLists}
use Rattle.run_stores.specs.Files.{with_head}
use Rattle.sqlite_trees.specs.Tree.{Trees}
use Rattle.prof_store.specs.Tables.{Holds}
use Rattle.prof_store.proofs.Sound.{sound_of}
use Rattle.page_imports.specs.Imports.{reaches}
use Rattle.page_imports.specs.Needs.{HasNoRow}

not_any : {X : Type 0} (p : X → Bool) (xs : List X) → (list_any p xs ≡ true → ⊥) → list_any p xs ≡ false
not_any p xs never = step (list_any p xs) refl
  where
    step : (b : Bool) → list_any p xs ≡ b → list_any p xs ≡ false
    step true e = absurd (never e)
    step false e = e

-- no run has the digest
pub none_equal : (runs : List RunRow) (digest : List ℕ) → ((r : RunRow) → Has runs r → r.digest ≢ digest) → list_any (λ (r : RunRow). bytes_eq r.digest digest) runs ≡ false
none_equal runs digest none = not_any (λ (r : RunRow). bytes_eq r.digest digest) runs (λ some.
    let (r, there, same) = some_has (λ (it : RunRow). bytes_eq it.digest digest) runs some in none r there ((bytes_eq-Decides r.digest digest).0 same))

-- a run above all is not held
pub above_is_new : (t : Tables) (n : ℕ) → AllByRecursion (λ (r : RunRow). r.number < n) t.runs → has_run t n ≡ false
above_is_new t n above = not_any (λ (r : RunRow). r.number == n) t.runs (λ some.
    let (r, there, same) = some_has (λ (it : RunRow). it.number == n) t.runs some in
    let low = all_has (λ (it : RunRow). it.number < n) t.runs r above there in
    let no : ⊥ = grind (arith, nat_tests, low, same) in no)

-- so no line is of it
pub no_lines : {X : Type 0} (t : Tables) (n : ℕ) → has_run t n ≡ false → (run : X → ℕ) (lines : List X) → AreOfRuns t run lines → list_any (λ x. run x == n) lines ≡ false
no_lines t n new run lines all = not_any (λ x. run x == n) lines (λ some.
    let (x, there, same) = some_has (λ it. run it == n) lines some in
    let is : run x ≡ n = grind (arith, nat_tests, same) in
    true≢false (sym (all_has (λ it. has_run t (run it) ≡ true) lines x all there) ∙ ap (has_run t) is ∙ new))

-- one that was added is held
pub added_is_held : (runs : List RunRow) (r : RunRow) → list_any (λ (it : RunRow). it.number == r.number) (runs ++ r ∷ []) ≡ true
added_is_held [] r = ap (λ b. b || false) (let same : (r.number == r.number) ≡ true = grind (arith, nat_tests) in same)
added_is_held (first ∷ runs) r = step (first.number == r.number) (added_is_held runs r)
  where
    step : (b : Bool) → list_any (λ (it : RunRow). it.number == r.number) (runs ++ r ∷ []) ≡ true → (b || list_any (λ (it : RunRow). it.number == r.number) (runs ++ r ∷ [])) ≡ true
    step true more = refl
    step false more = more

-- the next number is reached by none
pub none_reached : (t : Tables) (lists : RunLists) (n : ℕ) → AreListed t lists → AllByRecursion (λ (r : RunRow). r.number < t.next) t.runs → t.next ≡ n → list_any (reaches n) lists.runs.items ≡ false
none_reached t lists n listed below next = go lists.runs.items (subst (AllByRecursion (λ (r : RunRow). r.number < n)) (sym listed.runs) (subst (λ m. AllByRecursion (λ (r : RunRow). r.number < m) t.runs) next below))
  where
    go : (lines : List ListedRun) → AllByRecursion (λ (r : RunRow). r.number < n) (map run_row lines) → list_any (reaches n) lines ≡ false
    go [] all = refl
    go (line ∷ lines) all = ap (λ b. not b || list_any (reaches n) lines) (lt-ltb line.entry.number n all.0) ∙ go lines all.1

-- a run that was added as the next one has no row yet
pub added_has_none : (r : RunRow) (es : List EventRow) (ds : List DerivedRow) (ks : List CoefRow) (t : Tables) (db : Trees) → Holds t db → t.next ≡ r.number → HasNoRow r.number (with_head r es ds ks t)
added_has_none r es ds ks t db holds next =
    let n = r.number in
    let new = above_is_new t n (subst (λ m. AllByRecursion (λ (it : RunRow). it.number < m) t.runs) next holds.below) in
    let sound = sound_of t db holds in
    let held = added_is_held t.runs r in
    record {
      cells = record { held = held; none = no_lines t n new (λ (c : StoredCell). c.run) t.cells sound.cells };
      calls = record { held = held; none = no_lines t n new (λ (a : StoredCall). a.run) t.calls sound.calls };
      stacks = record { held = held; none = no_lines t n new (λ (s : StoredStack). s.run) t.stacks sound.stacks };
    }
