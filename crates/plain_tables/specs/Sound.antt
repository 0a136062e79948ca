-- What holds of the rows that any store keeps.
use Rattle.std.specs.Prelude.{◌≡◌, ◌<◌, ℕ, List, true}
use Rattle.std.specs.List.{AllByRecursion}
use Rattle.plain_tables.specs.Changes.{has_run}
use Rattle.plain_tables.specs.Lists.{IsAscending}
use Rattle.plain_tables.specs.Tables.{Tables, RunRow, NameRow, EventRow, DerivedRow, CoefRow, StoredCell, StoredCall, StoredStack}

-- rows that are of runs that are held
abbrev pub AreOfRuns : {X : Type 0} → Tables → (X → ℕ) → List X → Type 0
AreOfRuns t run lines = AllByRecursion (λ x. has_run t (run x) ≡ true) lines

-- the numbers of names rise, each run's number is below the next, and each row of a run is of one that is held
pub record AreSound (t : Tables) : Type 0 where
  pub names_rise : IsAscending (λ (a b : NameRow). a.number < b.number) t.names
  pub below : AllByRecursion (λ (r : RunRow). r.number < t.next) t.runs
  pub events : AreOfRuns t (λ (e : EventRow). e.run) t.events
  pub derived : AreOfRuns t (λ (d : DerivedRow). d.run) t.derived
  pub coefs : AreOfRuns t (λ (c : CoefRow). c.run) t.coefs
  pub cells : AreOfRuns t (λ (c : StoredCell). c.run) t.cells
  pub calls : AreOfRuns t (λ (a : StoredCall). a.run) t.calls
  pub stacks : AreOfRuns t (λ (s : StoredStack). s.run) t.stacks
