-- What goes before the row of a run goes.
use Rattle.std.specs.Prelude.{◌≡◌, ℕ, false, ◌==◌, if◌then◌else◌}
use Rattle.std.specs.List.{list_any}
use Rattle.plain_tables.specs.Changes.{has_baseline, unbased, without_run}
use Rattle.plain_tables.specs.Tables.{Tables, EventRow, DerivedRow, CoefRow, StoredCell, StoredCall, StoredStack, GroupRow, MemberRow}

-- no line is of the run, and no group has it as a member or as its baseline
pub record IsUnused (n : ℕ) (t : Tables) : Type 0 where
  pub events : list_any (λ (e : EventRow). e.run == n) t.events ≡ false
  pub derived : list_any (λ (d : DerivedRow). d.run == n) t.derived ≡ false
  pub coefs : list_any (λ (c : CoefRow). c.run == n) t.coefs ≡ false
  pub cells : list_any (λ (c : StoredCell). c.run == n) t.cells ≡ false
  pub calls : list_any (λ (a : StoredCall). a.run == n) t.calls ≡ false
  pub stacks : list_any (λ (s : StoredStack). s.run == n) t.stacks ≡ false
  pub groups : list_any (has_baseline n) t.groups ≡ false
  pub members : list_any (λ (m : MemberRow). m.run == n) t.members ≡ false

-- without a run, but for its own row
abbrev pub but_its_row : ℕ → Tables → Tables
but_its_row n t = record (without_run n t) { runs = t.runs }

-- a group without the run as its baseline
abbrev pub cleared : ℕ → GroupRow → GroupRow
cleared n g = if has_baseline n g then unbased g else g
