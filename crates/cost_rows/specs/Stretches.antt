-- Sums by key, where each key has a stretch of its own among the sums of all.
use Rattle.std.specs.Prelude.{◌≡◌, ℕ, ◌+◌, ◌≤◌, ◌⊎◌, List, Option, Some, IfSome, take, drop, length}
use Rattle.std.specs.BTreeMap.{is_at}
use Rattle.std.specs.Map.{lookup}
use Rattle.std.specs.declared.cmp.Ordering.{Ordering}
use Rattle.profile_records.specs.Columns.{added}
use Rattle.cost_rows.specs.Own.{HaveOwn}
use Rattle.cost_rows.specs.declared.stretches.Stretch.{Stretch}

-- the sums of a stretch
abbrev pub sums_at : List ℕ → Stretch → List ℕ
sums_at sums s = take s.len (drop s.start sums)

-- a stretch that ends within so many sums
abbrev pub IsWithin : ℕ → Stretch → Type 0
IsWithin count s = s.start + s.len ≤ count

-- two stretches that share no sum
abbrev pub AreApart : Stretch → Stretch → Type 0
AreApart s t = (s.start + s.len ≤ t.start) ⊎ (t.start + t.len ≤ s.start)

-- each key has sums of its own, of which there are so many
abbrev pub HaveSums : {K : Type 0} → List (K × Stretch) → ℕ → Type 0
HaveSums entries count = HaveOwn AreApart (IsWithin count) entries

-- costs were added to the sums of a stretch, and to no others
pub record AreRaised (held : Stretch) (costs old new : List ℕ) : Type 0 where
  pub same : length new ≡ length old
  pub sums : sums_at new held ≡ added (sums_at old held) costs
  pub others : (s : Stretch) → IsWithin (length old) s → AreApart s held → sums_at new s ≡ sums_at old s

-- a key that is kept with a stretch has this stretch
abbrev pub IsHeldAt : {K : Type 0} → (K → K → Ordering) → List (K × Stretch) → Option (K × Stretch) → Type 0
IsHeldAt cmp entries kept = IfSome kept (λ e. lookup (is_at (cmp e.0)) entries ≡ Some e.1)
