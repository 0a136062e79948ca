-- What is told of one run, one group or one digest, and the numbers of runs.
use Rattle.std.specs.Prelude.{◌≡◌, ◌≢◌, ℕ, List, map, filter, Option, MatchOption}
use Rattle.plain_tables.specs.Changes.{has_member}
use Rattle.plain_tables.specs.Lists.{Has}
use Rattle.plain_tables.specs.Tables.{Tables, RunRow, GroupRow}
use Rattle.profile_records.specs.Kinds.{kind_number}
use Rattle.profile_records.specs.declared.kinds.Kind.{Kind}

-- no run has the digest, or one with this number
abbrev pub IsRunOf : List ℕ → Tables → Option ℕ → Type 0
IsRunOf digest t found = MatchOption found ((r : RunRow) → Has t.runs r → r.digest ≢ digest) (λ n. (r : RunRow) × Has t.runs r × (r.digest ≡ digest) × (r.number ≡ n))

-- a run of this number is held, and is of this kind
abbrev pub IsKindOf : ℕ → Tables → Kind → Type 0
IsKindOf run t kind = (r : RunRow) × Has t.runs r × (r.number ≡ run) × (r.kind ≡ kind_number kind)

-- a group of this name is held, and has this baseline, or none
abbrev pub IsBaselineOf : List ℕ → Tables → Option ℕ → Type 0
IsBaselineOf name t baseline = (g : GroupRow) × Has t.groups g × (g.name ≡ name) × (g.baseline ≡ baseline)

-- ---- the numbers of runs

-- of all
abbrev pub numbers_in_tables : Tables → List ℕ
numbers_in_tables t = map (λ (r : RunRow). r.number) t.runs

-- of those that are in a group
abbrev pub members_in_tables : List ℕ → Tables → List ℕ
members_in_tables name t = filter (has_member t name) (numbers_in_tables t)
