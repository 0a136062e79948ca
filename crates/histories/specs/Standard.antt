-- The limits under which the program works.
use Rattle.std.specs.Prelude.{◌≡◌, ◌^◌}
use Rattle.histories.specs.declared.limits.Limits.{Limits}

-- a gibibyte for a file, a million runs, a hundred thousand groups, and numbers below 2^31
pub record IsStandard (limits : Limits) : Type 0 where
  pub bytes : limits.bytes ≡ 2 ^ 30
  pub runs : limits.runs ≡ 1000000
  pub groups : limits.groups ≡ 100000
  pub numbers : limits.numbers ≡ 2 ^ 31
