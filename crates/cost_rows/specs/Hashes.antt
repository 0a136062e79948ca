-- A number that tells most names apart.
use Rattle.std.specs.Prelude.{ℕ, ◌+◌, ◌*◌, ◌%◌, ◌^◌, List, fold}

-- a byte more
abbrev pub hash_step : ℕ → ℕ → ℕ
hash_step hash byte = ((hash * 0x9e3779b97f4a7c15) % 2 ^ 64 + byte) % 2 ^ 64

-- the bytes as the digits of a number, modulo 2^64
abbrev pub hash_of : List ℕ → ℕ
hash_of name = fold hash_step 0 name
