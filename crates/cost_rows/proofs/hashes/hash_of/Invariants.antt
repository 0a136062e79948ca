use Rattle.std.proofs.Common.{◌≡◌, drop, fold}
use Rattle.cost_rows.specs.Hashes.{hash_step}
use Rattle.cost_rows.proofs.hashes.hash_of.Given as goal

-- with the bytes that are left, this is the hash of all
abbrev pub invariant-loop-byte : goal.invariant-loop-byte
invariant-loop-byte l = fold hash_step l.hash (drop l.byte-index l.name) ≡ fold hash_step 0 l.name
