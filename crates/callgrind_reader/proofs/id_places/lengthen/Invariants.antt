use Rattle.std.proofs.Common.{◌≡◌, ℕ, ◌-◌, vec_len}
use Rattle.callgrind_reader.specs.NearPlaces.{place_near}
use Rattle.callgrind_reader.proofs.id_places.lengthen.Given as goal

-- the places of all identifiers are as they were
abbrev pub invariant-loop-near : goal.invariant-loop-near
invariant-loop-near l = (id : ℕ) → place_near l.near.items id ≡ place_near l.fn.near.items id

abbrev pub decreases-loop-near : goal.decreases-loop-near
decreases-loop-near l = l.count - vec_len l.near
