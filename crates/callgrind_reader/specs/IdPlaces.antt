-- The places that identifiers have, as a function from them.
use Rattle.std.specs.Prelude.{ℕ, Option, Some, None}
use Rattle.std.specs.Ordering.{nat_cmp}
use Rattle.std.specs.BTreeMap.{get}
use Rattle.callgrind_reader.specs.NearPlaces.{place_near}
use Rattle.callgrind_reader.specs.declared.id_places.IdPlaces.{IdPlaces}

abbrev pub place_or : Option ℕ → Option ℕ → Option ℕ
place_or None other = other
place_or (Some place) other = Some place

-- that of the list, or else that of the map
abbrev pub place_at : IdPlaces → ℕ → Option ℕ
place_at p id = place_or (place_near p.near.items id) (get nat_cmp p.others id)
