use Rattle.std.proofs.Common.{◌≡◌, ◌∷◌, [], map, take}
use Rattle.prof_store.specs.Tables.{number}
use Rattle.page_lists.specs.Indexed.{event_place_key}
use Rattle.page_lists.proofs.index_keys.event_places.Given as goal

abbrev pub invariant-loop-event : goal.invariant-loop-event
invariant-loop-event l = map (λ k. number k.0 ∷ number k.1 ∷ []) l.keys.items ≡ map event_place_key (take l.event-index l.events)
