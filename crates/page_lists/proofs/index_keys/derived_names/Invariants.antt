use Rattle.std.proofs.Common.{◌≡◌, ◌∷◌, [], map, take}
use Rattle.sqlite_value.specs.declared.value.Value.TheVariants.{Blob}
use Rattle.prof_store.specs.Tables.{number}
use Rattle.page_lists.specs.Indexed.{derived_name_key}
use Rattle.page_lists.proofs.index_keys.derived_names.Given as goal

abbrev pub invariant-loop-event : goal.invariant-loop-event
invariant-loop-event l = map (λ k. number k.0 ∷ Blob k.1.now ∷ []) l.keys.items ≡ map derived_name_key (take l.event-index l.derived)
