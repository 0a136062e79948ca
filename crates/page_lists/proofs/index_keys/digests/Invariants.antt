use Rattle.std.proofs.Common.{◌≡◌, ◌∷◌, [], map, take}
use Rattle.sqlite_value.specs.declared.value.Value.TheVariants.{Blob}
use Rattle.page_lists.specs.Indexed.{digest_key}
use Rattle.page_lists.proofs.index_keys.digests.Given as goal

abbrev pub invariant-loop-run : goal.invariant-loop-run
invariant-loop-run l = map (λ k. Blob k.now ∷ []) l.keys.items ≡ map digest_key (take l.run-index l.runs)
