use Rattle.std.proofs.Common.{◌≡◌, ◌∷◌, [], map, take}
use Rattle.prof_store.specs.Tables.{number}
use Rattle.page_lists.specs.Indexed.{coef_key}
use Rattle.page_lists.proofs.index_keys.coef_keys.Given as goal

abbrev pub invariant-loop-coef : goal.invariant-loop-coef
invariant-loop-coef l = map (λ k. number k.0 ∷ number k.1 ∷ number k.2 ∷ []) l.keys.items ≡ map coef_key (take l.coef-index l.coefs)
